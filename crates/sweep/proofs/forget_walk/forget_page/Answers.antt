use Rattle.std.specs.Prelude.{[], map}
use Rattle.std.proofs.Common.{refl, sym, ap, subst, ◌∙◌, arith}
use Rattle.swift_calls.specs.Step.{IsContainerName}
use Rattle.list_pages.specs.Listing.{name_in}
use Rattle.account_calls.specs.FilePages.{next_after}
use Rattle.account_calls.proofs.lemmas.SideNames.{uploads_fits}
use Rattle.leftovers.proofs.lemmas.PageRead.{all_keys, as_asked, as_page, as_read, next_is_marker}
use Rattle.sweep.proofs.AgingPage.{page_aged, page_broken, page_distinct, page_failed, page_no_memory, pays_broken_by, pays_failed, pays_no_memory, pays_page}
use Rattle.leftovers.proofs.lemmas.Faults.{plan_gives}
use Rattle.leftovers.specs.Faults.{as_plan}
use Rattle.sweep.proofs.forget_walk.forget_page.Goals as goal

pub aging_page-requires-clause-folder : goal.aging_page-requires-clause-folder
aging_page-requires-clause-folder g c = subst IsContainerName (sym c.requires.folder.1.1) (uploads_fits c.requires.folder.0 c.requires.folder.1.0)

pub returns-in_err-page-clause-forgets : goal.returns-in_err-page-clause-forgets
returns-in_err-page-clause-forgets g c = λ bucket of. page_failed bucket c.args.marker.now (as_asked of.1 refl refl c.in_err-page.ensures.asks) (as_plan c.from_residual.result) (plan_gives _ _ c.from_residual.ensures.1)

pub returns-in_err-page-clause-pays : goal.returns-in_err-page-clause-pays
returns-in_err-page-clause-pays g c = λ bucket of. pays_failed bucket c.args.marker.now (as_asked of.1 refl refl c.in_err-page.ensures.asks) (as_plan c.from_residual.result) (plan_gives _ _ c.from_residual.ensures.1)

pub returns-in_err-next-clause-forgets : goal.returns-in_err-next-clause-forgets
returns-in_err-next-clause-forgets g c = λ bucket of.
    page_no_memory bucket c.args.marker.now _ (as_read of.1 refl refl refl c.in_ok-page.ensures.asks) c.in_ok-page.ensures.page (as_plan c.from_residual-in_err-next.result)
    (plan_gives _ _ c.from_residual-in_err-next.ensures.1)

pub returns-in_err-next-clause-pays : goal.returns-in_err-next-clause-pays
returns-in_err-next-clause-pays g c = λ bucket of.
    pays_no_memory bucket c.args.marker.now _ (as_read of.1 refl refl refl c.in_ok-page.ensures.asks) c.in_ok-page.ensures.page (as_plan c.from_residual-in_err-next.result)
    (plan_gives _ _ c.from_residual-in_err-next.ensures.1)

pub forget_items-requires-clause-names : goal.forget_items-requires-clause-names
forget_items-requires-clause-names g c = all_keys [] _ (as_page refl refl c.as_slice-2.ensures c.in_ok-page.ensures.page).named

pub returns-in_err-told-clause-forgets : goal.returns-in_err-told-clause-forgets
returns-in_err-told-clause-forgets g c = λ bucket of.
    let first = as_read of.1 refl refl c.as_slice-2.ensures c.in_ok-page.ensures.asks in
    let page = as_page refl refl c.as_slice-2.ensures c.in_ok-page.ensures.page in
    page_broken bucket c.args.marker.now c.as_slice-2.result.now first page c.in_ok-next.next (c.in_ok-next.ensures ∙ ap (λ p. next_after (map name_in p)) (c.as_slice.ensures ∙ sym c.as_slice-2.ensures))
    (c.in_err-told.ensures.forgets bucket of (page_distinct bucket c.args.marker.now c.as_slice-2.result.now first page)) (as_plan c.from_residual-in_err-told.result) (plan_gives _ _ c.from_residual-in_err-told.ensures.1)

pub returns-in_err-told-clause-pays : goal.returns-in_err-told-clause-pays
returns-in_err-told-clause-pays g c = λ bucket of.
    let first = as_read of.1 refl refl c.as_slice-2.ensures c.in_ok-page.ensures.asks in
    let page = as_page refl refl c.as_slice-2.ensures c.in_ok-page.ensures.page in
    pays_broken_by bucket c.args.marker.now c.as_slice-2.result.now first page (c.in_err-told.ensures.forgets bucket of (page_distinct bucket c.args.marker.now c.as_slice-2.result.now first page)) c.in_err-told.ensures.near _ (as_plan c.from_residual-in_err-told.result) (plan_gives _ _ c.from_residual-in_err-told.ensures.1)

pub returns-clause-is_marker : goal.returns-clause-is_marker
returns-clause-is_marker g c =
    next_is_marker _ _ _ c.in_ok-next.next (as_page refl refl c.as_slice-2.ensures c.in_ok-page.ensures.page) (c.in_ok-next.ensures ∙ ap (λ p. next_after (map name_in p)) (c.as_slice.ensures ∙ sym c.as_slice-2.ensures))

pub returns-clause-forgets : goal.returns-clause-forgets
returns-clause-forgets g c = λ bucket of.
    let first = as_read of.1 refl refl c.as_slice-2.ensures c.in_ok-page.ensures.asks in
    let page = as_page refl refl c.as_slice-2.ensures c.in_ok-page.ensures.page in
    page_aged bucket c.args.marker.now c.as_slice-2.result.now first page c.in_ok-next.next (c.in_ok-next.ensures ∙ ap (λ p. next_after (map name_in p)) (c.as_slice.ensures ∙ sym c.as_slice-2.ensures))
    c.in_ok-told.told (c.in_ok-told.ensures.forgets bucket of (page_distinct bucket c.args.marker.now c.as_slice-2.result.now first page))

pub returns-clause-pays : goal.returns-clause-pays
returns-clause-pays g c = λ bucket of.
    let first = as_read of.1 refl refl c.as_slice-2.ensures c.in_ok-page.ensures.asks in
    let page = as_page refl refl c.as_slice-2.ensures c.in_ok-page.ensures.page in
    let next = c.in_ok-next.ensures ∙ ap (λ p. next_after (map name_in p)) (c.as_slice.ensures ∙ sym c.as_slice-2.ensures) in
    pays_page bucket c.args.marker.now c.as_slice-2.result.now first page _ c.in_ok-told.ensures.near c.in_ok-told.told c.in_ok-next.next
    (page_aged bucket c.args.marker.now c.as_slice-2.result.now first page c.in_ok-next.next next c.in_ok-told.told (c.in_ok-told.ensures.forgets bucket of (page_distinct bucket c.args.marker.now c.as_slice-2.result.now first page)))

pub returns-clause-counted : goal.returns-clause-counted
returns-clause-counted g c =
    let budgeted = c.in_ok-page.ensures.counted.0 in
    let near = c.in_ok-page.ensures.counted.1 in
    let far = c.in_ok-told.ensures.counted.0 in
    (omega (arith, budgeted, near, far), c.in_ok-told.ensures.counted.1 (omega (arith, budgeted, near)))
