use Rattle.std.specs.Prelude.{map}
use Rattle.std.proofs.Common.{refl, sym, ap, subst, ◌∙◌, arith}
use Rattle.swift_calls.specs.Step.{IsContainerName}
use Rattle.list_pages.specs.Listing.{name_in}
use Rattle.account_calls.specs.Calls.{always, Any}
use Rattle.account_calls.specs.FilePages.{next_after}
use Rattle.account_calls.proofs.lemmas.Idle.{grows_none}
use Rattle.account_calls.proofs.lemmas.Left.{throughout_then}
use Rattle.account_calls.proofs.lemmas.SideNames.{segments_fits}
use Rattle.leftovers.specs.Kept.{goes}
use Rattle.leftovers.proofs.AskWalk.{clears_then, page_asked, page_broken, page_failed, page_more, page_no_memory, pays_broken, pays_failed, pays_page}
use Rattle.leftovers.proofs.lemmas.PageRead.{as_asked, as_page, as_read, next_is_marker, page_few}
use Rattle.leftovers.specs.Faults.{as_plan}
use Rattle.leftovers.proofs.lemmas.Faults.{plan_gives}
use Rattle.leftovers.proofs.asking.ask_page.Goals as goal

pub file_page-requires-clause-folder : goal.file_page-requires-clause-folder
file_page-requires-clause-folder g c = subst IsContainerName (sym (c.as_slice.ensures ∙ c.requires.folder)) (segments_fits c.args.bucket.now c.requires.bucket)

pub returns-in_err-page-clause-asks : goal.returns-in_err-page-clause-asks
returns-in_err-page-clause-asks g c = page_failed c.args.bucket.now (goes c.args.kept.now) (as_asked c.as_slice.ensures refl c.as_slice-2.ensures c.in_err-page.ensures.asks) (as_plan c.from_residual.result) (plan_gives _ _ c.from_residual.ensures.1)

pub returns-in_err-page-clause-pays : goal.returns-in_err-page-clause-pays
returns-in_err-page-clause-pays g c = pays_failed c.args.bucket.now (goes c.args.kept.now) (as_asked c.as_slice.ensures refl c.as_slice-2.ensures c.in_err-page.ensures.asks) (as_plan c.from_residual.result) (plan_gives _ _ c.from_residual.ensures.1)

pub returns-in_err-next-clause-asks : goal.returns-in_err-next-clause-asks
returns-in_err-next-clause-asks g c = page_no_memory c.args.folder.now c.args.bucket.now c.args.marker.now (goes c.args.kept.now) c.requires.folder (as_read c.as_slice.ensures refl c.as_slice-2.ensures refl c.in_ok-page.ensures.asks) (as_plan c.from_residual-in_err-next.result) (plan_gives _ _ c.from_residual-in_err-next.ensures.1)

pub returns-in_err-next-clause-pays : goal.returns-in_err-next-clause-pays
returns-in_err-next-clause-pays g c =
    pays_broken c.args.folder.now c.args.bucket.now c.args.marker.now (goes c.args.kept.now) c.requires.folder (as_read c.as_slice.ensures refl c.as_slice-2.ensures refl c.in_ok-page.ensures.asks) (grows_none (always _) Any _) _ (as_plan c.from_residual-in_err-next.result) (plan_gives _ _ c.from_residual-in_err-next.ensures.1)

pub returns-in_err-ask_items-clause-asks : goal.returns-in_err-ask_items-clause-asks
returns-in_err-ask_items-clause-asks g c =
    page_broken c.args.folder.now c.args.bucket.now c.args.marker.now (goes c.args.kept.now) c.requires.folder (as_read c.as_slice.ensures refl c.as_slice-2.ensures c.as_slice-4.ensures c.in_ok-page.ensures.asks)
    (page_few _ (as_page refl refl c.as_slice-4.ensures c.in_ok-page.ensures.page)) c.in_err-ask_items.ensures.asks (as_plan c.from_residual-in_err-ask_items.result) (plan_gives _ _ c.from_residual-in_err-ask_items.ensures.1)

pub returns-in_err-ask_items-clause-pays : goal.returns-in_err-ask_items-clause-pays
returns-in_err-ask_items-clause-pays g c =
    pays_broken c.args.folder.now c.args.bucket.now c.args.marker.now (goes c.args.kept.now) c.requires.folder (as_read c.as_slice.ensures refl c.as_slice-2.ensures c.as_slice-4.ensures c.in_ok-page.ensures.asks)
    c.in_err-ask_items.ensures.asks.grows _ (as_plan c.from_residual-in_err-ask_items.result) (plan_gives _ _ c.from_residual-in_err-ask_items.ensures.1)

pub returns-in_err-ask_items-clause-leaves : goal.returns-in_err-ask_items-clause-leaves
returns-in_err-ask_items-clause-leaves g c = throughout_then c.in_ok-page.ensures.asks.grows.on c.in_err-ask_items.ensures.asks.grows.on c.in_ok-page.ensures.leaves c.in_err-ask_items.ensures.leaves

pub returns-clause-counted : goal.returns-clause-counted
returns-clause-counted g c =
    let far = c.in_ok-ask_items.ensures.asks.grows.on.ordered in
    let near = c.in_ok-page.ensures.counted.1 in
    (c.in_ok-page.ensures.counted.0, omega (arith, far, near))

pub returns-clause-is_marker : goal.returns-clause-is_marker
returns-clause-is_marker g c =
    next_is_marker _ _ _ c.in_ok-next.next (as_page refl refl c.as_slice-4.ensures c.in_ok-page.ensures.page) (c.in_ok-next.ensures ∙ ap (λ p. next_after (map name_in p)) (c.as_slice-3.ensures ∙ sym c.as_slice-4.ensures))

pub returns-clause-asks : goal.returns-clause-asks
returns-clause-asks g c =
    page_more c.args.folder.now c.args.bucket.now c.args.marker.now (goes c.args.kept.now) c.requires.folder (as_read c.as_slice.ensures refl c.as_slice-2.ensures c.as_slice-4.ensures c.in_ok-page.ensures.asks)
    (page_few _ (as_page refl refl c.as_slice-4.ensures c.in_ok-page.ensures.page)) c.in_ok-next.next (c.in_ok-next.ensures ∙ ap (λ p. next_after (map name_in p)) (c.as_slice-3.ensures ∙ sym c.as_slice-4.ensures)) c.in_ok-ask_items.ensures.asks

pub returns-clause-pays : goal.returns-clause-pays
returns-clause-pays g c =
    let first = as_read c.as_slice.ensures refl c.as_slice-2.ensures c.as_slice-4.ensures c.in_ok-page.ensures.asks in
    let few = page_few _ (as_page refl refl c.as_slice-4.ensures c.in_ok-page.ensures.page) in
    let next = c.in_ok-next.ensures ∙ ap (λ p. next_after (map name_in p)) (c.as_slice-3.ensures ∙ sym c.as_slice-4.ensures) in
    pays_page c.args.folder.now c.args.bucket.now c.args.marker.now (goes c.args.kept.now) c.requires.folder first c.in_ok-ask_items.ensures.asks.grows few c.in_ok-next.next
    (page_more c.args.folder.now c.args.bucket.now c.args.marker.now (goes c.args.kept.now) c.requires.folder first few c.in_ok-next.next next c.in_ok-ask_items.ensures.asks)

pub returns-clause-clear : goal.returns-clause-clear
returns-clause-clear g c = clears_then c.args.bucket.now (goes c.args.kept.now) _ _ _ c.in_ok-page.ensures.asks.grows.on c.in_ok-page.ensures.leaves (λ observable clear. clear) c.in_ok-ask_items.ensures.clear

pub returns-clause-asked : goal.returns-clause-asked
returns-clause-asked g c = λ observable.
    page_asked (g.W.Swift.history c.args.store.now) c.args.folder.now c.args.marker.now (goes c.args.kept.now) c.ask_items.new.asked c.in_ok-page.page c.as_slice-4.result.now c.as_slice.ensures c.as_slice-2.ensures c.as_slice-4.ensures
    (c.in_ok-page.ensures.says observable) c.in_ok-ask_items.ensures.asked c.in_ok-next.next (c.in_ok-next.ensures ∙ ap (λ p. next_after (map name_in p)) (c.as_slice-3.ensures ∙ sym c.as_slice-4.ensures))

pub returns-clause-stays : goal.returns-clause-stays
returns-clause-stays g c = c.in_ok-ask_items.ensures.stays

pub returns-clause-leaves : goal.returns-clause-leaves
returns-clause-leaves g c = throughout_then c.in_ok-page.ensures.asks.grows.on c.in_ok-ask_items.ensures.asks.grows.on c.in_ok-page.ensures.leaves c.in_ok-ask_items.ensures.leaves
