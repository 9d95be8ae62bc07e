use Rattle.std.specs.Prelude.{[], map}
use Rattle.std.proofs.Common.{refl, sym, ap, subst, ◌∙◌, arith}
use Rattle.swift_calls.specs.Step.{IsContainerName}
use Rattle.list_pages.specs.Listing.{name_in}
use Rattle.account_calls.specs.Calls.{always, Any}
use Rattle.account_calls.specs.FilePages.{next_after}
use Rattle.account_calls.proofs.lemmas.Left.{throughout_then}
use Rattle.leftovers.proofs.lemmas.PageRead.{all_keys, as_asked, as_page, as_read, next_is_marker, page_few}
use Rattle.account_calls.proofs.lemmas.Idle.{grows_none}
use Rattle.leftovers.proofs.Held.{page_holds}
use Rattle.leftovers.proofs.Gathers.{folder_fits, gather_broken, gather_failed, gather_more, gather_no_memory, gather_pays, gather_pays_broken, gather_pays_failed}
use Rattle.leftovers.specs.Faults.{as_plan}
use Rattle.leftovers.proofs.lemmas.Faults.{plan_gives}
use Rattle.leftovers.proofs.gathering.gather_page.Goals as goal

pub file_page-requires-clause-folder : goal.file_page-requires-clause-folder
file_page-requires-clause-folder g c = subst IsContainerName (sym (c.as_slice.ensures ∙ c.requires.folder)) (folder_fits c.args.files.now.source c.args.files.now.bucket.now c.requires.bucket)

pub returns-in_err-page-clause-asks : goal.returns-in_err-page-clause-asks
returns-in_err-page-clause-asks g c = gather_failed c.args.files.now.source c.args.files.now.bucket.now _ _ (as_asked c.as_slice.ensures refl c.as_slice-2.ensures c.in_err-page.ensures.asks) (as_plan c.from_residual.result) (plan_gives _ _ c.from_residual.ensures.1)

pub returns-in_err-page-clause-pays : goal.returns-in_err-page-clause-pays
returns-in_err-page-clause-pays g c = gather_pays_failed c.args.files.now.source c.args.files.now.bucket.now c.args.table.now c.args.table.now (as_asked c.as_slice.ensures refl c.as_slice-2.ensures c.in_err-page.ensures.asks) (as_plan c.from_residual.result) (plan_gives _ _ c.from_residual.ensures.1)

pub returns-in_err-next-clause-asks : goal.returns-in_err-next-clause-asks
returns-in_err-next-clause-asks g c =
    gather_no_memory c.args.files.now.source c.args.files.now.folder.now c.args.files.now.bucket.now c.args.marker.now _ _ _ (as_read c.as_slice.ensures refl c.as_slice-2.ensures refl c.in_ok-page.ensures.asks) (as_plan c.from_residual-in_err-next.result) (plan_gives _ _ c.from_residual-in_err-next.ensures.1)

pub returns-in_err-next-clause-pays : goal.returns-in_err-next-clause-pays
returns-in_err-next-clause-pays g c =
    gather_pays_broken c.args.files.now.source c.args.files.now.folder.now c.args.files.now.bucket.now c.args.marker.now _ c.args.table.now c.args.table.now (as_read c.as_slice.ensures refl c.as_slice-2.ensures refl c.in_ok-page.ensures.asks) (grows_none (always _) Any _) _ (as_plan c.from_residual-in_err-next.result) (plan_gives _ _ c.from_residual-in_err-next.ensures.1)

pub add_items-requires-clause-names : goal.add_items-requires-clause-names
add_items-requires-clause-names g c = all_keys [] _ (as_page refl refl c.as_slice-4.ensures c.in_ok-page.ensures.page).named

pub returns-in_err-add_items-clause-asks : goal.returns-in_err-add_items-clause-asks
returns-in_err-add_items-clause-asks g c =
    gather_broken c.args.files.now.source c.args.files.now.folder.now c.args.files.now.bucket.now c.args.marker.now c.as_slice-4.result.now c.args.table.now c.add_items.new.table (as_read c.as_slice.ensures refl c.as_slice-2.ensures c.as_slice-4.ensures c.in_ok-page.ensures.asks)
    (page_few _ (as_page refl refl c.as_slice-4.ensures c.in_ok-page.ensures.page)) c.in_err-add_items.ensures.asks (as_plan c.from_residual-in_err-add_items.result) (plan_gives _ _ c.from_residual-in_err-add_items.ensures.1)

pub returns-in_err-add_items-clause-pays : goal.returns-in_err-add_items-clause-pays
returns-in_err-add_items-clause-pays g c =
    gather_pays_broken c.args.files.now.source c.args.files.now.folder.now c.args.files.now.bucket.now c.args.marker.now c.as_slice-4.result.now c.args.table.now c.add_items.new.table (as_read c.as_slice.ensures refl c.as_slice-2.ensures c.as_slice-4.ensures c.in_ok-page.ensures.asks)
    c.in_err-add_items.ensures.asks.grows _ (as_plan c.from_residual-in_err-add_items.result) (plan_gives _ _ c.from_residual-in_err-add_items.ensures.1)

pub returns-clause-counted : goal.returns-clause-counted
returns-clause-counted g c =
    let far = c.in_ok-add_items.ensures.asks.grows.on.ordered in
    let near = c.in_ok-page.ensures.counted.1 in
    (c.in_ok-page.ensures.counted.0, omega (arith, far, near))

pub returns-clause-is_marker : goal.returns-clause-is_marker
returns-clause-is_marker g c =
    next_is_marker _ _ _ c.in_ok-next.next (as_page refl refl c.as_slice-4.ensures c.in_ok-page.ensures.page) (c.in_ok-next.ensures ∙ ap (λ p. next_after (map name_in p)) (c.as_slice-3.ensures ∙ sym c.as_slice-4.ensures))

pub returns-clause-asks : goal.returns-clause-asks
returns-clause-asks g c =
    gather_more c.args.files.now.source c.args.files.now.folder.now c.args.files.now.bucket.now c.args.marker.now c.as_slice-4.result.now c.args.table.now c.add_items.new.table (as_read c.as_slice.ensures refl c.as_slice-2.ensures c.as_slice-4.ensures c.in_ok-page.ensures.asks)
    (page_few _ (as_page refl refl c.as_slice-4.ensures c.in_ok-page.ensures.page)) c.in_ok-next.next (c.in_ok-next.ensures ∙ ap (λ p. next_after (map name_in p)) (c.as_slice-3.ensures ∙ sym c.as_slice-4.ensures)) c.in_ok-add_items.ensures.asks

pub returns-clause-pays : goal.returns-clause-pays
returns-clause-pays g c =
    let first = as_read c.as_slice.ensures refl c.as_slice-2.ensures c.as_slice-4.ensures c.in_ok-page.ensures.asks in
    let few = page_few _ (as_page refl refl c.as_slice-4.ensures c.in_ok-page.ensures.page) in
    let next = c.in_ok-next.ensures ∙ ap (λ p. next_after (map name_in p)) (c.as_slice-3.ensures ∙ sym c.as_slice-4.ensures) in
    gather_pays c.args.files.now.source c.args.files.now.folder.now c.args.files.now.bucket.now c.args.marker.now c.as_slice-4.result.now c.args.table.now c.add_items.new.table first c.in_ok-add_items.ensures.asks.grows few c.in_ok-next.next
    (gather_more c.args.files.now.source c.args.files.now.folder.now c.args.files.now.bucket.now c.args.marker.now c.as_slice-4.result.now c.args.table.now c.add_items.new.table first few c.in_ok-next.next next c.in_ok-add_items.ensures.asks)

pub returns-in_err-add_items-clause-leaves : goal.returns-in_err-add_items-clause-leaves
returns-in_err-add_items-clause-leaves g c = throughout_then c.in_ok-page.ensures.asks.grows.on c.in_err-add_items.ensures.asks.grows.on c.in_ok-page.ensures.leaves c.in_err-add_items.ensures.leaves

pub returns-clause-leaves : goal.returns-clause-leaves
returns-clause-leaves g c = throughout_then c.in_ok-page.ensures.asks.grows.on c.in_ok-add_items.ensures.asks.grows.on c.in_ok-page.ensures.leaves c.in_ok-add_items.ensures.leaves

pub returns-clause-holds : goal.returns-clause-holds
returns-clause-holds g c = λ observable.
    page_holds c.args.files.now.source c.args.files.now.folder.now c.args.files.now.bucket.now c.args.marker.now c.add_items.new.table c.in_ok-page.ensures.asks.grows.on c.in_ok-page.ensures.leaves observable c.in_ok-page.page c.as_slice-4.result.now c.as_slice.ensures c.as_slice-2.ensures c.as_slice-4.ensures
    (c.in_ok-page.ensures.says observable) c.in_ok-add_items.ensures.holds c.in_ok-next.next (c.in_ok-next.ensures ∙ ap (λ p. next_after (map name_in p)) (c.as_slice-3.ensures ∙ sym c.as_slice-4.ensures))

pub returns-clause-stays : goal.returns-clause-stays
returns-clause-stays g c = c.in_ok-add_items.ensures.stays
