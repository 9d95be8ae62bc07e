use Rattle.std.specs.Prelude.{[], map}
use Rattle.std.proofs.Common.{refl, sym, ap, ◌∙◌, arith}
use Rattle.list_pages.specs.Listing.{name_in}
use Rattle.account_calls.specs.Calls.{always, Any}
use Rattle.account_calls.specs.FilePages.{next_after}
use Rattle.leftovers.proofs.lemmas.PageRead.{all_keys, as_asked, as_page, as_read, next_is_marker, page_few}
use Rattle.account_calls.proofs.lemmas.Idle.{grows_none}
use Rattle.leftovers.specs.Kept.{goes}
use Rattle.leftovers.proofs.PageSweep.{page_broken, page_failed, page_no_memory, page_swept, pays_broken, pays_failed, pays_page}
use Rattle.leftovers.proofs.Sparing.{spare_left, spare_then}
use Rattle.leftovers.specs.Faults.{as_plan}
use Rattle.leftovers.proofs.lemmas.Faults.{plan_gives}
use Rattle.leftovers.proofs.files.sweep_page.Goals as goal

pub returns-in_err-page-clause-asks : goal.returns-in_err-page-clause-asks
returns-in_err-page-clause-asks g c = λ bucket. page_failed bucket (goes c.args.kept.now) (as_asked c.as_slice.ensures refl c.as_slice-2.ensures c.in_err-page.ensures.asks) (as_plan c.from_residual.result) (plan_gives _ _ c.from_residual.ensures.1)

pub returns-in_err-page-clause-pays : goal.returns-in_err-page-clause-pays
returns-in_err-page-clause-pays g c = λ bucket. pays_failed bucket (goes c.args.kept.now) (as_asked c.as_slice.ensures refl c.as_slice-2.ensures c.in_err-page.ensures.asks) (as_plan c.from_residual.result) (plan_gives _ _ c.from_residual.ensures.1)

pub returns-in_err-next-clause-asks : goal.returns-in_err-next-clause-asks
returns-in_err-next-clause-asks g c = λ bucket. page_no_memory bucket (goes c.args.kept.now) (as_read c.as_slice.ensures refl c.as_slice-2.ensures refl c.in_ok-page.ensures.asks) (as_plan c.from_residual-in_err-next.result) (plan_gives _ _ c.from_residual-in_err-next.ensures.1)

pub returns-in_err-next-clause-pays : goal.returns-in_err-next-clause-pays
returns-in_err-next-clause-pays g c = λ bucket.
    pays_broken bucket (goes c.args.kept.now) (as_read c.as_slice.ensures refl c.as_slice-2.ensures refl c.in_ok-page.ensures.asks) (grows_none (always _) Any _) _ (as_plan c.from_residual-in_err-next.result) (plan_gives _ _ c.from_residual-in_err-next.ensures.1)

pub sweep_items-requires-clause-names : goal.sweep_items-requires-clause-names
sweep_items-requires-clause-names g c = all_keys [] _ (as_page refl refl c.as_slice-4.ensures c.in_ok-page.ensures.page).named

pub sweep_items-requires-clause-few : goal.sweep_items-requires-clause-few
sweep_items-requires-clause-few g c = page_few _ (as_page refl refl c.as_slice-4.ensures c.in_ok-page.ensures.page)

pub returns-in_err-count-clause-asks : goal.returns-in_err-count-clause-asks
returns-in_err-count-clause-asks g c = λ bucket.
    page_broken bucket (goes c.args.kept.now) (as_read c.as_slice.ensures refl c.as_slice-2.ensures c.as_slice-4.ensures c.in_ok-page.ensures.asks)
    (page_few _ (as_page refl refl c.as_slice-4.ensures c.in_ok-page.ensures.page)) (c.in_err-count.ensures.asks bucket) (as_plan c.from_residual-in_err-count.result) (plan_gives _ _ c.from_residual-in_err-count.ensures.1)

pub returns-in_err-count-clause-pays : goal.returns-in_err-count-clause-pays
returns-in_err-count-clause-pays g c = λ bucket.
    pays_broken bucket (goes c.args.kept.now) (as_read c.as_slice.ensures refl c.as_slice-2.ensures c.as_slice-4.ensures c.in_ok-page.ensures.asks)
    (c.in_err-count.ensures.asks bucket).grows _ (as_plan c.from_residual-in_err-count.result) (plan_gives _ _ c.from_residual-in_err-count.ensures.1)

pub returns-clause-counted : goal.returns-clause-counted
returns-clause-counted g c =
    let far = c.in_ok-count.ensures.counted in
    let near = c.in_ok-page.ensures.counted.1 in
    (c.in_ok-page.ensures.counted.0, omega (arith, far, near))

pub returns-clause-is_marker : goal.returns-clause-is_marker
returns-clause-is_marker g c =
    next_is_marker _ _ _ c.in_ok-next.next (as_page refl refl c.as_slice-4.ensures c.in_ok-page.ensures.page) (c.in_ok-next.ensures ∙ ap (λ p. next_after (map name_in p)) (c.as_slice-3.ensures ∙ sym c.as_slice-4.ensures))

pub returns-clause-asks : goal.returns-clause-asks
returns-clause-asks g c = λ bucket.
    page_swept bucket (goes c.args.kept.now) (as_read c.as_slice.ensures refl c.as_slice-2.ensures c.as_slice-4.ensures c.in_ok-page.ensures.asks)
    (page_few _ (as_page refl refl c.as_slice-4.ensures c.in_ok-page.ensures.page)) c.in_ok-count.count c.in_ok-count.ensures.tally c.in_ok-next.next
    (c.in_ok-next.ensures ∙ ap (λ p. next_after (map name_in p)) (c.as_slice-3.ensures ∙ sym c.as_slice-4.ensures)) (c.in_ok-count.ensures.asks bucket)

pub returns-clause-pays : goal.returns-clause-pays
returns-clause-pays g c = λ bucket.
    let asks = c.in_ok-count.ensures.asks bucket in
    let first = as_read c.as_slice.ensures refl c.as_slice-2.ensures c.as_slice-4.ensures c.in_ok-page.ensures.asks in
    let next = c.in_ok-next.ensures ∙ ap (λ p. next_after (map name_in p)) (c.as_slice-3.ensures ∙ sym c.as_slice-4.ensures) in
    pays_page bucket (goes c.args.kept.now) first asks.grows c.in_ok-count.count c.in_ok-count.ensures.tally c.in_ok-next.next
    (page_swept bucket (goes c.args.kept.now) first (page_few _ (as_page refl refl c.as_slice-4.ensures c.in_ok-page.ensures.page)) c.in_ok-count.count c.in_ok-count.ensures.tally c.in_ok-next.next next asks)

pub returns-in_err-page-clause-spares : goal.returns-in_err-page-clause-spares
returns-in_err-page-clause-spares g c = spare_left c.args.folder.now (goes c.args.kept.now) c.in_err-page.ensures.asks.grows.on c.in_err-page.ensures.leaves

pub returns-in_err-next-clause-spares : goal.returns-in_err-next-clause-spares
returns-in_err-next-clause-spares g c = spare_left c.args.folder.now (goes c.args.kept.now) c.in_ok-page.ensures.asks.grows.on c.in_ok-page.ensures.leaves

pub returns-in_err-count-clause-spares : goal.returns-in_err-count-clause-spares
returns-in_err-count-clause-spares g c = spare_then c.in_ok-page.ensures.asks.grows.on (spare_left c.args.folder.now (goes c.args.kept.now) c.in_ok-page.ensures.asks.grows.on c.in_ok-page.ensures.leaves) c.in_err-count.ensures.spares

pub returns-clause-spares : goal.returns-clause-spares
returns-clause-spares g c = spare_then c.in_ok-page.ensures.asks.grows.on (spare_left c.args.folder.now (goes c.args.kept.now) c.in_ok-page.ensures.asks.grows.on c.in_ok-page.ensures.leaves) c.in_ok-count.ensures.spares
