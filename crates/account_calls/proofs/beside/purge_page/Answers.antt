use Rattle.std.specs.Prelude.{map}
use Rattle.std.proofs.Common.{refl, sym, ap, ◌∙◌, arith}
use Rattle.list_pages.specs.Listing.{name_in}
use Rattle.account_calls.specs.Calls.{always, Any}
use Rattle.account_calls.specs.FilePages.{next_after}
use Rattle.account_calls.proofs.PurgePage.{all_keys, all_under, as_asked, as_page, as_read, next_is_marker, page_broken, page_failed, page_few, page_no_memory, page_purged, pays_broken, pays_failed, pays_page}
use Rattle.account_calls.proofs.lemmas.Idle.{grows_none}
use Rattle.account_calls.proofs.beside.purge_page.Goals as goal

pub returns-in_err-page-clause-asks : goal.returns-in_err-page-clause-asks
returns-in_err-page-clause-asks g c = λ bucket. page_failed _ (as_asked c.as_slice.ensures c.as_slice-2.ensures c.as_slice-3.ensures c.in_err-page.ensures.asks) _ c.from_residual.ensures.1

pub returns-in_err-page-clause-pays : goal.returns-in_err-page-clause-pays
returns-in_err-page-clause-pays g c = λ bucket. pays_failed _ (as_asked c.as_slice.ensures c.as_slice-2.ensures c.as_slice-3.ensures c.in_err-page.ensures.asks) _ c.from_residual.ensures.1

pub returns-in_err-next-clause-asks : goal.returns-in_err-next-clause-asks
returns-in_err-next-clause-asks g c = λ bucket. page_no_memory _ (as_read c.as_slice.ensures c.as_slice-2.ensures c.as_slice-3.ensures refl c.in_ok-page.ensures.asks) _ c.from_residual-in_err-next.ensures.1

pub returns-in_err-next-clause-pays : goal.returns-in_err-next-clause-pays
returns-in_err-next-clause-pays g c = λ bucket. pays_broken _ (as_read c.as_slice.ensures c.as_slice-2.ensures c.as_slice-3.ensures refl c.in_ok-page.ensures.asks) (grows_none (always _) Any _) _ _ c.from_residual-in_err-next.ensures.1

pub delete_names-requires-clause-names : goal.delete_names-requires-clause-names
delete_names-requires-clause-names g c = all_keys _ _ (as_page refl refl c.as_slice-5.ensures c.in_ok-page.ensures.page).named

pub returns-in_err-delete_names-clause-asks : goal.returns-in_err-delete_names-clause-asks
returns-in_err-delete_names-clause-asks g c = λ bucket.
    page_broken bucket (as_read c.as_slice.ensures c.as_slice-2.ensures c.as_slice-3.ensures c.as_slice-5.ensures c.in_ok-page.ensures.asks)
    (page_few _ (as_page c.as_slice-2.ensures c.as_slice-3.ensures c.as_slice-5.ensures c.in_ok-page.ensures.page))
    (c.in_err-delete_names.ensures.asks bucket c.args.prefix.now (all_under _ _ (as_page c.as_slice-2.ensures c.as_slice-3.ensures c.as_slice-5.ensures c.in_ok-page.ensures.page).named)) _ c.from_residual-in_err-delete_names.ensures.1

pub returns-in_err-delete_names-clause-pays : goal.returns-in_err-delete_names-clause-pays
returns-in_err-delete_names-clause-pays g c = λ bucket.
    pays_broken bucket (as_read c.as_slice.ensures c.as_slice-2.ensures c.as_slice-3.ensures c.as_slice-5.ensures c.in_ok-page.ensures.asks)
    (c.in_err-delete_names.ensures.asks bucket c.args.prefix.now (all_under _ _ (as_page c.as_slice-2.ensures c.as_slice-3.ensures c.as_slice-5.ensures c.in_ok-page.ensures.page).named)).grows _ _ c.from_residual-in_err-delete_names.ensures.1

pub returns-clause-counted : goal.returns-clause-counted
returns-clause-counted g c =
    let far = (c.in_ok-delete_names.ensures.asks c.args.prefix.now c.args.prefix.now (all_under _ _ (as_page c.as_slice-2.ensures c.as_slice-3.ensures c.as_slice-5.ensures c.in_ok-page.ensures.page).named)).grows.on.ordered in
    let near = c.in_ok-page.ensures.counted.1 in
    (c.in_ok-page.ensures.counted.0, omega (arith, far, near))

pub returns-clause-is_marker : goal.returns-clause-is_marker
returns-clause-is_marker g c = next_is_marker c.args.prefix.now c.args.marker.now _ c.in_ok-next.next (as_page c.as_slice-2.ensures c.as_slice-3.ensures c.as_slice-5.ensures c.in_ok-page.ensures.page) (c.in_ok-next.ensures ∙ ap (λ p. next_after (map name_in p)) (c.as_slice-4.ensures ∙ sym c.as_slice-5.ensures))

pub returns-clause-asks : goal.returns-clause-asks
returns-clause-asks g c = λ bucket.
    page_purged bucket (as_read c.as_slice.ensures c.as_slice-2.ensures c.as_slice-3.ensures c.as_slice-5.ensures c.in_ok-page.ensures.asks)
    (page_few _ (as_page c.as_slice-2.ensures c.as_slice-3.ensures c.as_slice-5.ensures c.in_ok-page.ensures.page)) c.in_ok-next.next (c.in_ok-next.ensures ∙ ap (λ p. next_after (map name_in p)) (c.as_slice-4.ensures ∙ sym c.as_slice-5.ensures))
    (c.in_ok-delete_names.ensures.asks bucket c.args.prefix.now (all_under _ _ (as_page c.as_slice-2.ensures c.as_slice-3.ensures c.as_slice-5.ensures c.in_ok-page.ensures.page).named))

pub returns-clause-pays : goal.returns-clause-pays
returns-clause-pays g c = λ bucket.
    let asks = c.in_ok-delete_names.ensures.asks bucket c.args.prefix.now (all_under _ _ (as_page c.as_slice-2.ensures c.as_slice-3.ensures c.as_slice-5.ensures c.in_ok-page.ensures.page).named) in
    let first = as_read c.as_slice.ensures c.as_slice-2.ensures c.as_slice-3.ensures c.as_slice-5.ensures c.in_ok-page.ensures.asks in
    let next = c.in_ok-next.ensures ∙ ap (λ p. next_after (map name_in p)) (c.as_slice-4.ensures ∙ sym c.as_slice-5.ensures) in
    pays_page bucket first asks.grows c.in_ok-next.next next (page_purged bucket first (page_few _ (as_page c.as_slice-2.ensures c.as_slice-3.ensures c.as_slice-5.ensures c.in_ok-page.ensures.page)) c.in_ok-next.next next asks)
