use Rattle.std.specs.Prelude.{map}
use Rattle.std.proofs.Common.{refl, sym, ap, ◌∙◌}
use Rattle.list_pages.specs.Listing.{name_in}
use Rattle.account_calls.specs.FilePages.{next_after}
use Rattle.leftovers.specs.Used.{is_taken}
use Rattle.leftovers.proofs.lemmas.PageRead.{as_asked, as_page, as_read, next_is_marker}
use Rattle.sweep.proofs.Tallied.{page_counted, page_missed, page_uncounted}
use Rattle.leftovers.specs.Faults.{as_plan}
use Rattle.leftovers.proofs.lemmas.Faults.{plan_gives}
use Rattle.sweep.proofs.file_counts.tally_page.Goals as goal

pub returns-in_err-page-clause-asks : goal.returns-in_err-page-clause-asks
returns-in_err-page-clause-asks g c = page_missed (is_taken c.args.used.now) c.args.folder.now c.args.marker.now c.args.total (as_asked c.as_slice.ensures refl c.as_slice-2.ensures c.in_err-page.ensures.asks) (as_plan c.from_residual.result) (plan_gives _ _ c.from_residual.ensures.1)

pub returns-in_err-next-clause-asks : goal.returns-in_err-next-clause-asks
returns-in_err-next-clause-asks g c =
    page_uncounted (is_taken c.args.used.now) c.args.folder.now c.args.marker.now _ c.args.total (as_read c.as_slice.ensures refl c.as_slice-2.ensures refl c.in_ok-page.ensures.asks) (as_plan c.from_residual-in_err-next.result) (plan_gives _ _ c.from_residual-in_err-next.ensures.1)

pub returns-in_err-sum-clause-asks : goal.returns-in_err-sum-clause-asks
returns-in_err-sum-clause-asks g c =
    page_uncounted (is_taken c.args.used.now) c.args.folder.now c.args.marker.now _ c.args.total (as_read c.as_slice.ensures refl c.as_slice-2.ensures refl c.in_ok-page.ensures.asks) (as_plan c.from_residual-in_err-sum.result) (plan_gives _ _ c.from_residual-in_err-sum.ensures.1)

pub returns-clause-is_marker : goal.returns-clause-is_marker
returns-clause-is_marker g c =
    next_is_marker _ _ _ c.in_ok-next.next (as_page refl refl c.as_slice-4.ensures c.in_ok-page.ensures.page) (c.in_ok-next.ensures ∙ ap (λ p. next_after (map name_in p)) (c.as_slice-3.ensures ∙ sym c.as_slice-4.ensures))

pub returns-clause-asks : goal.returns-clause-asks
returns-clause-asks g c =
    page_counted (is_taken c.args.used.now) c.args.folder.now c.args.marker.now c.as_slice-4.result.now c.args.total (as_read c.as_slice.ensures refl c.as_slice-2.ensures c.as_slice-4.ensures c.in_ok-page.ensures.asks)
    c.in_ok-sum.sum c.in_ok-next.next (c.in_ok-next.ensures ∙ ap (λ p. next_after (map name_in p)) (c.as_slice-3.ensures ∙ sym c.as_slice-4.ensures)) c.in_ok-sum.ensures
