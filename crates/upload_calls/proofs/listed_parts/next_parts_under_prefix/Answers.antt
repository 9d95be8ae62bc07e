use Rattle.std.proofs.Common.{◌++◌, map, refl, sym, ap, ◌∙◌}
use Rattle.std.specs.List.{filter_map}
use Rattle.s3_names.specs.Id.{id_digits}
use Rattle.list_pages.specs.Listing.{name_in}
use Rattle.upload_records.specs.Layout.{segments_name, segments_prefix}
use Rattle.account_calls.specs.FilePages.{next_after}
use Rattle.account_calls.proofs.lemmas.Ask.{asks_fault, asks_out_of_memory, asks_told}
use Rattle.upload_calls.specs.Listing.{part_due}
use Rattle.upload_calls.specs.Records.{HasOnlyParts}
use Rattle.upload_calls.proofs.lemmas.PartWalk.{all_parts}
use Rattle.upload_calls.proofs.lemmas.Taking.{as_page, not_added, tells_next}
use Rattle.account_calls.proofs.lemmas.Turned.{next_may_be}
use Rattle.upload_calls.proofs.listed_parts.next_parts_under_prefix.Goals as goal

pub returns-in_err-page-clause-asks : goal.returns-in_err-page-clause-asks
returns-in_err-page-clause-asks g c = λ id named. asks_fault (λ tree has. tt) c.in_err-page.ensures.asks _ c.from_residual.ensures.1

pub returns-in_err-add_parts-clause-asks : goal.returns-in_err-add_parts-clause-asks
returns-in_err-add_parts-clause-asks g c = λ id named.
    not_added (part_due (segments_prefix (id_digits id))) (segments_name c.args.bucket.now) (segments_prefix (id_digits id)) c.args.marker.now (HasOnlyParts c.args.bucket.now id)
    (all_parts c.args.bucket.now id c.args.marker.now c.fits.ensures)
    (as_page _ _ _ _ _ _ refl named refl c.in_ok-page.ensures.asks)
    c.args.parts.now c.add_parts.new.parts (part_due c.as_slice.result.now) c.as_slice-2.result.now (ap part_due (c.as_slice.ensures ∙ named)) c.as_slice-2.ensures
    _ c.in_err-add_parts.ensures.due _ c.from_residual-in_err-add_parts.ensures.1

pub returns-in_err-next_marker-clause-asks : goal.returns-in_err-next_marker-clause-asks
returns-in_err-next_marker-clause-asks g c = λ id named. asks_out_of_memory (λ tree has. tt) c.in_ok-page.ensures.asks _ c.from_residual-in_err-next_marker.ensures.1

pub returns-clause-is_marker : goal.returns-clause-is_marker
returns-clause-is_marker g c =
    next_may_be c.args.prefix.now c.in_ok-page.page c.in_ok-next_marker.field-0 (c.in_ok-next_marker.ensures ∙ ap (λ page. next_after (map name_in page)) c.as_slice-3.ensures) c.in_ok-page.ensures.page.named

pub returns-clause-asks : goal.returns-clause-asks
returns-clause-asks g c = λ id named.
    asks_told (λ tree has. tt) c.in_ok-next_marker.field-0
    (λ tree sound has tells. tells_next (part_due (segments_prefix (id_digits id))) (segments_name c.args.bucket.now) (segments_prefix (id_digits id)) c.args.marker.now tree c.in_ok-page.page tells
    c.args.parts.now c.add_parts.new.parts (c.in_ok-add_parts.ensures.due ∙ (λ i. c.args.parts.now ++ filter_map (part_due ((c.as_slice.ensures ∙ named) i)) (c.as_slice-2.ensures i)))
    c.in_ok-next_marker.field-0 (c.in_ok-next_marker.ensures ∙ ap (λ page. next_after (map name_in page)) c.as_slice-3.ensures))
    (as_page _ _ _ _ _ _ refl named refl c.in_ok-page.ensures.asks)
