use Rattle.std.proofs.Common.{[], ◌++◌, map, sym, ap, subst, refl, ◌∙◌}
use Rattle.std.specs.List.{filter_map}
use Rattle.swift_calls.specs.Step.{IsContainerName}
use Rattle.list_pages.specs.Listing.{name_in}
use Rattle.upload_records.specs.Layout.{uploads_name}
use Rattle.account_calls.specs.FilePages.{next_after}
use Rattle.account_calls.proofs.lemmas.Ask.{asks_told}
use Rattle.account_calls.proofs.lemmas.One.{not_asked}
use Rattle.account_calls.proofs.lemmas.SideNames.{no_marker, uploads_fits}
use Rattle.upload_calls.specs.Listing.{id_due}
use Rattle.upload_calls.specs.Records.{InBucket}
use Rattle.upload_calls.proofs.lemmas.RecordIds.{all_ids}
use Rattle.upload_calls.proofs.lemmas.Taking.{as_page, not_added, tells_next}
use Rattle.account_calls.proofs.lemmas.Turned.{next_may_be}
use Rattle.upload_calls.proofs.listed_ids.next_record_ids.Goals as goal

pub returns-in_err-folder-clause-asks : goal.returns-in_err-folder-clause-asks
returns-in_err-folder-clause-asks g c = not_asked _ _ _ c.from_residual.ensures.1

pub settled_file_page-requires-clause-folder : goal.settled_file_page-requires-clause-folder
settled_file_page-requires-clause-folder g c =
    subst IsContainerName (sym (c.as_slice.ensures ∙ c.in_ok-folder.ensures ∙ ap uploads_name c.bytes.ensures.value)) (uploads_fits c.args.bucket.now c.bytes.ensures.fit)

pub settled_file_page-requires-clause-prefix : goal.settled_file_page-requires-clause-prefix
settled_file_page-requires-clause-prefix g c = no_marker

pub returns-in_err-add_ids-clause-asks : goal.returns-in_err-add_ids-clause-asks
returns-in_err-add_ids-clause-asks g c =
    not_added id_due (uploads_name c.args.bucket.now) [] c.args.marker.now (InBucket c.args.bucket.now) (all_ids c.args.bucket.now c.args.marker.now c.bytes.ensures.fit)
    (as_page _ _ _ _ _ _ (c.as_slice.ensures ∙ c.in_ok-folder.ensures ∙ ap uploads_name c.bytes.ensures.value) refl c.as_slice-2.ensures c.in_ok-page.ensures.asks)
    c.args.ids.now c.add_ids.new.ids id_due c.as_slice-3.result.now refl c.as_slice-3.ensures _ c.in_err-add_ids.ensures _ c.from_residual-in_err-add_ids.ensures.1

pub returns-clause-is_marker : goal.returns-clause-is_marker
returns-clause-is_marker g c =
    next_may_be [] c.in_ok-page.page c.in_ok-next_marker.field-0 (c.in_ok-next_marker.ensures ∙ ap (λ page. next_after (map name_in page)) c.as_slice-4.ensures) c.in_ok-page.ensures.page.named

pub returns-clause-asks : goal.returns-clause-asks
returns-clause-asks g c =
    asks_told (λ tree has. tt) c.in_ok-next_marker.field-0
    (λ tree sound has tells. tells_next id_due (uploads_name c.args.bucket.now) [] c.args.marker.now tree c.in_ok-page.page tells c.args.ids.now c.add_ids.new.ids
    (c.in_ok-add_ids.ensures ∙ ap (λ page. c.args.ids.now ++ filter_map id_due page) c.as_slice-3.ensures)
    c.in_ok-next_marker.field-0 (c.in_ok-next_marker.ensures ∙ ap (λ page. next_after (map name_in page)) c.as_slice-4.ensures))
    (as_page _ _ _ _ _ _ (c.as_slice.ensures ∙ c.in_ok-folder.ensures ∙ ap uploads_name c.bytes.ensures.value) refl c.as_slice-2.ensures c.in_ok-page.ensures.asks)
