use Rattle.std.proofs.Common.{◌≡◌, [], map, sym, ap, ◌∙◌}
use Rattle.std.specs.FinMap.{empty, entries}
use Rattle.name_table.specs.Table.{entry_of}
use Rattle.s3_native.proofs.Listings.{add_all, added_all, upload_rows}
use Rattle.name_table.proofs.lemmas.Ordered.{entries_are}
use Rattle.s3_native.proofs.uploads.native_upload_rows_after.Goals as goal

pub returns : goal.returns
returns c =
    let es = c.as_map-id-items.result.now.entries in
    let gives = c.into_iter-id-iterator.ensures.into_iter_gives in
    let prefix = c.args.prefix.now in
    let key = c.args.key_marker.now in
    let id = c.args.id_marker.now in
    let ends : c.loop-id.id-iterator ≡ [] = c.in-None.ensures.steps.0 in
    ap (λ left. add_all (upload_rows prefix key id (map entry_of left)) c.loop-id.rows) (sym ends) ∙ c.loop-id.invariant
    ∙ ap (λ es. add_all (upload_rows prefix key id (map entry_of es)) empty) gives.0
    ∙ ap (λ uploads. add_all (upload_rows prefix key id uploads) empty) (sym (entries_are es gives.5) ∙ ap entries c.as_map-id-items.ensures)
    ∙ added_all (upload_rows prefix key id (entries c.args.uploads.now))
