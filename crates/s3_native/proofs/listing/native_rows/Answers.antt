use Rattle.std.proofs.Common.{◌≡◌, [], map, sym, ap, ◌∙◌}
use Rattle.std.specs.FinMap.{empty, entries}
use Rattle.s3_machine.specs.Step.{listed_key}
use Rattle.name_table.specs.Table.{entry_of}
use Rattle.s3_native.proofs.Listings.{add_all, added_all, rows_for}
use Rattle.name_table.proofs.lemmas.Ordered.{entries_are, map_twice}
use Rattle.s3_native.proofs.listing.native_rows.Goals as goal

pub returns : goal.returns
returns c =
    let es = c.as_map-key-items.result.now.entries in
    let gives = c.into_iter-key-iterator.ensures.into_iter_gives in
    let prefix = c.args.prefix.now in
    let delimiter = c.args.delimiter.now in
    let ends : c.loop-key.key-iterator ≡ [] = c.in-None.ensures.steps.0 in
    ap (λ left. add_all (rows_for prefix delimiter (map (λ e. listed_key (entry_of e)) left)) c.loop-key.rows) (sym ends) ∙ c.loop-key.invariant
    ∙ ap (λ es. add_all (rows_for prefix delimiter (map (λ e. listed_key (entry_of e)) es)) empty) gives.0
    ∙ ap (λ keys. add_all (rows_for prefix delimiter keys) empty) (map_twice listed_key entry_of es ∙ ap (map listed_key) (sym (entries_are es gives.5) ∙ ap entries c.as_map-key-items.ensures))
    ∙ added_all (rows_for prefix delimiter (map listed_key (entries c.args.objects.now)))
