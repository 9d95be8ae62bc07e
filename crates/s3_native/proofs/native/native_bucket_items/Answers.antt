use Rattle.std.proofs.Common.{◌≡◌, [], ◌++◌, map, sym, ap, ◌∙◌}
use Rattle.std.proofs.lemmas.List.{append-nil}
use Rattle.std.specs.FinMap.{entries}
use Rattle.s3_machine.specs.Step.{bucket_item}
use Rattle.name_table.specs.Table.{entry_of}
use Rattle.name_table.proofs.lemmas.Ordered.{entries_are, map_twice}
use Rattle.s3_native.proofs.native.native_bucket_items.Goals as goal

pub returns : goal.returns
returns c =
    let es = c.as_map-name-items.result.now.entries in
    let gives = c.into_iter-name-iterator.ensures.into_iter_gives in
    let items = c.loop-name.items in
    let ends : c.loop-name.name-iterator ≡ [] = c.in-None.ensures.steps.0 in
    sym (append-nil items) ∙ ap (λ left. items ++ map (λ e. bucket_item (entry_of e)) left) (sym ends) ∙ c.loop-name.invariant
    ∙ ap (map (λ e. bucket_item (entry_of e))) gives.0
    ∙ map_twice bucket_item entry_of es
    ∙ ap (map bucket_item) (sym (entries_are es gives.5) ∙ ap entries c.as_map-name-items.ensures)
