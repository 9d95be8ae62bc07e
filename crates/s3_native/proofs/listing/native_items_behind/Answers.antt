use Rattle.std.proofs.Common.{◌≡◌, [], ◌++◌, map, sym, ap, ◌∙◌}
use Rattle.std.proofs.lemmas.List.{append-nil}
use Rattle.std.specs.FinMap.{entries}
use Rattle.s3_machine.specs.Items.{behind}
use Rattle.s3_machine.specs.Step.{item_of}
use Rattle.name_table.specs.Table.{entry_of}
use Rattle.name_table.proofs.lemmas.Ordered.{entries_are}
use Rattle.s3_native.proofs.listing.native_items_behind.Goals as goal

pub returns : goal.returns
returns c =
    let es = c.as_map-text-items.result.now.entries in
    let gives = c.into_iter-text-iterator.ensures.into_iter_gives in
    let items = c.loop-text.items in
    let marker = c.args.marker.now in
    let ends : c.loop-text.text-iterator ≡ [] = c.in-None.ensures.steps.0 in
    sym (append-nil items) ∙ ap (λ left. items ++ map item_of (behind marker (map entry_of left))) (sym ends) ∙ c.loop-text.invariant
    ∙ ap (λ es. map item_of (behind marker (map entry_of es))) gives.0
    ∙ ap (λ rows. map item_of (behind marker rows)) (sym (entries_are es gives.5) ∙ ap entries c.as_map-text-items.ensures)
