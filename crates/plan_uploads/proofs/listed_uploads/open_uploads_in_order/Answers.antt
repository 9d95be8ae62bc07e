use Rattle.std.proofs.Common.{◌≡◌, [], ◌++◌, map, sym, ap, ◌∙◌}
use Rattle.std.proofs.lemmas.List.{append-nil}
use Rattle.std.specs.FinMap.{entries}
use Rattle.name_table.specs.Table.{entry_of}
use Rattle.name_table.proofs.lemmas.Ordered.{entries_are, map_twice}
use Rattle.plan_uploads.proofs.listed_uploads.open_uploads_in_order.Goals as goal

pub returns : goal.returns
returns c =
    let es = c.as_map-place-items.result.now.entries in
    let gives = c.into_iter-place-iterator.ensures.into_iter_gives in
    let items = c.loop-place.items in
    let ends : c.loop-place._place-iterator ≡ [] = c.in-None.ensures.steps.0 in
    sym (append-nil items) ∙ ap (λ left. items ++ map (λ e. e.1) left) (sym ends) ∙ c.loop-place.invariant
    ∙ ap (map (λ e. e.1)) gives.0
    ∙ map_twice (λ e. e.1) entry_of es
    ∙ ap (map (λ e. e.1)) (sym (entries_are es gives.5) ∙ ap entries c.as_map-place-items.ensures)
