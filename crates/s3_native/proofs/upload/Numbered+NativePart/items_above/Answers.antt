use Rattle.std.proofs.Common.{◌≡◌, [], ◌++◌, map, nat_lt, sym, ap, ◌∙◌}
use Rattle.std.proofs.lemmas.List.{append-nil}
use Rattle.std.specs.FinMap.{entries}
use Rattle.std.specs.List.{filter}
use Rattle.s3_machine.specs.Uploads.{part_item}
use Rattle.s3_native.specs.Numbered.{numbered_of}
use Rattle.s3_native.proofs.Numbers.{numbers_are}
use Rattle.s3_native.proofs.upload.Numbered+NativePart.items_above.Goals as goal

pub returns : goal.returns
returns c =
    let es = c.self.inside.entries.entries in
    let gives = c.into_iter-number-iterator.ensures.into_iter_gives in
    let items = c.loop-number.items in
    let marker = c.args.marker in
    let ends : c.loop-number.number-iterator ≡ [] = c.in-None.ensures.steps.0 in
    sym (append-nil items) ∙ ap (λ left. items ++ map part_item (filter (λ e. nat_lt marker e.0) (map numbered_of left))) (sym ends) ∙ c.loop-number.invariant
    ∙ ap (λ es. map part_item (filter (λ e. nat_lt marker e.0) (map numbered_of es))) gives.0
    ∙ ap (λ rows. map part_item (filter (λ e. nat_lt marker e.0) rows)) (sym (numbers_are es gives.5) ∙ ap entries c.self.view_is)
