use Rattle.std.proofs.Common.{rules}
use Rattle.std.proofs.lemmas.Map.Made.{map_same_pairs}
use Rattle.name_table.proofs.lemmas.Ordered.{entries_are}
use Rattle.s3_native.specs.Forgetting.{newer_in}
use Rattle.s3_native.proofs.Forgotten.{left_by_change}
use Rattle.s3_native.proofs.forgetting.Named+NativeBucket.drop_older_in_each.Goals as goal

-- the closure keeps each entry and changes its value, so what is left is a map of the entries
pub returns : goal.returns
returns c =
    let es = c.self.inside.entries.entries in
    let left = map_same_pairs _ (newer_in c.args.before) _ (λ k v b w f' t. search rules) es _ c.retain.ensures.filtered in
    left_by_change es c.args.self.now c.self.view_is (entries_are es c.retain.ensures.was_ordered) (newer_in c.args.before) _ left
