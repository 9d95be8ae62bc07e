use Rattle.std.proofs.Common.{not, rules}
use Rattle.std.proofs.lemmas.Map.Made.{filter_same_pairs}
use Rattle.name_table.proofs.lemmas.Ordered.{entries_are}
use Rattle.s3_native.specs.Forgetting.{is_older}
use Rattle.s3_native.proofs.Forgotten.{left_by_test}
use Rattle.s3_native.proofs.forgetting.Named+NativeKept.drop_older.Goals as goal

-- the closure only tests, so what is left is a filter of the entries
pub returns : goal.returns
returns c =
    let es = c.self.inside.entries.entries in
    let left = filter_same_pairs _ (λ e. not (is_older c.args.before e.1)) _ (λ k v b w f' t. search rules) es _ c.retain.ensures.filtered in
    left_by_test es c.args.self.now c.self.view_is (entries_are es c.retain.ensures.was_ordered) (is_older c.args.before) _ left
