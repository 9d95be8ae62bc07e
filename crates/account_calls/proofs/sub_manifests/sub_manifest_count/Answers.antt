use Rattle.std.proofs.Common.{arith}
use Rattle.account_calls.proofs.SubLists.{few_segments}
use Rattle.account_calls.proofs.sub_manifests.sub_manifest_count.Goals as goal

pub overflow_add-result : goal.overflow_add-result
overflow_add-result c = let few = few_segments c.args.segments c.requires in omega (arith, few)
