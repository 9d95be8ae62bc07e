use Rattle.std.proofs.Common.{◌+◌, ◌%◌, ◌^◌, ap}
use Rattle.s3_native.proofs.NewIds.{first_new, none_more, none_of_none}
use Rattle.s3_native.proofs.native.NativeBucket.new_id.Goals as goal

pub tries-init : goal.tries-init
tries-init c = none_of_none _ _

pub returns-then-is_unused-clause-first : goal.returns-then-is_unused-clause-first
returns-then-is_unused-clause-first c = first_new _ _ _ _ c.tries.invariant (ap (λ n. (c.args.draw + n) % 2 ^ 128) c.from.ensures) (c.is_unused.ensures.unused c.if-is_unused.true)

pub tries-preserved : goal.tries-preserved
tries-preserved c = none_more _ _ _ _ c.tries.invariant (ap (λ n. (c.args.draw + n) % 2 ^ 128) c.from.ensures) (c.is_unused.ensures.used c.if-is_unused.false)
