use Rattle.std.proofs.Common.{sym, subst}
use Rattle.s3_machine.specs.Proper.{IsPlace}
use Rattle.s3_requests.specs.declared.taken.Taken.{Taken}
use Rattle.s3_requests.proofs.Left.{source_left}
use Rattle.s3_requests.proofs.operation.op_of_key_alone.Goals as goal

pub op_of_key_given-requires-clause-place : goal.op_of_key_given-requires-clause-place
op_of_key_given-requires-clause-place c =
    λ copies. subst (λ (taken : Taken). IsPlace taken.source.bucket taken.source.key) (sym c.requires.taken) (source_left c.requires.left c.requires.level copies)

pub returns-then-takes_given : goal.returns-then-takes_given
returns-then-takes_given c =
    c.op_of_key_given.ensures c.args.message.now c.args.asking.now.target.now (sym c.requires.bucket) (sym c.requires.key) (sym c.pairs-query.ensures.value) c.requires.taken
