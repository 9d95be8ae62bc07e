use Rattle.std.proofs.Common.{rules}
use Rattle.s3_requests.proofs.Left.{goes_on}
use Rattle.s3_requests.proofs.meant.meant_from_caller.Goals as goal

pub op_of-requires-clause-left : goal.op_of-requires-clause-left
op_of-requires-clause-left c = goes_on c.requires.left (search rules)
