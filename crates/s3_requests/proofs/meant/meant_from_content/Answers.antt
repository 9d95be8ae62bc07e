use Rattle.std.proofs.Common.{rules}
use Rattle.s3_requests.proofs.Left.{goes_on}
use Rattle.s3_requests.proofs.meant.meant_from_content.Goals as goal

pub meant_from_meta-requires-clause-left : goal.meant_from_meta-requires-clause-left
meant_from_meta-requires-clause-left c = goes_on c.requires.left (search rules)
