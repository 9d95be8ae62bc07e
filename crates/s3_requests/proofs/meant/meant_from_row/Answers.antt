use Rattle.std.proofs.Common.{rules}
use Rattle.s3_requests.proofs.Left.{goes_on}
use Rattle.s3_requests.proofs.meant.meant_from_row.Goals as goal

pub meant_from_headers-requires : goal.meant_from_headers-requires
meant_from_headers-requires c = record { left = goes_on (goes_on c.requires.left (search rules)) (search rules) }
