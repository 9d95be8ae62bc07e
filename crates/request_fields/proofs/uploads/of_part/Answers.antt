use Rattle.std.proofs.Common.{arith}
use Rattle.request_fields.proofs.Numbers.{part_counted}
use Rattle.request_fields.proofs.uploads.of_part.Goals as goal

pub of-requires : goal.of-requires
of-requires c = part_counted _ (omega arith) (omega arith)
