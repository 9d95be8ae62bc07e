use Rattle.request_fields.proofs.Numbers.{part_first}
use Rattle.request_fields.proofs.uploads.given_part_number.Goals as goal

pub of-requires : goal.of-requires
of-requires c = part_first
