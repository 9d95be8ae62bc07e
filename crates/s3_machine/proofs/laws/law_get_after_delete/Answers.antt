use Rattle.s3_machine.proofs.Rereads.{get_after_delete}
use Rattle.s3_machine.proofs.laws.law_get_after_delete.Goals as goal

pub returns : goal.returns
returns c = record { gets = get_after_delete }
