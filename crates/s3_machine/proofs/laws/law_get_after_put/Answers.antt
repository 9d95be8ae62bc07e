use Rattle.s3_machine.proofs.Rereads.{get_after_put}
use Rattle.s3_machine.proofs.laws.law_get_after_put.Goals as goal

pub returns : goal.returns
returns c = record { gets = get_after_put }
