use Rattle.s3_machine.proofs.Holding.{stays_held}
use Rattle.s3_machine.proofs.laws.law_stays_held.Goals as goal

pub returns : goal.returns
returns c = record { stays = stays_held }
