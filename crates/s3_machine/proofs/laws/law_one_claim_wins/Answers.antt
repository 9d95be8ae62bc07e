use Rattle.s3_machine.proofs.Locks.{one_wins}
use Rattle.s3_machine.proofs.laws.law_one_claim_wins.Goals as goal

pub returns : goal.returns
returns c = record { wins = λ settings old new bucket key first others free answers. one_wins settings bucket key old new first others free answers }
