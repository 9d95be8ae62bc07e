use Rattle.s3_machine.proofs.Locks.{swaps_once}
use Rattle.s3_machine.proofs.laws.law_swaps_once.Goals as goal

pub returns : goal.returns
returns c = record { refuses = λ settings old middle new bucket key etag one other stored reply first differ second. swaps_once settings bucket key old middle new etag one other stored reply first differ second }
