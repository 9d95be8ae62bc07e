use Rattle.presign.proofs.Taken.{taken_is, is_taken}
use Rattle.presign.proofs.laws.law_taken_exactly.Goals as goal

pub returns : goal.returns
returns c = λ keys region message target moment. (taken_is keys region message target moment, is_taken keys region message target moment)
