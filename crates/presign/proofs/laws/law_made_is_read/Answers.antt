use Rattle.presign.proofs.Made.{made_is_read}
use Rattle.presign.proofs.laws.law_made_is_read.Goals as goal

pub returns : goal.returns
returns c = λ secret id region message target moment expires url made whole. made_is_read secret id region message target moment expires url made whole
