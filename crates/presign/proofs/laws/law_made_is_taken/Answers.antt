use Rattle.presign.proofs.Made.{is_presigned_of, taken_where}
use Rattle.presign.proofs.laws.law_made_is_taken.Goals as goal

pub returns : goal.returns
returns c = λ keys secret id region message target moment expires url sent read now of_key made sends reads. (
  is_presigned_of secret id region message target moment expires url made keys sent read of_key sends reads,
  taken_where secret id region message target moment expires url made keys sent read of_key sends reads now,
)
