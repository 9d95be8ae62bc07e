use Rattle.upload_records.proofs.SubRolls.{sub_rolls}
use Rattle.upload_records.proofs.upload_laws.law_sub_rolled.Goals as goal

pub returns : goal.returns
returns c = λ tree s n seals below sub stored sound. sub_rolls tree s n seals below sub stored sound
