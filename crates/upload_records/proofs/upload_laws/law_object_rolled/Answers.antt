use Rattle.upload_records.proofs.Rolls.{object_rolls}
use Rattle.upload_records.proofs.upload_laws.law_object_rolled.Goals as goal

pub returns : goal.returns
returns c = λ tree s file seals object lists stored sound. object_rolls tree s file seals object lists stored sound
