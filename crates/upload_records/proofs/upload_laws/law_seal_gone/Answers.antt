use Rattle.upload_records.proofs.Rolls.{seal_rolls}
use Rattle.upload_records.proofs.upload_laws.law_seal_gone.Goals as goal

pub returns : goal.returns
returns c = λ tree s seals rolled sound. seal_rolls tree s seals rolled sound
