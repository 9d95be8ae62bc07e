use Rattle.upload_records.proofs.Completed.{completed_stands}
use Rattle.upload_records.proofs.upload_laws.law_completed_stands.Goals as goal

pub returns : goal.returns
returns c = λ segments s may. completed_stands segments s may
