use Rattle.upload_records.proofs.Rolls.{record_rolls}
use Rattle.upload_records.proofs.upload_laws.law_record_rolled.Goals as goal

pub returns : goal.returns
returns c = record_rolls
