use Rattle.upload_records.proofs.SideCalls.{side_file_gone}
use Rattle.upload_records.proofs.upload_laws.law_side_file_gone.Goals as goal

pub returns : goal.returns
returns c = side_file_gone
