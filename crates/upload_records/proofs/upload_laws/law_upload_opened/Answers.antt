use Rattle.upload_records.proofs.RecordPut.{upload_opened}
use Rattle.upload_records.proofs.upload_laws.law_upload_opened.Goals as goal

pub returns : goal.returns
returns c = upload_opened
