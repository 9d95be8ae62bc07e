use Rattle.upload_records.proofs.RecordGone.{upload_abandoned}
use Rattle.upload_records.proofs.upload_laws.law_upload_abandoned.Goals as goal

pub returns : goal.returns
returns c = upload_abandoned
