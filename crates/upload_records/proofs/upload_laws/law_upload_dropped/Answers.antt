use Rattle.upload_records.proofs.RecordGone.{upload_dropped}
use Rattle.upload_records.proofs.upload_laws.law_upload_dropped.Goals as goal

pub returns : goal.returns
returns c = upload_dropped
