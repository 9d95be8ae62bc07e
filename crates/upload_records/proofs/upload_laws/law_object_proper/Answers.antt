use Rattle.upload_records.proofs.Proper.{object_proper}
use Rattle.upload_records.proofs.upload_laws.law_object_proper.Goals as goal

pub returns : goal.returns
returns c = object_proper
