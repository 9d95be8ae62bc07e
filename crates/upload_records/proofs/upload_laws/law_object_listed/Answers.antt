use Rattle.upload_records.proofs.Proper.{object_listed}
use Rattle.upload_records.proofs.upload_laws.law_object_listed.Goals as goal

pub returns : goal.returns
returns c = λ tree b key file listed o is sound unsealed found own there. object_listed tree b key o is sound unsealed there file listed found own
