use Rattle.upload_records.proofs.lemmas.Objects.{object_gone}
use Rattle.upload_records.proofs.laws.law_object_gone.Goals as goal

pub returns : goal.returns
returns c = object_gone
