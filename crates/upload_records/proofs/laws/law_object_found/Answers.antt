use Rattle.upload_records.proofs.lemmas.Objects.{found}
use Rattle.upload_records.proofs.laws.law_object_found.Goals as goal

pub returns : goal.returns
returns c = found
