use Rattle.upload_records.proofs.lemmas.Objects.{object_put}
use Rattle.upload_records.proofs.laws.law_object_put.Goals as goal

pub returns : goal.returns
returns c = object_put
