use Rattle.upload_records.proofs.PartPut.{part_put}
use Rattle.upload_records.proofs.upload_laws.law_part_put.Goals as goal

pub returns : goal.returns
returns c = λ tree b name content_type meta body part is opens stored sound unsealed. part_put tree b name content_type meta body part is opens stored sound unsealed
