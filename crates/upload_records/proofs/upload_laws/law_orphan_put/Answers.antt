use Rattle.upload_records.proofs.OrphanPut.{orphan_put}
use Rattle.upload_records.proofs.upload_laws.law_orphan_put.Goals as goal

pub returns : goal.returns
returns c = λ tree b name content_type meta body part is there abandoned stored sound unsealed. orphan_put tree b name content_type meta body part is there abandoned stored sound unsealed
