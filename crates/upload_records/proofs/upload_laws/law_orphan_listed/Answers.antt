use Rattle.upload_records.proofs.SubPut.{orphan_listed}
use Rattle.upload_records.proofs.upload_laws.law_orphan_listed.Goals as goal

pub returns : goal.returns
returns c = λ tree b name file sub is there abandoned stored sound unsealed. orphan_listed tree b name file sub is there abandoned stored sound unsealed
