use Rattle.upload_records.proofs.SideCalls.{orphan_gone}
use Rattle.upload_records.proofs.upload_laws.law_orphan_gone.Goals as goal

pub returns : goal.returns
returns c = λ tree b id name is under abandoned sound unsealed. orphan_gone tree b id name under is abandoned sound unsealed
