use Rattle.upload_records.proofs.SideCalls.{side_made}
use Rattle.upload_records.proofs.upload_laws.law_side_made.Goals as goal

pub returns : goal.returns
returns c = λ tree b name created beside sound unsealed. side_made tree b name created beside sound unsealed
