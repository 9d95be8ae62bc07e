use Rattle.upload_records.proofs.GatewayPut.{gateway_made}
use Rattle.upload_records.proofs.upload_laws.law_gateway_made.Goals as goal

pub returns : goal.returns
returns c = λ tree created sound. gateway_made tree created sound
