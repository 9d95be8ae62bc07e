use Rattle.upload_records.proofs.GatewayPut.{completion_sealed}
use Rattle.upload_records.proofs.upload_laws.law_completion_sealed.Goals as goal

pub returns : goal.returns
returns c = completion_sealed
