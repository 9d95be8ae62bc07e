use Rattle.upload_records.proofs.GatewayPut.{word_put}
use Rattle.upload_records.proofs.upload_laws.law_word_put.Goals as goal

pub returns : goal.returns
returns c = word_put
