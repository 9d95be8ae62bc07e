use Rattle.gateway.proofs.Living.{sent_is_counted}
use Rattle.gateway.proofs.laws.law_sent_is_counted.Goals as goal

pub returns : goal.returns
returns c = sent_is_counted
