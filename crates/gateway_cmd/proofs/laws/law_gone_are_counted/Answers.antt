use Rattle.gateway_cmd.proofs.Gone.{gone_are_counted}
use Rattle.gateway_cmd.proofs.laws.law_gone_are_counted.Goals as goal

pub returns : goal.returns
returns c = gone_are_counted
