use Rattle.gateway_cmd.proofs.Unforgotten.{none_before_first}
use Rattle.gateway_cmd.proofs.laws.law_none_before_first.Goals as goal

pub returns : goal.returns
returns c = none_before_first
