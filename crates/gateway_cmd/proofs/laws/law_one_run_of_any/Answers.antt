use Rattle.gateway_cmd.proofs.Gone.{gone_are_counted}
use Rattle.gateway_cmd.proofs.Lasting.{one_run_of_any}
use Rattle.gateway_cmd.proofs.laws.law_one_run_of_any.Goals as goal

pub returns : goal.returns
returns c = one_run_of_any c.law_one_run.ensures gone_are_counted
