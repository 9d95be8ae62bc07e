use Rattle.gateway.proofs.Living.{one_run}
use Rattle.gateway.proofs.laws.law_one_run.Goals as goal

pub returns : goal.returns
returns c = one_run
