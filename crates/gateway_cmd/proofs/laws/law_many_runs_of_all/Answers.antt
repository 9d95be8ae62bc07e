use Rattle.gateway_cmd.proofs.Lasting.{many_runs_of_all}
use Rattle.gateway_cmd.proofs.laws.law_many_runs_of_all.Goals as goal

pub returns : goal.returns
returns c = many_runs_of_all c.law_one_run_of_any.ensures
