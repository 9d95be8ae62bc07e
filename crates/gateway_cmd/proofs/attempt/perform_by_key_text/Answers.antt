use Rattle.gateway_cmd.proofs.Sessions.{idle_fits}
use Rattle.gateway_cmd.proofs.TaskLaws.{does_none, idle_admits}
use Rattle.gateway_cmd.proofs.attempt.perform_by_key_text.Goals as goal

pub returns-in-Err-clause-admits : goal.returns-in-Err-clause-admits
returns-in-Err-clause-admits g c = idle_admits _ c.args.keys.now _ c.in-Err.ensures

pub returns-in-Err-clause-fits : goal.returns-in-Err-clause-fits
returns-in-Err-clause-fits g c = idle_fits _ c.args.keys.now _ c.in-Err.ensures

pub returns-in-Err-clause-does : goal.returns-in-Err-clause-does
returns-in-Err-clause-does g c = does_none _ c.args.keys.now _ _ _ _ _ c.in-Err.ensures
