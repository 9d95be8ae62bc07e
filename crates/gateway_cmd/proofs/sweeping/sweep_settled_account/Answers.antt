use Rattle.std.proofs.Common.{refl}
use Rattle.gateway_cmd.specs.Tasks.{to_sweep}
use Rattle.gateway_cmd.proofs.sweeping.sweep_settled_account.Goals as goal

pub returns-in-Ok-clause-sweeps : goal.returns-in-Ok-clause-sweeps
returns-in-Ok-clause-sweeps g c = (_, c.in-Ok.ensures, refl)

pub returns-in-Err-clause-fits : goal.returns-in-Err-clause-fits
returns-in-Err-clause-fits g c = c.unswept_outcome.ensures.fits (to_sweep c.args.before) refl

pub returns-in-Err-clause-sweeps : goal.returns-in-Err-clause-sweeps
returns-in-Err-clause-sweeps g c = (_, c.in-Err.ensures, c.unswept_outcome.ensures.is)
