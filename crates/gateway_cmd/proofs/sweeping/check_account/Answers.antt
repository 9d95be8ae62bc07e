use Rattle.std.proofs.Common.{Ok, Err, refl}
use Rattle.gateway_cmd.specs.Tasks.{to_check}
use Rattle.gateway_cmd.proofs.sweeping.check_account.Goals as goal

pub returns-in-Ok-clause-surveys : goal.returns-in-Ok-clause-surveys
returns-in-Ok-clause-surveys g c = record { result = Ok c.in-Ok.surveyed; surveys = c.in-Ok.ensures.asks; is = refl }

pub returns-in-Err-clause-fits : goal.returns-in-Err-clause-fits
returns-in-Err-clause-fits g c = c.unswept_outcome.ensures.fits to_check refl

pub returns-in-Err-clause-surveys : goal.returns-in-Err-clause-surveys
returns-in-Err-clause-surveys g c = record { result = Err c.in-Err.fault; surveys = c.in-Err.ensures.asks; is = c.unswept_outcome.ensures.is }
