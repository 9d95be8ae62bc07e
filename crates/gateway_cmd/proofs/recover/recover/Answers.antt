use Rattle.std.proofs.Common.{refl}
use Rattle.gateway_cmd.specs.Tasks.{to_recover}
use Rattle.gateway_cmd.proofs.recover.recover.Goals as goal

pub returns-in-Ok-clause-settles : goal.returns-in-Ok-clause-settles
returns-in-Ok-clause-settles g c = (_, c.in-Ok.ensures, refl)

pub returns-in-Err-clause-settles : goal.returns-in-Err-clause-settles
returns-in-Err-clause-settles g c = (_, c.in-Err.ensures, c.unsettled_outcome.ensures.is)

pub returns-in-Err-clause-fits : goal.returns-in-Err-clause-fits
returns-in-Err-clause-fits g c = c.unsettled_outcome.ensures.fits to_recover refl
