use Rattle.std.proofs.Common.{refl}
use Rattle.account_calls.proofs.lemmas.Idle.{goes_trans}
use Rattle.gateway_cmd.specs.Sweeps.{not_settled, then_swept}
use Rattle.gateway_cmd.specs.Tasks.{to_sweep}
use Rattle.gateway_cmd.proofs.sweeping.sweep_account.Goals as goal

pub returns-in-Ok-clause-on : goal.returns-in-Ok-clause-on
returns-in-Ok-clause-on g c = goes_trans c.in-Ok.ensures.asks.grows.on c.sweep_settled_account.ensures.sweeps.1.grows.on

pub returns-in-Ok-clause-sweeps : goal.returns-in-Ok-clause-sweeps
returns-in-Ok-clause-sweeps g c =
    let sweeps = c.sweep_settled_account.ensures.sweeps in
    then_swept _ c.in-Ok.ensures sweeps.0 sweeps.1 sweeps.2

pub returns-in-Err-clause-fits : goal.returns-in-Err-clause-fits
returns-in-Err-clause-fits g c = c.unsettled_outcome.ensures.fits (to_sweep c.args.before) refl

pub returns-in-Err-clause-sweeps : goal.returns-in-Err-clause-sweeps
returns-in-Err-clause-sweeps g c = not_settled _ c.in-Err.ensures c.unsettled_outcome.ensures.is
