use Rattle.sweep.proofs.SweptNone.{sweeps_nothing}
use Rattle.sweep.proofs.account.sweep.Goals as goal

pub returns-clause-asks : goal.returns-clause-asks
returns-clause-asks g c = sweeps_nothing _ c.sweep_before.ensures
