use Rattle.std.proofs.Common.{ap}
use Rattle.account_calls.proofs.lemmas.Ask.{asks_fault, asks_told}
use Rattle.sweep.specs.Surveying.{only_orphans}
use Rattle.leftovers.specs.Faults.{as_plan}
use Rattle.leftovers.proofs.lemmas.Faults.{plan_gives}
use Rattle.sweep.proofs.shares.survey_strays.Goals as goal

pub returns-in_err-orphans : goal.returns-in_err-orphans
returns-in_err-orphans g c = record { asks = asks_fault (λ tree has. has) c.in_err-orphans.ensures.asks (as_plan c.from_residual.result) (plan_gives _ _ c.from_residual.ensures.1); leaves = c.in_err-orphans.ensures.leaves }

pub returns : goal.returns
returns g c = record { asks = asks_told (λ tree has. has) _ (λ tree sound has told. ap only_orphans told) c.in_ok-orphans.ensures.asks; leaves = c.in_ok-orphans.ensures.leaves }
