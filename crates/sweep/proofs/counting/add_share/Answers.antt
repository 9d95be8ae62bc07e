use Rattle.account_calls.proofs.lemmas.Ask.{asks_fault, asks_out_of_memory}
use Rattle.sweep.proofs.NamedShares.{sum_told}
use Rattle.leftovers.specs.Faults.{as_plan}
use Rattle.leftovers.proofs.lemmas.Faults.{plan_gives}
use Rattle.sweep.proofs.counting.add_share.Goals as goal

pub returns-in_err-share : goal.returns-in_err-share
returns-in_err-share g c = record { asks = asks_fault (λ tree has. has) c.in_err-share.ensures.asks (as_plan c.from_residual.result) (plan_gives _ _ c.from_residual.ensures.1); leaves = c.in_err-share.ensures.leaves }

pub returns-in_err-plus : goal.returns-in_err-plus
returns-in_err-plus g c = record { asks = asks_out_of_memory (λ tree has. has) c.in_ok-share.ensures.asks (as_plan c.from_residual-in_err-plus.result) (plan_gives _ _ c.from_residual-in_err-plus.ensures.1); leaves = c.in_ok-share.ensures.leaves }

pub returns : goal.returns
returns g c = record { asks = sum_told c.args.name.now c.args.total.now c.in_ok-plus.ensures c.in_ok-share.ensures.asks; leaves = c.in_ok-share.ensures.leaves }
