use Rattle.sweep.proofs.SparedSides.{nothing_changed, then_others}
use Rattle.leftovers.specs.Sides.{folder_beside}
use Rattle.account_calls.proofs.lemmas.Names.{container_name}
use Rattle.std.proofs.Common.{sym, ◌∙◌}
use Rattle.sweep.proofs.Beside.{beside_missing, beside_odd, beside_there, beside_unknown}
use Rattle.sweep.proofs.Heeded.{heeds_listed, heeds_unknown, not_there, unlisted}
use Rattle.sweep.proofs.Tally.{tallied_later}
use Rattle.leftovers.specs.Faults.{as_plan}
use Rattle.leftovers.proofs.lemmas.Faults.{fault_at, plan_gives}
use Rattle.account_calls.specs.declared.fault.PlanFault.TheVariants as fault
use Rattle.sweep.proofs.containers.sweep_beside.Goals as goal

pub is_there-requires : goal.is_there-requires
is_there-requires g c = container_name c.args.bucket.now c.requires.bucket

pub returns-in_err-is_there-clause-asks : goal.returns-in_err-is_there-clause-asks
returns-in_err-is_there-clause-asks g c = beside_unknown c.args.bucket.now c.requires.bucket c.args.kind c.args.listed.now c.in_err-is_there.ensures.asks (as_plan c.from_residual.result) (plan_gives _ _ c.from_residual.ensures.1)

pub returns-then-branch-clause-asks : goal.returns-then-branch-clause-asks
returns-then-branch-clause-asks g c = beside_there c.args.bucket.now c.requires.bucket c.args.kind c.args.listed.now c.in_ok-is_there.ensures.asks c.if-branch.true _ c.sweep_there.ensures.asks

pub returns-clause-asks : goal.returns-clause-asks
returns-clause-asks g c = beside_missing c.args.bucket.now c.requires.bucket c.args.kind c.args.listed.now c.in_ok-is_there.ensures.asks c.if-branch.false _ (c.sweep_missing.ensures.asks c.args.bucket.now c.requires.bucket c.requires.folder)

pub returns-then-branch-clause-tallies : goal.returns-then-branch-clause-tallies
returns-then-branch-clause-tallies g c = tallied_later (g.W.Swift.history c.sweep_there.new.store).called c.in_ok-is_there.ensures.asks.grows.on.ordered _ c.sweep_there.ensures.tallies

pub returns-clause-tallies : goal.returns-clause-tallies
returns-clause-tallies g c = tallied_later (g.W.Swift.history c.sweep_missing.new.store).called c.in_ok-is_there.ensures.asks.grows.on.ordered _ c.sweep_missing.ensures.tallies

pub returns-then-is_listed-clause-asks : goal.returns-then-is_listed-clause-asks
returns-then-is_listed-clause-asks g c = fault_at _ _ fault.Inconsistent c.file_fault.result c.file_fault.ensures (beside_odd c.args.bucket.now c.requires.bucket c.args.kind c.args.listed.now c.in_ok-is_there.ensures.asks c.if-branch.false (sym c.is_listed.ensures ∙ c.if-is_listed.true))

pub sweep_missing-requires : goal.sweep_missing-requires
sweep_missing-requires g c = record { folder = (c.args.bucket.now, c.requires.bucket, c.requires.folder) }

pub returns-in_err-is_there-clause-heeds : goal.returns-in_err-is_there-clause-heeds
returns-in_err-is_there-clause-heeds g c = heeds_unknown c.args.listed.now c.args.bucket.now _ c.in_err-is_there.ensures.asks.grows.on c.in_err-is_there.ensures.leaves (as_plan c.from_residual.result) (plan_gives _ _ c.from_residual.ensures.1)

pub returns-then-branch-clause-heeds : goal.returns-then-branch-clause-heeds
returns-then-branch-clause-heeds g c = not_there c.args.listed.now c.args.bucket.now _ c.in_ok-is_there.ensures.says c.if-branch.true

pub returns-then-is_listed-clause-heeds : goal.returns-then-is_listed-clause-heeds
returns-then-is_listed-clause-heeds g c = heeds_listed c.args.listed.now c.args.bucket.now c.in_ok-is_there.ensures.asks.grows.on c.in_ok-is_there.ensures.leaves

pub returns-clause-heeds : goal.returns-clause-heeds
returns-clause-heeds g c = unlisted c.args.listed.now c.args.bucket.now (sym c.is_listed.ensures ∙ c.if-is_listed.false)

pub returns-in_err-is_there-clause-spares : goal.returns-in_err-is_there-clause-spares
returns-in_err-is_there-clause-spares g c = nothing_changed (folder_beside c.args.kind c.args.bucket.now) c.in_err-is_there.ensures.asks.grows.on c.in_err-is_there.ensures.leaves

pub returns-then-branch-clause-spares : goal.returns-then-branch-clause-spares
returns-then-branch-clause-spares g c = then_others c.in_ok-is_there.ensures.asks.grows.on (nothing_changed (folder_beside c.args.kind c.args.bucket.now) c.in_ok-is_there.ensures.asks.grows.on c.in_ok-is_there.ensures.leaves) c.sweep_there.ensures.spares

pub returns-then-is_listed-clause-spares : goal.returns-then-is_listed-clause-spares
returns-then-is_listed-clause-spares g c = nothing_changed (folder_beside c.args.kind c.args.bucket.now) c.in_ok-is_there.ensures.asks.grows.on c.in_ok-is_there.ensures.leaves

pub returns-clause-spares : goal.returns-clause-spares
returns-clause-spares g c = then_others c.in_ok-is_there.ensures.asks.grows.on (nothing_changed (folder_beside c.args.kind c.args.bucket.now) c.in_ok-is_there.ensures.asks.grows.on c.in_ok-is_there.ensures.leaves) (rw (c.requires.folder) at c.sweep_missing.ensures.spares)
