use Rattle.std.proofs.Common.{sym, subst}
use Rattle.swift_calls.specs.Step.{IsContainerName}
use Rattle.account_calls.proofs.lemmas.Names.{container_name}
use Rattle.account_calls.proofs.lemmas.SideNames.{segments_fits}
use Rattle.account_calls.proofs.lemmas.Left.{throughout_then}
use Rattle.sweep.proofs.Buckets.{stray_counted, stray_none, stray_uncounted, stray_unknown}
use Rattle.leftovers.specs.Faults.{as_plan}
use Rattle.leftovers.proofs.lemmas.Faults.{plan_gives}
use Rattle.sweep.proofs.shares.count_strays.Goals as goal

pub is_there-requires : goal.is_there-requires
is_there-requires g c = container_name c.args.bucket.now c.requires.bucket

pub returns-in_err-is_there : goal.returns-in_err-is_there
returns-in_err-is_there g c = record { asks = stray_unknown c.args.bucket.now c.in_err-is_there.ensures.asks (as_plan c.from_residual.result) (plan_gives _ _ c.from_residual.ensures.1); leaves = c.in_err-is_there.ensures.leaves }

pub returns-then-branch : goal.returns-then-branch
returns-then-branch g c = record { asks = stray_none c.args.bucket.now c.in_ok-is_there.ensures.asks c.if-branch.true; leaves = c.in_ok-is_there.ensures.leaves }

pub tally_files-requires : goal.tally_files-requires
tally_files-requires g c = subst IsContainerName (sym c.requires.folder) (segments_fits c.args.bucket.now c.requires.bucket)

pub returns-in_err-tally : goal.returns-in_err-tally
returns-in_err-tally g c = record { asks = stray_uncounted c.args.bucket.now c.in_ok-is_there.ensures.asks c.requires.folder c.nothing-used.result c.if-branch.false c.in_err-tally.ensures.asks (as_plan c.from_residual-in_err-tally.result) (plan_gives _ _ c.from_residual-in_err-tally.ensures.1); leaves = throughout_then c.in_ok-is_there.ensures.asks.grows.on c.in_err-tally.ensures.asks.grows.on c.in_ok-is_there.ensures.leaves c.in_err-tally.ensures.leaves }

pub returns : goal.returns
returns g c = record {
  asks = stray_counted c.args.bucket.now c.in_ok-is_there.ensures.asks c.requires.folder c.nothing-used.result c.if-branch.false c.nothing-used.ensures.listed c.nothing-used.ensures.opened c.nothing-used.ensures.sealed c.in_ok-tally.ensures.asks;
  leaves = throughout_then c.in_ok-is_there.ensures.asks.grows.on c.in_ok-tally.ensures.asks.grows.on c.in_ok-is_there.ensures.leaves c.in_ok-tally.ensures.leaves;
}
