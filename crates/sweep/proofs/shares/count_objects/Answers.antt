use Rattle.account_calls.proofs.lemmas.Ask.{asks_fault, asks_told}
use Rattle.account_calls.proofs.lemmas.Names.{container_name}
use Rattle.sweep.proofs.BucketShares.{all_unused}
use Rattle.leftovers.specs.Faults.{as_plan}
use Rattle.leftovers.proofs.lemmas.Faults.{plan_gives}
use Rattle.sweep.proofs.shares.count_objects.Goals as goal

pub tally_files-requires : goal.tally_files-requires
tally_files-requires g c = container_name c.args.bucket.now c.requires

pub returns-in_err-tally : goal.returns-in_err-tally
returns-in_err-tally g c = record { asks = asks_fault (λ tree has. has) c.in_err-tally.ensures.asks (as_plan c.from_residual.result) (plan_gives _ _ c.from_residual.ensures.1); leaves = c.in_err-tally.ensures.leaves }

pub returns : goal.returns
returns g c = record {
  asks = asks_told (λ tree has. has) _ (λ tree sound has told. all_unused c.nothing-used.result c.nothing-used.ensures.listed c.nothing-used.ensures.opened c.nothing-used.ensures.sealed tree c.args.bucket.now _ told) c.in_ok-tally.ensures.asks;
  leaves = c.in_ok-tally.ensures.leaves;
}
