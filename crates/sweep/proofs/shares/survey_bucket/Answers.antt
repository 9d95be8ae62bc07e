use Rattle.account_calls.proofs.lemmas.Idle.{goes_trans}
use Rattle.account_calls.proofs.lemmas.Left.{throughout_then}
use Rattle.sweep.proofs.Buckets.{bucket_surveyed, bucket_uncounted, bucket_unorphaned, bucket_unrecorded}
use Rattle.leftovers.specs.Faults.{as_plan}
use Rattle.leftovers.proofs.lemmas.Faults.{plan_gives}
use Rattle.sweep.proofs.shares.survey_bucket.Goals as goal

pub returns-in_err-objects : goal.returns-in_err-objects
returns-in_err-objects g c = record { asks = bucket_uncounted c.args.bucket.now c.args.sealed.now c.in_err-objects.ensures.asks (as_plan c.from_residual.result) (plan_gives _ _ c.from_residual.ensures.1); leaves = c.in_err-objects.ensures.leaves }

pub returns-in_err-opened : goal.returns-in_err-opened
returns-in_err-opened g c = record { asks = bucket_unrecorded c.args.bucket.now c.args.sealed.now c.in_ok-objects.ensures.asks c.in_err-opened.ensures.asks (as_plan c.from_residual-in_err-opened.result) (plan_gives _ _ c.from_residual-in_err-opened.ensures.1); leaves = throughout_then c.in_ok-objects.ensures.asks.grows.on c.in_err-opened.ensures.asks.grows.on c.in_ok-objects.ensures.leaves c.in_err-opened.ensures.leaves }

pub returns-in_err-orphans : goal.returns-in_err-orphans
returns-in_err-orphans g c = record { asks = bucket_unorphaned c.args.bucket.now c.args.sealed.now c.in_ok-objects.ensures.asks c.in_ok-opened.ensures.asks c.in_err-orphans.ensures.asks (as_plan c.from_residual-in_err-orphans.result) (plan_gives _ _ c.from_residual-in_err-orphans.ensures.1); leaves = throughout_then (goes_trans c.in_ok-objects.ensures.asks.grows.on c.in_ok-opened.ensures.asks.grows.on) c.in_err-orphans.ensures.asks.grows.on (throughout_then c.in_ok-objects.ensures.asks.grows.on c.in_ok-opened.ensures.asks.grows.on c.in_ok-objects.ensures.leaves c.in_ok-opened.ensures.leaves) c.in_err-orphans.ensures.leaves }

pub returns : goal.returns
returns g c = record { asks = bucket_surveyed c.args.bucket.now c.args.sealed.now c.in_ok-objects.ensures.asks c.in_ok-opened.ensures.asks c.in_ok-orphans.ensures.asks; leaves = throughout_then (goes_trans c.in_ok-objects.ensures.asks.grows.on c.in_ok-opened.ensures.asks.grows.on) c.in_ok-orphans.ensures.asks.grows.on (throughout_then c.in_ok-objects.ensures.asks.grows.on c.in_ok-opened.ensures.asks.grows.on c.in_ok-objects.ensures.leaves c.in_ok-opened.ensures.leaves) c.in_ok-orphans.ensures.leaves }
