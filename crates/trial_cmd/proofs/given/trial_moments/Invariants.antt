use Rattle.std.proofs.Common.{◌≡◌}
use Rattle.trial_cmd.specs.Served.{first_moments}
use Rattle.trial_cmd.proofs.given.trial_moments.Given as goal

abbrev pub invariant-moments : goal.invariant-moments
invariant-moments l = l.moments ≡ first_moments l.index
