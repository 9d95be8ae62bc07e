use Rattle.std.proofs.Common.{◌≡◌}
use Rattle.trial_requests.specs.Trial.{point_of, trial_point}
use Rattle.trial_requests.proofs.input.trial_input.Given as goal

abbrev pub invariant-turns : goal.invariant-turns
invariant-turns l = point_of l.source l.latest l.text ≡ trial_point l.number l.index
