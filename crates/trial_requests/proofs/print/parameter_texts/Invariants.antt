use Rattle.std.proofs.Common.{◌≡◌, map, take}
use Rattle.trial_requests.specs.Trial.{parameter_text}
use Rattle.trial_requests.proofs.print.parameter_texts.Given as goal

abbrev pub invariant-loop-pair : goal.invariant-loop-pair
invariant-loop-pair l = l.texts ≡ map parameter_text (take l.pair-index l.query)
