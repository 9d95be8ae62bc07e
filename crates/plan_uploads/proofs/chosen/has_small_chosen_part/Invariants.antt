use Rattle.std.proofs.Common.{◌-◌}
use Rattle.plan_uploads.proofs.PartsListed.{SmallFrom}
use Rattle.plan_uploads.proofs.chosen.has_small_chosen_part.Given as goal

abbrev pub invariant-loop-i : goal.invariant-loop-i
invariant-loop-i l = SmallFrom l.least l.parts (l.i - 1)
