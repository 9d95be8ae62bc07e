use Rattle.std.proofs.Common.{◌≡◌, ◌==◌, ◌+◌, ◌≤◌, not, length, take}
use Rattle.std.specs.List.{suffix_len}
use Rattle.gate_base.proofs.cuts.behind_last.Given as goal

abbrev pub invariant-back : goal.invariant-back
invariant-back l = (l.at ≤ length l.text) × (l.at + suffix_len (λ byte. not (byte == l.separator)) l.text ≡ length l.text + suffix_len (λ byte. not (byte == l.separator)) (take l.at l.text))

abbrev pub decreases-back : goal.decreases-back
decreases-back l = l.at
