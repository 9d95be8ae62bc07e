use Rattle.s3_native.proofs.Rolls.{IsPast}
use Rattle.s3_native.proofs.listing.native_roll_end.Given as goal

abbrev pub invariant-loop-i : goal.invariant-loop-i
invariant-loop-i l = IsPast l.delimiter l.text l.i
