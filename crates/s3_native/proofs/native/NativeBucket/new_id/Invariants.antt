use Rattle.s3_native.proofs.NewIds.{NoneNew}
use Rattle.s3_native.proofs.native.NativeBucket.new_id.Given as goal

abbrev pub invariant-tries : goal.invariant-tries
invariant-tries l = NoneNew l.self l.draw l.tries
