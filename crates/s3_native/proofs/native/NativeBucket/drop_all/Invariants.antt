use Rattle.std.proofs.Common.{◌≡◌, drop}
use Rattle.s3_machine.specs.Step.{drop_objects}
use Rattle.s3_native.proofs.native.NativeBucket.drop_all.Given as goal

abbrev pub invariant-loop-key : goal.invariant-loop-key
invariant-loop-key l = drop_objects (drop l.key-index l.keys) l.self ≡ drop_objects l.keys l.initial.self
