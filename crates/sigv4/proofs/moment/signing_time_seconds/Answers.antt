use Rattle.std.proofs.Common.{arith}
use Rattle.sigv4.proofs.VerdictLemmas.{time_has_length}
use Rattle.sigv4.proofs.moment.signing_time_seconds.Goals as goal

pub two_digits-requires : goal.two_digits-requires
two_digits-requires c = omega (arith, time_has_length c.args.time.now c.requires)

pub two_digits-hour-requires : goal.two_digits-hour-requires
two_digits-hour-requires c = omega (arith, time_has_length c.args.time.now c.requires)

pub two_digits-minute-requires : goal.two_digits-minute-requires
two_digits-minute-requires c = omega (arith, time_has_length c.args.time.now c.requires)
