use Rattle.std.proofs.Common.{arith}
use Rattle.sigv4.proofs.VerdictLemmas.{time_has_length}
use Rattle.sigv4.proofs.moment.day_of.Goals as goal

pub year_of-year-requires : goal.year_of-year-requires
year_of-year-requires c = omega (arith, time_has_length c.args.time.now c.requires)

pub two_digits-requires : goal.two_digits-requires
two_digits-requires c = omega (arith, time_has_length c.args.time.now c.requires)

pub two_digits-month-requires : goal.two_digits-month-requires
two_digits-month-requires c = omega (arith, time_has_length c.args.time.now c.requires)
