use Rattle.std.proofs.Common.{length, ap, arith}
use Rattle.http_wire.proofs.advance.advance.Goals as goal

pub is_due-requires : goal.is_due-requires
is_due-requires g c = omega (arith, c.come.invariant.seen, ap length c.deref.ensures.value)

pub returns-in-Some-clause-found : goal.returns-in-Some-clause-found
returns-in-Some-clause-found g c = rw c.deref-then-is_due.ensures.value at c.in-Some.ensures.found

pub returns-in-Ok-eq0-clause-found : goal.returns-in-Ok-eq0-clause-found
returns-in-Ok-eq0-clause-found g c = rw c.deref-in-Ok-eq0.ensures.value at c.head_found_at_end.ensures.found
