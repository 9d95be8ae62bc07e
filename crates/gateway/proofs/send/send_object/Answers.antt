use Rattle.std.proofs.Common.{refl}
use Rattle.gateway.specs.Reading.{head_sent, head_unsent, head_cut}
use Rattle.gateway.proofs.Lines.{writes_on}
use Rattle.gateway.proofs.send.send_object.Goals as goal

pub returns-in-Whole-clause-sends : goal.returns-in-Whole-clause-sends
returns-in-Whole-clause-sends g c = head_sent (g.N.Line.model c.write_head.new.line) (c.in-Whole.ensures.method refl) c.in-Whole.ensures.writes.serves.observable (rw c.is_some.ensures at c.in-Whole.ensures.effect) c.send_behind_head.ensures.sends

pub returns-in-Memory-clause-sends : goal.returns-in-Memory-clause-sends
returns-in-Memory-clause-sends g c = head_unsent refl refl c.in-Memory.ensures.effect

pub returns-in-Failed-clause-sends : goal.returns-in-Failed-clause-sends
returns-in-Failed-clause-sends g c = head_cut refl refl (rw c.is_some.ensures at c.in-Failed.ensures.effect)

pub returns-in-Whole-clause-writes : goal.returns-in-Whole-clause-writes
returns-in-Whole-clause-writes g c = writes_on c.in-Whole.ensures.writes c.send_behind_head.ensures.writes
