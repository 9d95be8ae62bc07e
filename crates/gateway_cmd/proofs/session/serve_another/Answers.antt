use Rattle.gateway.specs.World.{World, world}
use Rattle.gateway.proofs.lemmas.Worlds.{serves_none, serves_after}
use Rattle.http_service.proofs.lemmas.Faulty.{line_serves_next, line_serves_none, line_serves_failed}
use Rattle.gateway_cmd.proofs.Sessions.{next_served, next_none}
use Rattle.gateway_cmd.proofs.session.serve_another.Goals as goal

pub returns-in-Ok-true-clause-line : goal.returns-in-Ok-true-clause-line
returns-in-Ok-true-clause-line g c = line_serves_next (rw c.in-Ok-true.field-0-test at c.in-Ok-true.ensures) c.serve_connection-ended.ensures.line

pub returns-in-Ok-true-clause-serves : goal.returns-in-Ok-true-clause-serves
returns-in-Ok-true-clause-serves g c =
    let next = rw c.in-Ok-true.field-0-test at c.in-Ok-true.ensures in
    let new : World = world (g.N.Line.model c.serve_connection-ended.new.lent.line.now) (g.W.Swift.history c.serve_connection-ended.new.lent.store.now) c.serve_connection-ended.new.lent.known (g.C.Clock.model c.serve_connection-ended.new.lent.clock.now) (g.D.Draws.model c.serve_connection-ended.new.lent.draws.now) in
    serves_after {new = new} next.observable c.serve_connection-ended.ensures.serves (λ told R trace.
    next_served c.args.service.now R (g.N.Line.model c.args.lent.now.line.now) (g.N.Line.model c.next.new.self) (g.W.Swift.history c.args.lent.now.store.now) c.args.lent.now.known (g.C.Clock.model c.args.lent.now.clock.now) (g.D.Draws.model c.args.lent.now.draws.now) new c.serve_connection-ended.result (next.effect told.line) (c.serve_connection-ended.ensures.line.transcript (next.observable told.line)) trace)

pub returns-in-Ok-false-clause-line : goal.returns-in-Ok-false-clause-line
returns-in-Ok-false-clause-line g c = line_serves_none (rw c.in-Ok-false.field-0-test at c.in-Ok-false.ensures)

pub returns-in-Ok-false-clause-serves : goal.returns-in-Ok-false-clause-serves
returns-in-Ok-false-clause-serves g c =
    let next = rw c.in-Ok-false.field-0-test at c.in-Ok-false.ensures in
    serves_none next.observable (λ told R. next_none (g.N.Line.model c.args.lent.now.line.now) (g.N.Line.model c.next.new.self) (g.W.Swift.history c.args.lent.now.store.now) c.args.lent.now.known (g.C.Clock.model c.args.lent.now.clock.now) (g.D.Draws.model c.args.lent.now.draws.now) (next.effect told.line).1)

pub returns-in-Err-clause-line : goal.returns-in-Err-clause-line
returns-in-Err-clause-line g c = line_serves_failed c.in-Err.ensures

pub returns-in-Err-clause-serves : goal.returns-in-Err-clause-serves
returns-in-Err-clause-serves g c =
    let next = c.in-Err.ensures in
    serves_none next.observable (λ told R. next_none (g.N.Line.model c.args.lent.now.line.now) (g.N.Line.model c.next.new.self) (g.W.Swift.history c.args.lent.now.store.now) c.args.lent.now.known (g.C.Clock.model c.args.lent.now.clock.now) (g.D.Draws.model c.args.lent.now.draws.now) (next.effect_err told.line))

pub returns-in-Ok-true-clause-stays : goal.returns-in-Ok-true-clause-stays
returns-in-Ok-true-clause-stays g c =
    let stays = c.serve_connection-ended.ensures.stays in
    record { line = stays.line; store = stays.store; clock = stays.clock; draws = stays.draws }
