use Rattle.std.proofs.Common.{ℕ, None, Some, refl, ap, subst, arith}
use Rattle.http_wire.specs.Reading.{Pending}
use Rattle.http_service.proofs.lemmas.Lines.{line_serves_on}
use Rattle.gateway.specs.Exchange.{RepliesBy}
use Rattle.gateway.specs.Serving.{NextOne}
use Rattle.gateway.specs.World.{World, world, start_of, cursor_of}
use Rattle.gateway.proofs.Looping.{answered_agree, answered_more, answered_ends, answered_none, unread_at_once}
use Rattle.gateway.proofs.lemmas.Worlds.{serves_none, serves_trans, stays_none, stays_on}
use Rattle.gateway.proofs.serve.serve_connection.Goals as goal

pub returns-in-Err-clause-serves : goal.returns-in-Err-clause-serves
returns-in-Err-clause-serves g c =
    serves_none c.end_connection_unread.ensures.writes.serves.observable (λ told R. unread_at_once _ R _ _ _ (g.N.Line.model c.args.lent.now.line.now).transcript (g.N.Line.model c.end_connection_unread.new.line).transcript _ (c.end_connection_unread.ensures.effect told.line))

pub requests-init : goal.requests-init
requests-init g c = record {
  stays = stays_none;
  goes = ap (λ (r : Pending). r.ended) c.in-Ok.ensures;
  line = record { is_open = c.requires.open; faults = refl; next_faults = refl; spent = omega arith; observable = λ t. t; transcript = λ t. record { waiting = refl; begun = refl; faulty = refl } };
  serves = serves_none (λ t. t) (λ told R. answered_none _ _ _ _ _ _ c.in-Ok.ensures);
}

pub returns-in-Some-clause-stays : goal.returns-in-Some-clause-stays
returns-in-Some-clause-stays g c = stays_on c.requests.invariant.stays c.in-Some.ensures.stays

pub returns-in-Some-clause-line : goal.returns-in-Some-clause-line
returns-in-Some-clause-line g c = line_serves_on c.requests.invariant.line c.in-Some.ensures.line

pub returns-in-Some-clause-serves : goal.returns-in-Some-clause-serves
returns-in-Some-clause-serves g c =
    let i = c.requests.invariant in
    let begin : World = world (g.N.Line.model c.args.lent.now.line.now) (g.W.Swift.history c.args.lent.now.store.now) c.args.lent.now.known (g.C.Clock.model c.args.lent.now.clock.now) (g.D.Draws.model c.args.lent.now.draws.now) in
    let present : World = world (g.N.Line.model c.requests.lent.line.now) (g.W.Swift.history c.requests.lent.store.now) c.requests.lent.known (g.C.Clock.model c.requests.lent.clock.now) (g.D.Draws.model c.requests.lent.draws.now) in
    let next : World = world (g.N.Line.model c.serve_next.new.lent.line.now) (g.W.Swift.history c.serve_next.new.lent.store.now) c.serve_next.new.lent.known (g.C.Clock.model c.serve_next.new.lent.clock.now) (g.D.Draws.model c.serve_next.new.lent.draws.now) in
    serves_trans {old = begin} {middle = present} {new = next} i.serves c.in-Some.ensures.serves (λ told all kept answered ends.
    let P : ℕ → Type 0 = λ n. NextOne c.args.service.now (RepliesBy all c.args.service.now.settings next.store) n (cursor_of c.requests.reader present) (Some c.in-Some.ended) (cursor_of c.serve_next.new.reader next) in
    let before = answered_agree c.args.service.now.settings present.store next.store all begin.line.transcript.begun (start_of begin) (cursor_of c.requests.reader present) kept answered in
    answered_ends begin.line.transcript.begun (start_of begin) (cursor_of c.requests.reader present) (cursor_of c.serve_next.new.reader next) c.in-Some.ended before (subst P (i.line.transcript told.line).begun ends))

pub requests-preserved : goal.requests-preserved
requests-preserved g c =
    let i = c.requests.invariant in
    let begin : World = world (g.N.Line.model c.args.lent.now.line.now) (g.W.Swift.history c.args.lent.now.store.now) c.args.lent.now.known (g.C.Clock.model c.args.lent.now.clock.now) (g.D.Draws.model c.args.lent.now.draws.now) in
    let present : World = world (g.N.Line.model c.requests.lent.line.now) (g.W.Swift.history c.requests.lent.store.now) c.requests.lent.known (g.C.Clock.model c.requests.lent.clock.now) (g.D.Draws.model c.requests.lent.draws.now) in
    let next : World = world (g.N.Line.model c.serve_next.new.lent.line.now) (g.W.Swift.history c.serve_next.new.lent.store.now) c.serve_next.new.lent.known (g.C.Clock.model c.serve_next.new.lent.clock.now) (g.D.Draws.model c.serve_next.new.lent.draws.now) in
    record {
      stays = stays_on i.stays c.in-None.ensures.stays;
      goes = c.in-None.ensures.goes refl;
      line = line_serves_on i.line c.in-None.ensures.line;
      serves = serves_trans {old = begin} {middle = present} {new = next} i.serves c.in-None.ensures.serves (λ told all kept answered one.
          let P : ℕ → Type 0 = λ n. NextOne c.args.service.now (RepliesBy all c.args.service.now.settings next.store) n (cursor_of c.requests.reader present) None (cursor_of c.serve_next.new.reader next) in
          let before = answered_agree c.args.service.now.settings present.store next.store all begin.line.transcript.begun (start_of begin) (cursor_of c.requests.reader present) kept answered in
          answered_more begin.line.transcript.begun (start_of begin) (cursor_of c.requests.reader present) (cursor_of c.serve_next.new.reader next) before (subst P (i.line.transcript told.line).begun one));
    }

pub serve_next-requires-clause-knows : goal.serve_next-requires-clause-knows
serve_next-requires-clause-knows g c = c.requests.invariant.serves.knows c.requires.knows
