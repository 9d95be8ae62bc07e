use Rattle.std.proofs.Common.{◌∙◌, [], subst, refl, sym, inl, arith}
use Rattle.gate_base.specs.Causes.{RisesIf}
use Rattle.gateway.specs.World.{World, world}
use Rattle.gateway.proofs.lemmas.Worlds.{serves_none, serves_trans, stays_none, stays_on}
use Rattle.gateway_cmd.specs.Run.{none, run_cursor_of}
use Rattle.http_service.specs.Running.{is_failed_stop}
use Rattle.http_service.proofs.lemmas.Counting.{Counts, counts_none, counts_next, counts_same, counts_reached, counts_within}
use Rattle.http_service.proofs.lemmas.Faulty.{none_faulty_next, done_next}
use Rattle.http_service.proofs.lemmas.NoneFaulty.{none_faulty_of_none}
use Rattle.gateway_cmd.proofs.Sessions.{run_traces_more, run_traces_end}
use Rattle.gateway_cmd.proofs.session.session.Goals as goal

pub connections-init : goal.connections-init
connections-init g c = record {
  stays = stays_none;
  next_faults = refl;
  faults = omega arith;
  none_faulty = λ observable still. none_faulty_of_none _ _ refl;
  counts = λ observable. counts_none c.args.most (g.N.Line.model c.args.lent.now.line.now).transcript.begun;
  serves = serves_none (λ t. t) (λ told R. ([], none (run_cursor_of (world (g.N.Line.model c.args.lent.now.line.now) (g.W.Swift.history c.args.lent.now.store.now) c.args.lent.now.known (g.C.Clock.model c.args.lent.now.clock.now) (g.D.Draws.model c.args.lent.now.draws.now)))));
}

pub returns-then-is_connection_limit_reached-clause-stays : goal.returns-then-is_connection_limit_reached-clause-stays
returns-then-is_connection_limit_reached-clause-stays g c = c.connections.invariant.stays

pub returns-then-is_connection_limit_reached-clause-line : goal.returns-then-is_connection_limit_reached-clause-line
returns-then-is_connection_limit_reached-clause-line g c =
    let i = c.connections.invariant in
    let old = (g.N.Line.model c.args.lent.now.line.now).transcript in
    let new = (g.N.Line.model c.connections.lent.line.now).transcript in
    record {
      next_faults = i.next_faults;
      observable = i.serves.on.line;
      done = λ observable is. counts_reached c.args.most c.connections.left old new (c.is_connection_limit_reached.ensures.none c.if-is_connection_limit_reached.true) (i.counts observable);
      within = λ observable. counts_within c.args.most c.connections.left old new (i.counts observable);
      none_faulty = i.none_faulty;
    }

pub returns-then-is_connection_limit_reached-clause-serves : goal.returns-then-is_connection_limit_reached-clause-serves
returns-then-is_connection_limit_reached-clause-serves g c = c.connections.invariant.serves

pub returns-in-Some-clause-stays : goal.returns-in-Some-clause-stays
returns-in-Some-clause-stays g c = stays_on c.connections.invariant.stays c.in-Some.ensures.stays

pub returns-in-Some-clause-line : goal.returns-in-Some-clause-line
returns-in-Some-clause-line g c =
    let i = c.connections.invariant in
    let s = c.in-Some.ensures.line in
    record {
      next_faults = subst (λ n. RisesIf (is_failed_stop c.in-Some.stopped) n (g.N.Line.model c.serve_another.new.lent.line.now).next_faults) i.next_faults s.next_faults;
      observable = λ observable. s.observable (i.serves.on.line observable);
      done = λ observable is. inl (done_next s (i.serves.on.line observable) is);
      within = λ observable. counts_within c.args.most c.connections.left (g.N.Line.model c.args.lent.now.line.now).transcript (g.N.Line.model c.serve_another.new.lent.line.now).transcript
          (counts_same c.args.most c.connections.left c.in-Some.stopped _ (g.N.Line.model c.connections.lent.line.now).transcript.begun _ (i.counts observable) (s.begun (i.serves.on.line observable)));
      none_faulty = none_faulty_next (g.N.Line.model c.args.lent.now.line.now) (g.N.Line.model c.connections.lent.line.now) (g.N.Line.model c.serve_another.new.lent.line.now) i.serves.on.line i.faults i.none_faulty s;
    }

pub returns-in-Some-clause-serves : goal.returns-in-Some-clause-serves
returns-in-Some-clause-serves g c =
    let begin : World = world (g.N.Line.model c.args.lent.now.line.now) (g.W.Swift.history c.args.lent.now.store.now) c.args.lent.now.known (g.C.Clock.model c.args.lent.now.clock.now) (g.D.Draws.model c.args.lent.now.draws.now) in
    let present : World = world (g.N.Line.model c.connections.lent.line.now) (g.W.Swift.history c.connections.lent.store.now) c.connections.lent.known (g.C.Clock.model c.connections.lent.clock.now) (g.D.Draws.model c.connections.lent.draws.now) in
    let next : World = world (g.N.Line.model c.serve_another.new.lent.line.now) (g.W.Swift.history c.serve_another.new.lent.store.now) c.serve_another.new.lent.known (g.C.Clock.model c.serve_another.new.lent.clock.now) (g.D.Draws.model c.serve_another.new.lent.draws.now) in
    serves_trans {old = begin} {middle = present} {new = next} c.connections.invariant.serves c.in-Some.ensures.serves (λ told all kept traces one. run_traces_end all c.args.service.now begin present next c.in-Some.stopped kept traces one)

pub connections-preserved : goal.connections-preserved
connections-preserved g c =
    let i = c.connections.invariant in
    let s = c.in-None.ensures.line in
    let begin : World = world (g.N.Line.model c.args.lent.now.line.now) (g.W.Swift.history c.args.lent.now.store.now) c.args.lent.now.known (g.C.Clock.model c.args.lent.now.clock.now) (g.D.Draws.model c.args.lent.now.draws.now) in
    let present : World = world (g.N.Line.model c.connections.lent.line.now) (g.W.Swift.history c.connections.lent.store.now) c.connections.lent.known (g.C.Clock.model c.connections.lent.clock.now) (g.D.Draws.model c.connections.lent.draws.now) in
    let next : World = world (g.N.Line.model c.serve_another.new.lent.line.now) (g.W.Swift.history c.serve_another.new.lent.store.now) c.serve_another.new.lent.known (g.C.Clock.model c.serve_another.new.lent.clock.now) (g.D.Draws.model c.serve_another.new.lent.draws.now) in
    record {
      stays = stays_on i.stays c.in-None.ensures.stays;
      next_faults = s.next_faults ∙ i.next_faults;
      faults = (let a = i.faults in let b = s.faults in omega arith);
      none_faulty = none_faulty_next (g.N.Line.model c.args.lent.now.line.now) (g.N.Line.model c.connections.lent.line.now) (g.N.Line.model c.serve_another.new.lent.line.now) i.serves.on.line i.faults i.none_faulty s;
      counts = λ observable.
          subst (λ left. Counts c.args.most left (g.N.Line.model c.args.lent.now.line.now).transcript.begun (g.N.Line.model c.serve_another.new.lent.line.now).transcript.begun) (sym c.one_less-left.ensures)
          (counts_next c.args.most c.connections.left _ (g.N.Line.model c.connections.lent.line.now).transcript.begun _ (c.is_connection_limit_reached.ensures.some c.if-is_connection_limit_reached.false) (i.counts observable) (s.begun (i.serves.on.line observable)));
      serves = serves_trans {old = begin} {middle = present} {new = next} i.serves c.in-None.ensures.serves (λ told all kept traces one. run_traces_more all c.args.service.now begin present next kept traces one);
    }

pub serve_another-requires : goal.serve_another-requires
serve_another-requires g c = c.connections.invariant.serves.knows c.requires
