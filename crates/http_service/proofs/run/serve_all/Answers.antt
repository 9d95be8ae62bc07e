use Rattle.std.proofs.Common.{◌∙◌, [], subst, refl, sym, inl, arith}
use Rattle.gate_base.specs.Causes.{RisesIf}
use Rattle.http_service.specs.Trace.{none}
use Rattle.http_service.specs.Running.{is_failed_stop, run_cursor}
use Rattle.http_service.proofs.lemmas.Counting.{Counts, counts_none, counts_next, counts_same, counts_reached, counts_within}
use Rattle.http_service.proofs.lemmas.Faulty.{none_faulty_next, done_next}
use Rattle.http_service.proofs.Runs.{served_on, served_more, served_end}
use Rattle.http_service.proofs.lemmas.NoneFaulty.{none_faulty_of_none}
use Rattle.http_service.proofs.run.serve_all.Goals as goal

pub connections-init : goal.connections-init
connections-init g c = record {
  next_faults = refl;
  faults = omega arith;
  observable = λ t. t;
  none_faulty = λ observable still. none_faulty_of_none _ _ refl;
  counts = λ observable. counts_none c.args.most (g.N.Line.model c.args.line.now).transcript.begun;
  goes = g.met.S.Service.goes_on_none c.args.service.now;
  serves = λ view given told. ([], none (run_cursor (g.N.Line.model c.args.line.now).transcript (g.S.Service.state c.args.service.now)));
}

pub returns-then-is_connection_limit_reached-clause-line : goal.returns-then-is_connection_limit_reached-clause-line
returns-then-is_connection_limit_reached-clause-line g c =
    let i = c.connections.invariant in
    let old = (g.N.Line.model c.args.line.now).transcript in
    let new = (g.N.Line.model c.connections.line).transcript in
    record {
      next_faults = i.next_faults;
      observable = i.observable;
      done = λ observable is. counts_reached c.args.most c.connections.left old new (c.is_connection_limit_reached.ensures.none c.if-is_connection_limit_reached.true) (i.counts observable);
      within = λ observable. counts_within c.args.most c.connections.left old new (i.counts observable);
      none_faulty = i.none_faulty;
    }

pub returns-in-Some-clause-line : goal.returns-in-Some-clause-line
returns-in-Some-clause-line g c =
    let i = c.connections.invariant in
    let s = c.in-Some.ensures.line in
    record {
      next_faults = subst (λ n. RisesIf (is_failed_stop c.in-Some.stopped) n (g.N.Line.model c.serve_another.new.line).next_faults) i.next_faults s.next_faults;
      observable = λ t. s.observable (i.observable t);
      done = λ observable is. inl (done_next s (i.observable observable) is);
      within = λ observable. counts_within c.args.most c.connections.left (g.N.Line.model c.args.line.now).transcript (g.N.Line.model c.serve_another.new.line).transcript
          (counts_same c.args.most c.connections.left c.in-Some.stopped _ (g.N.Line.model c.connections.line).transcript.begun _ (i.counts observable) (s.begun (i.observable observable)));
      none_faulty = none_faulty_next (g.N.Line.model c.args.line.now) (g.N.Line.model c.connections.line) (g.N.Line.model c.serve_another.new.line) i.observable i.faults i.none_faulty s;
    }

pub returns-in-Some-clause-serves : goal.returns-in-Some-clause-serves
returns-in-Some-clause-serves g c = λ view given told.
    let i = c.connections.invariant in
    let step = c.in-Some.ensures in
    let now = g.met.S.Service.given_on view c.args.service.now c.connections.service i.goes given in
    let begin = run_cursor (g.N.Line.model c.args.line.now).transcript (g.S.Service.state c.args.service.now) in
    let present = run_cursor (g.N.Line.model c.connections.line).transcript (g.S.Service.state c.connections.service) in
    let next = run_cursor (g.N.Line.model c.serve_another.new.line).transcript (g.S.Service.state c.serve_another.new.service) in
    served_end g.S.Service.number g.S.Service.limit g.S.Service.memory (g.S.Service.Answers view c.serve_another.new.service) begin present next c.in-Some.stopped
    (served_on g.S.Service.number g.S.Service.limit g.S.Service.memory (g.met.S.Service.answers_on view c.connections.service c.serve_another.new.service step.goes now) begin present (i.serves view given told))
    (step.serves view now (i.observable told))

pub connections-preserved : goal.connections-preserved
connections-preserved g c =
    let i = c.connections.invariant in
    let step = c.in-None.ensures in
    let s = step.line in
    record {
      next_faults = s.next_faults ∙ i.next_faults;
      faults = (let a = i.faults in let b = s.faults in omega arith);
      observable = λ t. s.observable (i.observable t);
      none_faulty = none_faulty_next (g.N.Line.model c.args.line.now) (g.N.Line.model c.connections.line) (g.N.Line.model c.serve_another.new.line) i.observable i.faults i.none_faulty s;
      counts = λ observable.
          subst (λ left. Counts c.args.most left (g.N.Line.model c.args.line.now).transcript.begun (g.N.Line.model c.serve_another.new.line).transcript.begun) (sym c.one_less-left.ensures)
          (counts_next c.args.most c.connections.left _ (g.N.Line.model c.connections.line).transcript.begun _ (c.is_connection_limit_reached.ensures.some c.if-is_connection_limit_reached.false) (i.counts observable) (s.begun (i.observable observable)));
      goes = g.met.S.Service.goes_on_then c.args.service.now c.connections.service c.serve_another.new.service i.goes step.goes;
      serves = λ view given told.
          let now = g.met.S.Service.given_on view c.args.service.now c.connections.service i.goes given in
          let begin = run_cursor (g.N.Line.model c.args.line.now).transcript (g.S.Service.state c.args.service.now) in
          let present = run_cursor (g.N.Line.model c.connections.line).transcript (g.S.Service.state c.connections.service) in
          let next = run_cursor (g.N.Line.model c.serve_another.new.line).transcript (g.S.Service.state c.serve_another.new.service) in
          served_more g.S.Service.number g.S.Service.limit g.S.Service.memory (g.S.Service.Answers view c.serve_another.new.service) begin present next
          (served_on g.S.Service.number g.S.Service.limit g.S.Service.memory (g.met.S.Service.answers_on view c.connections.service c.serve_another.new.service step.goes now) begin present (i.serves view given told))
          (step.serves view now (i.observable told));
    }
