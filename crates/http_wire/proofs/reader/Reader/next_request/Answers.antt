use Rattle.std.proofs.Common.{◌≡◌, ◌++◌, true, false, sym, ap, subst, ◌∙◌}
use Rattle.std.proofs.lemmas.Result.{err_from_is_err_and}
use Rattle.http_wire.specs.Reading.{GivesFirstMessage, Pending}
use Rattle.http_wire.specs.Seen.{window}
use Rattle.http_wire.specs.Taken.{IsAnswer}
use Rattle.httparse.specs.Spans.{IsRequestAt}
use Rattle.http_wire.proofs.FirstMessageLemmas.{whole_head, written}
use Rattle.http_wire.proofs.InterimLemmas.{whole_sent, whole_sent_fault, none_sent}
use Rattle.http_wire.proofs.ReaderLemmas.{all_left, all_stay, gives_headless, gives_taken, headless_ends, headless_falls, headless_has_none}
use Rattle.http_wire.proofs.reader.Reader.next_request.Goals as goal

pub returns-in_ok-taken-in-Ok-Head-clause-effect : goal.returns-in_ok-taken-in-Ok-Head-clause-effect
returns-in_ok-taken-in-Ok-Head-clause-effect g c observable =
    let rest = (g.N.Line.model c.args.line.now).transcript.rest in
    let came = c.advance.new.pending.items in
    let more = (g.N.Line.model c.advance.new.line).transcript.rest in
    let none = c.self.invariant.1 c.if-self.false in
    let all = all_left c.self.inside.pending.items c.self.inside.partial.items c.args.self.now.bytes rest came more none (ap (λ p. p.bytes) c.self.view_is) (c.in-Ok-Head.ensures.kept observable) in
    let found = rw c.in-Ok-Head.field-0-is at c.in-Ok-Head.ensures.found in
    let goes : c.args.self.now.ended ≡ false = sym (ap (λ p. p.ended) c.self.view_is) ∙ c.if-self.false in
    let place : c.self.inside.given ≡ c.args.self.now.place = ap (λ p. p.place) c.self.view_is in
    let spans = c.in-Ok-Head.spans in
    let lines : c.advance.new.headers ≡ c.deref.result.now =
    written c.self.inside.lines.len c.advance.new.headers c.self.inside.lines.items (c.advance.auto.headers ∙ c.deref_mut.ensures.len)
    ∙ sym c.deref.ensures.value in
    let at = subst (λ v. IsRequestAt (window came) v spans found.0.0) lines found.0.1 in
    let has = whole_head came more c.advance.new.headers spans found.0.0 found.0.1 found.1 in
    let left = (c.take_message.new.pending.items ++ c.take_message.new.partial.items) ++ (g.N.Line.model c.take_message.new.line).transcript.rest in
    let taken = c.in_ok-taken-in-Ok-Head.ensures.effect (c.in-Ok-Head.ensures.reads.serves.observable observable) found.0.0 at in
    let new : Pending = record { bytes = c.take_message.new.pending.items ++ c.take_message.new.partial.items; place = c.got_of_taken.new.given; ended = c.got_of_taken.new.over } in
    let is = subst (λ p. IsAnswer c.in_ok-taken-in-Ok-Head.taken p c.got_of_taken.result c.got_of_taken.new.given c.got_of_taken.new.over) place c.got_of_taken.ensures in
    subst (λ v. GivesFirstMessage c.args.limit c.args.self.now v c.got_of_taken.result new left) all
    (gives_taken c.args.limit c.in_ok-taken-in-Ok-Head.taken (came ++ more) found.0.0 spans.len left c.args.self.now c.got_of_taken.result new has taken goes is)

pub returns-in-Ok-clause-effect : goal.returns-in-Ok-clause-effect
returns-in-Ok-clause-effect g c observable =
    let rest = (g.N.Line.model c.args.line.now).transcript.rest in
    let came = c.advance.new.pending.items in
    let more = (g.N.Line.model c.advance.new.line).transcript.rest in
    let none = c.self.invariant.1 c.if-self.false in
    let all = all_left c.self.inside.pending.items c.self.inside.partial.items c.args.self.now.bytes rest came more none (ap (λ p. p.bytes) c.self.view_is) (c.in-Ok.ensures.kept observable) in
    let goes : c.args.self.now.ended ≡ false = sym (ap (λ p. p.ended) c.self.view_is) ∙ c.if-self.false in
    let place : c.self.inside.given ≡ c.args.self.now.place = ap (λ p. p.place) c.self.view_is in
    let stays = all_stay came c.self.inside.partial.items more (c.args.self.now.bytes ++ rest) none all in
    let new : Pending = record { bytes = came ++ c.self.inside.partial.items; place = c.self.inside.given; ended = true } in
    gives_headless c.args.limit c.in-Ok.found came more (c.args.self.now.bytes ++ rest) ((came ++ c.self.inside.partial.items) ++ more) c.advance.new.headers c.self.inside.given c.args.self.now c.headless.result new
    c.headless.ensures c.in-Ok.ensures.found (c.in-Ok.ensures.at_end observable) all stays goes place place

pub returns-in_ok-taken-in-Ok-Head-clause-sent : goal.returns-in_ok-taken-in-Ok-Head-clause-sent
returns-in_ok-taken-in-Ok-Head-clause-sent g c = λ goes observable.
    let rest = (g.N.Line.model c.args.line.now).transcript.rest in
    let came = c.advance.new.pending.items in
    let more = (g.N.Line.model c.advance.new.line).transcript.rest in
    let none = c.self.invariant.1 c.if-self.false in
    let all = all_left c.self.inside.pending.items c.self.inside.partial.items c.args.self.now.bytes rest came more none (ap (λ p. p.bytes) c.self.view_is) (c.in-Ok-Head.ensures.kept observable) in
    let found = rw c.in-Ok-Head.field-0-is at c.in-Ok-Head.ensures.found in
    let spans = c.in-Ok-Head.spans in
    let lines : c.advance.new.headers ≡ c.deref.result.now =
    written c.self.inside.lines.len c.advance.new.headers c.self.inside.lines.items (c.advance.auto.headers ∙ c.deref_mut.ensures.len)
    ∙ sym c.deref.ensures.value in
    let reads = c.in-Ok-Head.ensures.reads in
    let before = (g.N.Line.model c.args.line.now).transcript in
    let middle = (g.N.Line.model c.advance.new.line).transcript in
    let after = (g.N.Line.model c.take_message.new.line).transcript in
    let sends = c.in_ok-taken-in-Ok-Head.ensures.sent (reads.serves.observable observable) in
    whole_sent c.args.limit came more (c.args.self.now.bytes ++ rest) c.advance.new.headers spans (g.C.Counted.called c.args.store.now) before middle after all found (reads.serves.transcript observable).begun (reads.sent observable)
    (λ h at. sends h (subst (λ v. IsRequestAt (window came) v spans h) lines at))

pub returns-in_err-taken-in-Ok-Head-clause-sent : goal.returns-in_err-taken-in-Ok-Head-clause-sent
returns-in_err-taken-in-Ok-Head-clause-sent g c = λ goes observable.
    let rest = (g.N.Line.model c.args.line.now).transcript.rest in
    let came = c.advance.new.pending.items in
    let more = (g.N.Line.model c.advance.new.line).transcript.rest in
    let none = c.self.invariant.1 c.if-self.false in
    let all = all_left c.self.inside.pending.items c.self.inside.partial.items c.args.self.now.bytes rest came more none (ap (λ p. p.bytes) c.self.view_is) (c.in-Ok-Head.ensures.kept observable) in
    let found = rw c.in-Ok-Head.field-0-is at c.in-Ok-Head.ensures.found in
    let spans = c.in-Ok-Head.spans in
    let lines : c.advance.new.headers ≡ c.deref.result.now =
    written c.self.inside.lines.len c.advance.new.headers c.self.inside.lines.items (c.advance.auto.headers ∙ c.deref_mut.ensures.len)
    ∙ sym c.deref.ensures.value in
    let reads = c.in-Ok-Head.ensures.reads in
    let before = (g.N.Line.model c.args.line.now).transcript in
    let middle = (g.N.Line.model c.advance.new.line).transcript in
    let after = (g.N.Line.model c.take_message.new.line).transcript in
    let sends = c.in_err-taken-in-Ok-Head.ensures.sent (reads.serves.observable observable) in
    let p = err_from_is_err_and c.from_residual.result c.from_residual.ensures.1 in
    rw (p.1, p.2) (whole_sent_fault c.args.limit came more (c.args.self.now.bytes ++ rest) c.advance.new.headers spans (g.C.Counted.called c.args.store.now) before middle after _ all found (reads.serves.transcript observable).begun (reads.sent observable)
    (λ h at. sends h (subst (λ v. IsRequestAt (window came) v spans h) lines at)))

pub returns-in-Ok-clause-sent : goal.returns-in-Ok-clause-sent
returns-in-Ok-clause-sent g c = λ goes observable.
    let rest = (g.N.Line.model c.args.line.now).transcript.rest in
    let came = c.advance.new.pending.items in
    let more = (g.N.Line.model c.advance.new.line).transcript.rest in
    let none = c.self.invariant.1 c.if-self.false in
    let all = all_left c.self.inside.pending.items c.self.inside.partial.items c.args.self.now.bytes rest came more none (ap (λ p. p.bytes) c.self.view_is) (c.in-Ok.ensures.kept observable) in
    let empty = headless_has_none c.in-Ok.found came more c.advance.new.headers _ c.headless.result c.headless.ensures c.in-Ok.ensures.found (c.in-Ok.ensures.at_end observable) in
    none_sent c.args.limit came more (c.args.self.now.bytes ++ rest) (g.N.Line.model c.args.line.now).transcript.begun (g.C.Counted.called c.args.store.now) (g.N.Line.model c.args.line.now).transcript.sent (g.N.Line.model c.advance.new.line).transcript.sent all empty (c.in-Ok.ensures.reads.sent observable)

pub returns-in-Ok-clause-falls : goal.returns-in-Ok-clause-falls
returns-in-Ok-clause-falls g c = headless_falls c.in-Ok.found c.self.inside.given c.headless.result _ c.headless.ensures

pub returns-in-Ok-clause-ends : goal.returns-in-Ok-clause-ends
returns-in-Ok-clause-ends g c = headless_ends c.in-Ok.found c.self.inside.given c.headless.result c.headless.ensures
