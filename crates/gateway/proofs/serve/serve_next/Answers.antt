use Rattle.std.proofs.Common.{List, ℕ, ◌++◌, ap, subst, sym}
use Rattle.http_wire.specs.Interim.{OwesInterim, SendsInterim, MaySendInterim, CutsInterim}
use Rattle.gateway.proofs.Serving.{next_request, next_refused, next_end, next_cut, next_failed, next_unread}
use Rattle.gateway.proofs.lemmas.Worlds.{serves_none, serves_after}
use Rattle.gateway.proofs.serve.serve_next.Goals as goal

pub returns-in-Ok-Request-clause-serves : goal.returns-in-Ok-Request-clause-serves
returns-in-Ok-Request-clause-serves g c =
    let step = c.in-Ok-Request.ensures in
    let observable = step.line.observable in
    let all : List ℕ = c.args.reader.now.bytes ++ (g.N.Line.model c.args.lent.now.line.now).transcript.rest in
    let before = (g.N.Line.model c.args.lent.now.line.now).transcript in
    let after = (g.N.Line.model c.next_request.new.line).transcript in
    serves_after observable c.answer.ensures.serves (λ told R span.
    let gives = rw c.in-Ok-Request.field-0-is at (step.effect told.line) in
    let owed = subst (λ n. SendsInterim (OwesInterim c.args.service.now.settings.largest_body all) before.begun n before.sent after.sent) (sym (g.met.W.Swift.counted c.args.lent.now.store.now)) (step.sent c.requires.goes told.line) in
    let rest = ap (λ (x : List ℕ). c.next_request.new.self.bytes ++ x) (c.answer.ensures.writes.rest (observable told.line)) in
    next_request c.args.service.now _ _ _ _ _ _ c.args.reader.now c.next_request.new.self _ _ after c.in-Ok-Request.message _ _ _ gives (step.line.transcript told.line).begun owed rest span)

pub returns-in-Ok-Refused-clause-serves : goal.returns-in-Ok-Refused-clause-serves
returns-in-Ok-Refused-clause-serves g c =
    let step = c.in-Ok-Refused.ensures in
    let observable = step.line.observable in
    let all : List ℕ = c.args.reader.now.bytes ++ (g.N.Line.model c.args.lent.now.line.now).transcript.rest in
    let before = (g.N.Line.model c.args.lent.now.line.now).transcript in
    let after = (g.N.Line.model c.next_request.new.line).transcript in
    serves_after observable c.answer-in-Ok-Refused.ensures.serves (λ told R span.
    let gives = rw c.in-Ok-Refused.field-0-is at (step.effect told.line) in
    let owed = subst (λ n. SendsInterim (OwesInterim c.args.service.now.settings.largest_body all) before.begun n before.sent after.sent) (sym (g.met.W.Swift.counted c.args.lent.now.store.now)) (step.sent c.requires.goes told.line) in
    let rest = ap (λ (x : List ℕ). c.next_request.new.self.bytes ++ x) (c.answer-in-Ok-Refused.ensures.writes.rest (observable told.line)) in
    next_refused c.args.service.now _ _ _ _ _ _ c.args.reader.now c.next_request.new.self _ _ after c.in-Ok-Refused.kind c.in-Ok-Refused.place c.in-Ok-Refused.head _ _ _ gives (step.line.transcript told.line).begun owed rest span)

pub returns-in-Ok-End-clause-serves : goal.returns-in-Ok-End-clause-serves
returns-in-Ok-End-clause-serves g c =
    let step = c.in-Ok-End.ensures in
    let all : List ℕ = c.args.reader.now.bytes ++ (g.N.Line.model c.args.lent.now.line.now).transcript.rest in
    let left : List ℕ = c.next_request.new.self.bytes ++ (g.N.Line.model c.next_request.new.line).transcript.rest in
    let before = (g.N.Line.model c.args.lent.now.line.now).transcript in
    let after = (g.N.Line.model c.next_request.new.line).transcript in
    serves_none step.line.observable (λ told R.
    let gives = rw c.in-Ok-End.field-0-is at (step.effect told.line) in
    let owed = subst (λ n. SendsInterim (OwesInterim c.args.service.now.settings.largest_body all) before.begun n before.sent after.sent) (sym (g.met.W.Swift.counted c.args.lent.now.store.now)) (step.sent c.requires.goes told.line) in
    next_end c.args.service.now _ _ _ _ _ _ c.args.reader.now c.next_request.new.self all left _ _ c.requires.goes gives owed)

pub returns-in-Ok-CutShort-clause-serves : goal.returns-in-Ok-CutShort-clause-serves
returns-in-Ok-CutShort-clause-serves g c =
    let step = c.in-Ok-CutShort.ensures in
    let all : List ℕ = c.args.reader.now.bytes ++ (g.N.Line.model c.args.lent.now.line.now).transcript.rest in
    let left : List ℕ = c.next_request.new.self.bytes ++ (g.N.Line.model c.next_request.new.line).transcript.rest in
    let before = (g.N.Line.model c.args.lent.now.line.now).transcript in
    let after = (g.N.Line.model c.next_request.new.line).transcript in
    serves_none step.line.observable (λ told R.
    let gives = rw c.in-Ok-CutShort.field-0-is at (step.effect told.line) in
    let owed = subst (λ n. SendsInterim (OwesInterim c.args.service.now.settings.largest_body all) before.begun n before.sent after.sent) (sym (g.met.W.Swift.counted c.args.lent.now.store.now)) (step.sent c.requires.goes told.line) in
    next_cut c.args.service.now _ _ _ _ _ _ c.args.reader.now c.next_request.new.self all left c.in-Ok-CutShort.place _ _ gives owed)

pub returns-in-Err-Failed-clause-serves : goal.returns-in-Err-Failed-clause-serves
returns-in-Err-Failed-clause-serves g c =
    let step = c.in-Err-Failed.ensures in
    let all : List ℕ = c.args.reader.now.bytes ++ (g.N.Line.model c.args.lent.now.line.now).transcript.rest in
    let left : List ℕ = c.next_request.new.self.bytes ++ (g.N.Line.model c.next_request.new.line).transcript.rest in
    let before = (g.N.Line.model c.args.lent.now.line.now).transcript in
    let after = (g.N.Line.model c.next_request.new.line).transcript in
    serves_none step.line.observable (λ told R.
    let sent = rw c.in-Err-Failed.field-0-is at (step.sent c.requires.goes told.line) in
    let owed = subst (λ n. CutsInterim (OwesInterim c.args.service.now.settings.largest_body all) before.begun n before.sent after.sent) (sym (g.met.W.Swift.counted c.args.lent.now.store.now)) sent in
    next_failed c.args.service.now _ _ _ _ _ _ c.args.reader.now c.next_request.new.self all left _ owed)

pub returns-in-Err-Memory-clause-serves : goal.returns-in-Err-Memory-clause-serves
returns-in-Err-Memory-clause-serves g c =
    let step = c.in-Err-Memory.ensures in
    let writes = c.end_connection_unread.ensures.writes in
    let all : List ℕ = c.args.reader.now.bytes ++ (g.N.Line.model c.args.lent.now.line.now).transcript.rest in
    let left : List ℕ = c.next_request.new.self.bytes ++ (g.N.Line.model c.end_connection_unread.new.line).transcript.rest in
    let before = (g.N.Line.model c.args.lent.now.line.now).transcript in
    let after = (g.N.Line.model c.next_request.new.line).transcript in
    serves_none (λ t. writes.serves.observable (step.line.observable t)) (λ told R.
    let sent = rw c.in-Err-Memory.field-0-is at (step.sent c.requires.goes told.line) in
    let owed = subst (λ n. MaySendInterim (OwesInterim c.args.service.now.settings.largest_body all) before.begun n before.sent after.sent) (sym (g.met.W.Swift.counted c.args.lent.now.store.now)) sent in
    next_unread c.args.service.now _ _ _ _ _ _ c.args.reader.now c.next_request.new.self all left after (g.N.Line.model c.end_connection_unread.new.line).transcript _ (step.line.transcript told.line).begun owed
    (c.end_connection_unread.ensures.effect (step.line.observable told.line)))

pub returns-in-Ok-Request-clause-stays : goal.returns-in-Ok-Request-clause-stays
returns-in-Ok-Request-clause-stays g c =
    let stays = c.answer.ensures.stays in
    record { line = stays.line; store = stays.store; clock = stays.clock; draws = stays.draws }

pub returns-in-Ok-Refused-clause-stays : goal.returns-in-Ok-Refused-clause-stays
returns-in-Ok-Refused-clause-stays g c =
    let stays = c.answer-in-Ok-Refused.ensures.stays in
    record { line = stays.line; store = stays.store; clock = stays.clock; draws = stays.draws }
