use Rattle.std.proofs.Common.{sym, ap, subst, ◌∙◌, arith, length-take}
use Rattle.httparse.specs.Spans.{IsRequestAt}
use Rattle.http_wire.specs.FirstMessage.{message_of}
use Rattle.http_wire.specs.Seen.{window}
use Rattle.http_wire.proofs.InterimLemmas.{fault_for_head, none_for_head, sent_for_head}
use Rattle.http_wire.proofs.take.take_message.Goals as goal

pub take_offered-requires-clause-within : goal.take_offered-requires-clause-within
take_offered-requires-clause-within g c =
    omega (arith, c.requires.within.section.len_fits, length-take 16384 c.args.pending.now.items)

pub returns-clause-sent : goal.returns-clause-sent
returns-clause-sent g c = λ observable h at.
    let bytes = c.window.ensures.value ∙ ap window c.deref.ensures.value in
    sent_for_head c.args.limit c.in-Ok.size c.in_ok-message.message (message_of h) _ _ _ _ (c.in_ok-message.ensures h (subst (λ v. IsRequestAt v c.args.lines.now c.args.spans.now h) (sym bytes) at)) c.in-Ok.ensures.value (c.in-Ok-true.ensures.sent observable)

pub returns-in-Ok-false-clause-sent : goal.returns-in-Ok-false-clause-sent
returns-in-Ok-false-clause-sent g c = λ observable h at.
    let bytes = c.window.ensures.value ∙ ap window c.deref.ensures.value in
    sent_for_head c.args.limit c.in-Ok.size c.in_ok-message.message (message_of h) _ _ _ _ (c.in_ok-message.ensures h (subst (λ v. IsRequestAt v c.args.lines.now c.args.spans.now h) (sym bytes) at)) c.in-Ok.ensures.value (c.in-Ok-false.ensures.sent observable)

pub returns-in-Err-clause-sent : goal.returns-in-Err-clause-sent
returns-in-Err-clause-sent g c = λ observable h at.
    let bytes = c.window.ensures.value ∙ ap window c.deref.ensures.value in
    none_for_head c.args.limit c.in-Err.kind c.in_ok-message.message (message_of h) _ _ _ (c.in_ok-message.ensures h (subst (λ v. IsRequestAt v c.args.lines.now c.args.spans.now h) (sym bytes) at)) c.in-Err.ensures.value

pub returns-in-Err-take_offered-clause-sent : goal.returns-in-Err-take_offered-clause-sent
returns-in-Err-take_offered-clause-sent g c = λ observable h at.
    let bytes = c.window.ensures.value ∙ ap window c.deref.ensures.value in
    fault_for_head c.args.limit c.in-Ok.size c.in_ok-message.message (message_of h) (g.C.Counted.called c.args.store.now) (g.N.Line.model c.args.line.now).transcript (g.N.Line.model c.take_offered.new.line).transcript c.in-Err-take_offered.fault (c.in_ok-message.ensures h (subst (λ v. IsRequestAt v c.args.lines.now c.args.spans.now h) (sym bytes) at)) c.in-Ok.ensures.value (c.in-Err-take_offered.ensures.sent observable)
