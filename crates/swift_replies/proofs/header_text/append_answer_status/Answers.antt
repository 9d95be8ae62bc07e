use Rattle.swift_replies.proofs.SentLemmas.{status_is}
use Rattle.swift_replies.proofs.header_text.append_answer_status.Goals as goal

pub returns : goal.returns
returns c =
    status_is c.args.status c.args.text.now c.phrase_of.result.now c.append.new.self c.append_answer_status_digits.new.text c.append-2.new.self c.append-3.new.self
    c.in_ok-append.ensures.ok c.in_ok-append_answer_status_digits.ensures c.phrase_of.ensures c.in_ok-append-2.ensures.ok c.in_ok-append-3.ensures.ok
