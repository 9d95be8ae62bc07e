use Rattle.std.proofs.Common.{codes, rules, ◌∙◌}
use Rattle.swift_replies.proofs.SentLemmas.{readers_is, same_header}
use Rattle.swift_replies.proofs.written.readers_answer.Goals as goal

pub returns : goal.returns
returns c =
    readers_is c.args.readers c.args.created c.in_ok-text.text c.append_swift_header.new.text c.append_swift_created.new.text c.append_answer_body.new.text
    (search rules) c.in_ok-text.ensures
    (c.in_ok-append_swift_header.ensures ∙ same_header c.in_ok-text.text (codes "X-Container-Read") _ _ c.readers_text.ensures)
    c.in_ok-append_swift_created.ensures c.in_ok-append_answer_body.ensures
