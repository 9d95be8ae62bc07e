use Rattle.std.proofs.Common.{ℕ, rules}
use Rattle.swift_replies.proofs.SentLemmas.{part_is}
use Rattle.swift_replies.proofs.written.part_answer.Goals as goal

pub returns : goal.returns
returns c =
    let range : ℕ × ℕ = (c.args.first, c.args.last) in
    part_is c.args.head.now range c.args.body.now c.in_ok-text.text c.append_answer_object_headers.new.text c.append_answer_content_range.new.text c.in_ok-answer.answer
    (search rules) (search rules) (search rules) (search rules)
