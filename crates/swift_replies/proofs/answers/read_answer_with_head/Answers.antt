use Rattle.std.proofs.Common.{rules}
use Rattle.swift_replies.proofs.AnswerLemmas.{shows_within, reads_reply, reads_none, reads_no_body}
use Rattle.swift_replies.proofs.answers.read_answer_with_head.Goals as goal

pub reply_body_by_size-requires : goal.reply_body_by_size-requires
reply_body_by_size-requires c = shows_within _ _ c.requires

pub returns-in_default : goal.returns-in_default
returns-in_default c = reads_no_body c.args.call.now c.args.bytes.now c.args.found.now c.requires (search rules)

pub returns-in-Some-2 : goal.returns-in-Some-2
returns-in-Some-2 c =
    reads_reply c.args.call.now c.args.bytes.now c.args.found.now c.in-Some.body.now c.in-Some-2.reply c.requires (search rules) (search rules)

pub returns-in-None : goal.returns-in-None
returns-in-None c =
    reads_none c.args.call.now c.args.bytes.now c.args.found.now c.in-Some.body.now c.requires (search rules) (search rules)
