use Rattle.swift_replies.proofs.lemmas.AnswerLaws.{one_reply}
use Rattle.swift_replies.proofs.answer_laws.law_one_reply.Goals as goal

pub returns : goal.returns
returns c = one_reply
