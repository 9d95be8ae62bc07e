use Rattle.swift_replies.proofs.lemmas.AnswerLaws.{one_answer}
use Rattle.swift_replies.proofs.answer_laws.law_one_answer.Goals as goal

pub returns : goal.returns
returns c = one_answer
