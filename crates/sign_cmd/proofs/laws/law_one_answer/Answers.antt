use Rattle.sign_cmd.proofs.AnswerLemmas.{one_answer}
use Rattle.sign_cmd.proofs.laws.law_one_answer.Goals as goal

pub returns : goal.returns
returns c = one_answer
