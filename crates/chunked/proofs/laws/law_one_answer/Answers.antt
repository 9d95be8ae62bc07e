use Rattle.chunked.proofs.Law.{one_answer}
use Rattle.chunked.proofs.laws.law_one_answer.Goals as goal

pub returns : goal.returns
returns c = one_answer
