use Rattle.gateway.proofs.lemmas.Ending.{failed_store_rose}
use Rattle.gateway.proofs.laws.law_failed_store_rose.Goals as goal

pub returns : goal.returns
returns c = λ service all h connection old spans new trace. failed_store_rose trace
