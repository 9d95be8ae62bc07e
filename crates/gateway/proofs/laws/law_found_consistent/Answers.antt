use Rattle.gateway.proofs.lemmas.Ending.{found_consistent}
use Rattle.gateway.proofs.laws.law_found_consistent.Goals as goal

pub returns : goal.returns
returns c = λ service h connection container name old spans new trace. found_consistent trace
