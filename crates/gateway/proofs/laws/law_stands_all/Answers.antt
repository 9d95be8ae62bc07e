use Rattle.gateway.proofs.lemmas.Standing.{stands_throughout}
use Rattle.gateway.proofs.laws.law_stands_all.Goals as goal

pub returns : goal.returns
returns c = stands_throughout
