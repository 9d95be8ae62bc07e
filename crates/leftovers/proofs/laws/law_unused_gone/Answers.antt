use Rattle.leftovers.proofs.UnusedGone.{unused_gone}
use Rattle.leftovers.proofs.laws.law_unused_gone.Goals as goal

pub returns : goal.returns
returns c = unused_gone
