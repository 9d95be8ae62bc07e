use Rattle.leftovers.proofs.SideGone.{side_gone}
use Rattle.leftovers.proofs.laws.law_side_gone.Goals as goal

pub returns : goal.returns
returns c = side_gone
