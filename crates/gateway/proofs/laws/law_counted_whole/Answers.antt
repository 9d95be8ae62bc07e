use Rattle.gateway.proofs.Living.{counted_whole}
use Rattle.gateway.proofs.laws.law_counted_whole.Goals as goal

pub returns : goal.returns
returns c = λ settings k span asked old new whole few counts. counted_whole whole few counts
