use Rattle.account_calls.proofs.Acknowledged.{one_acknowledged}
use Rattle.account_calls.proofs.laws.law_one_acknowledged.Goals as goal

pub returns : goal.returns
returns c = one_acknowledged
