use Rattle.account_calls.proofs.FaultFree.{own_or_memory, calm_never_fails}
use Rattle.account_calls.proofs.laws.law_never_unavailable.Goals as goal

pub returns : goal.returns
returns c = λ settings h p q op label takes reply ordered left answers. own_or_memory ordered (calm_never_fails h p q left) answers
