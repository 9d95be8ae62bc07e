use Rattle.account_calls.proofs.FaultFree.{own_or_memory}
use Rattle.account_calls.proofs.laws.law_answered_fault_free.Goals as goal

pub returns : goal.returns
returns c = λ settings h p q op label takes reply ordered none answers. own_or_memory ordered none answers
