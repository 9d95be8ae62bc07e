use Rattle.account_calls.proofs.lemmas.Ends.{out_of_memory}
use Rattle.plan_uploads.proofs.Beside.{beside_none}
use Rattle.plan_uploads.proofs.abort.abort_open.Goals as goal

pub returns-in_err-folder-clause-plans : goal.returns-in_err-folder-clause-plans
returns-in_err-folder-clause-plans g c = λ key text label. out_of_memory _ _ c.from_residual.ensures.1

pub returns-in_err-folder-clause-beside : goal.returns-in_err-folder-clause-beside
returns-in_err-folder-clause-beside g c = λ key text label. beside_none _ _ _ _ _ c.from_residual.ensures.1

pub returns-in_err-prefix-clause-plans : goal.returns-in_err-prefix-clause-plans
returns-in_err-prefix-clause-plans g c = λ key text label. out_of_memory _ _ c.from_residual-in_err-prefix.ensures.1

pub returns-in_err-prefix-clause-beside : goal.returns-in_err-prefix-clause-beside
returns-in_err-prefix-clause-beside g c = λ key text label. beside_none _ _ _ _ _ c.from_residual-in_err-prefix.ensures.1
