use Rattle.account_calls.proofs.lemmas.One.{not_sent}
use Rattle.planner.proofs.deletions.delete_key.Goals as goal

pub returns-in_err-bucket-clause-changes : goal.returns-in_err-bucket-clause-changes
returns-in_err-bucket-clause-changes g c = not_sent _ _ c.from_residual.ensures.1

pub returns-in_err-key-clause-changes : goal.returns-in_err-key-clause-changes
returns-in_err-key-clause-changes g c = not_sent _ _ c.from_residual-in_err-key.ensures.1
