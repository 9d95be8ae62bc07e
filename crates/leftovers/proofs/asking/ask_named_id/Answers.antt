use Rattle.std.proofs.Common.{refl, ap, ◌∙◌}
use Rattle.upload_records.specs.Layout.{uploads_name}
use Rattle.account_calls.proofs.lemmas.One.{not_asked}
use Rattle.account_calls.proofs.lemmas.Left.{throughout_none}
use Rattle.leftovers.specs.Faults.{as_plan}
use Rattle.leftovers.proofs.lemmas.Faults.{fault_at, names_as, names_none, plan_gives}
use Rattle.leftovers.proofs.asking.ask_named_id.Goals as goal

pub returns-in-Ok-clause-asks : goal.returns-in-Ok-clause-asks
returns-in-Ok-clause-asks g c = c.in-Ok.ensures.asks

pub returns-clause-asks : goal.returns-clause-asks
returns-clause-asks g c = fault_at _ _ c.in-Err.fault c.file_fault.result c.file_fault.ensures c.in-Err.ensures.asks

pub returns-in-Ok-clause-leaves : goal.returns-in-Ok-clause-leaves
returns-in-Ok-clause-leaves g c = c.in-Ok.ensures.leaves

pub returns-clause-leaves : goal.returns-clause-leaves
returns-clause-leaves g c = c.in-Err.ensures.leaves

pub returns-clause-names : goal.returns-clause-names
returns-clause-names g c = names_as (c.as_slice-in-Err.ensures ∙ c.in_ok-uploads.ensures ∙ ap uploads_name c.as_slice.ensures) refl c.in-Err.fault c.file_fault.result c.file_fault.ensures

pub returns-in-Ok-clause-clear : goal.returns-in-Ok-clause-clear
returns-in-Ok-clause-clear g c = c.in-Ok.ensures.clear

pub returns-in_err-uploads-clause-asks : goal.returns-in_err-uploads-clause-asks
returns-in_err-uploads-clause-asks g c = not_asked _ _ (as_plan c.from_residual.result) (plan_gives _ _ c.from_residual.ensures.1)

pub returns-in_err-uploads-clause-names : goal.returns-in_err-uploads-clause-names
returns-in_err-uploads-clause-names g c = names_none _ _ c.from_residual.result c.from_residual.ensures.1

pub returns-in_err-uploads-clause-leaves : goal.returns-in_err-uploads-clause-leaves
returns-in_err-uploads-clause-leaves g c = throughout_none (g.W.Swift.history c.args.store.now)
