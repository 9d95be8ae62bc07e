use Rattle.sweep.proofs.SparedSides.{others_same, others_spared}
use Rattle.std.proofs.Common.{sym, ◌∙◌}
use Rattle.account_calls.proofs.lemmas.One.{not_asked}
use Rattle.leftovers.specs.declared.sides.Kind.TheVariants.{Records}
use Rattle.sweep.proofs.Named.{asks_named, side_records, told_side}
use Rattle.leftovers.specs.Faults.{as_plan}
use Rattle.leftovers.proofs.lemmas.Faults.{plan_gives}
use Rattle.sweep.proofs.containers.sweep_name.Goals as goal

pub returns-in_err-bucket-clause-asks : goal.returns-in_err-bucket-clause-asks
returns-in_err-bucket-clause-asks g c = not_asked _ _ (as_plan c.from_residual.result) (plan_gives _ _ c.from_residual.ensures.1)

pub sweep_beside-requires-clause-bucket : goal.sweep_beside-requires-clause-bucket
sweep_beside-requires-clause-bucket g c = (told_side Records c.args.name.now c.in-Some.bucket (sym c.in_ok-bucket.ensures ∙ c.in-Some.is)).0

pub sweep_beside-requires-clause-folder : goal.sweep_beside-requires-clause-folder
sweep_beside-requires-clause-folder g c = (told_side Records c.args.name.now c.in-Some.bucket (sym c.in_ok-bucket.ensures ∙ c.in-Some.is)).1

pub returns-in-Some-clause-asks : goal.returns-in-Some-clause-asks
returns-in-Some-clause-asks g c =
    let told = sym c.in_ok-bucket.ensures ∙ c.in-Some.is in
    asks_named c.args.listed.now Records c.in-Some.bucket c.args.name.now (told_side Records c.args.name.now c.in-Some.bucket told).1 (side_records c.args.name.now c.in-Some.bucket told) _ c.sweep_beside.ensures.asks

pub sweep_other-requires : goal.sweep_other-requires
sweep_other-requires g c = sym c.in_ok-bucket.ensures ∙ c.in-None.is

pub returns-in-None-clause-asks : goal.returns-in-None-clause-asks
returns-in-None-clause-asks g c = c.sweep_other.ensures.asks

pub returns-in_err-bucket-clause-spares : goal.returns-in_err-bucket-clause-spares
returns-in_err-bucket-clause-spares g c = others_same (g.W.Swift.history c.args.store.now)

pub returns-in-Some-clause-spares : goal.returns-in-Some-clause-spares
returns-in-Some-clause-spares g c = others_spared Records c.in-Some.bucket (told_side Records c.args.name.now c.in-Some.bucket (sym c.in_ok-bucket.ensures ∙ c.in-Some.is)).0 c.sweep_beside.ensures.spares

pub returns-in-None-clause-spares : goal.returns-in-None-clause-spares
returns-in-None-clause-spares g c = c.sweep_other.ensures.spares
