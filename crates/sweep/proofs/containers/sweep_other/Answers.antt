use Rattle.sweep.proofs.SparedSides.{others_same, others_spared}
use Rattle.std.proofs.Common.{sym, ◌∙◌}
use Rattle.account_calls.proofs.lemmas.One.{not_asked}
use Rattle.leftovers.specs.declared.sides.Kind.TheVariants.{Segments}
use Rattle.sweep.proofs.Beside.{asks_none}
use Rattle.sweep.proofs.Named.{asks_named, none_beside, side_none, side_segments, told_side}
use Rattle.sweep.proofs.Tally.{tallies_none}
use Rattle.leftovers.specs.Faults.{as_plan}
use Rattle.leftovers.proofs.lemmas.Faults.{plan_gives}
use Rattle.sweep.proofs.containers.sweep_other.Goals as goal

pub returns-in_err-bucket-clause-asks : goal.returns-in_err-bucket-clause-asks
returns-in_err-bucket-clause-asks g c = not_asked _ _ (as_plan c.from_residual.result) (plan_gives _ _ c.from_residual.ensures.1)

pub sweep_beside-requires-clause-bucket : goal.sweep_beside-requires-clause-bucket
sweep_beside-requires-clause-bucket g c = (told_side Segments c.args.name.now c.in-Some.bucket (sym c.in_ok-bucket.ensures ∙ c.in-Some.is)).0

pub sweep_beside-requires-clause-folder : goal.sweep_beside-requires-clause-folder
sweep_beside-requires-clause-folder g c = (told_side Segments c.args.name.now c.in-Some.bucket (sym c.in_ok-bucket.ensures ∙ c.in-Some.is)).1

pub returns-in-Some-clause-asks : goal.returns-in-Some-clause-asks
returns-in-Some-clause-asks g c =
    let told = sym c.in_ok-bucket.ensures ∙ c.in-Some.is in
    asks_named c.args.listed.now Segments c.in-Some.bucket c.args.name.now (told_side Segments c.args.name.now c.in-Some.bucket told).1 (side_segments c.args.name.now c.in-Some.bucket c.requires told) _ c.sweep_beside.ensures.asks

pub returns-in-None-clause-asks : goal.returns-in-None-clause-asks
returns-in-None-clause-asks g c = asks_none _ _ _ (λ tree sound has. none_beside c.args.name.now (side_none c.args.name.now c.requires (sym c.in_ok-bucket.ensures ∙ c.in-None.is)) tree)

pub returns-in-None-clause-tallies : goal.returns-in-None-clause-tallies
returns-in-None-clause-tallies g c = tallies_none _

pub returns-in_err-bucket-clause-spares : goal.returns-in_err-bucket-clause-spares
returns-in_err-bucket-clause-spares g c = others_same (g.W.Swift.history c.args.store.now)

pub returns-in-Some-clause-spares : goal.returns-in-Some-clause-spares
returns-in-Some-clause-spares g c = others_spared Segments c.in-Some.bucket (told_side Segments c.args.name.now c.in-Some.bucket (sym c.in_ok-bucket.ensures ∙ c.in-Some.is)).0 c.sweep_beside.ensures.spares

pub returns-in-None-clause-spares : goal.returns-in-None-clause-spares
returns-in-None-clause-spares g c = others_same (g.W.Swift.history c.args.store.now)
