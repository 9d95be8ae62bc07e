use Rattle.std.proofs.Common.{sym, ◌∙◌}
use Rattle.account_calls.proofs.lemmas.One.{not_asked}
use Rattle.account_calls.proofs.lemmas.Left.{throughout_none}
use Rattle.leftovers.specs.declared.sides.Kind.TheVariants.{Segments}
use Rattle.sweep.proofs.Named.{told_side}
use Rattle.sweep.proofs.NamedShares.{side_none, side_share}
use Rattle.leftovers.specs.Faults.{as_plan}
use Rattle.leftovers.proofs.lemmas.Faults.{plan_gives}
use Rattle.sweep.proofs.shares.survey_side.Goals as goal

pub returns-in_err-bucket : goal.returns-in_err-bucket
returns-in_err-bucket g c = record { asks = not_asked _ _ (as_plan c.from_residual.result) (plan_gives _ _ c.from_residual.ensures.1); leaves = throughout_none (g.W.Swift.history c.args.store.now) }

pub survey_strays-requires-clause-bucket : goal.survey_strays-requires-clause-bucket
survey_strays-requires-clause-bucket g c = (told_side Segments c.args.name.now c.in-Some.bucket (sym c.in_ok-bucket.ensures ∙ c.in-Some.is)).0

pub survey_strays-requires-clause-folder : goal.survey_strays-requires-clause-folder
survey_strays-requires-clause-folder g c = (told_side Segments c.args.name.now c.in-Some.bucket (sym c.in_ok-bucket.ensures ∙ c.in-Some.is)).1

pub returns-in-Some : goal.returns-in-Some
returns-in-Some g c = record { asks = side_share c.args.name.now c.requires (sym c.in_ok-bucket.ensures ∙ c.in-Some.is) _ c.survey_strays.ensures.asks; leaves = c.survey_strays.ensures.leaves }

pub returns-in-None : goal.returns-in-None
returns-in-None g c = record { asks = side_none c.args.name.now c.requires _ (sym c.in_ok-bucket.ensures ∙ c.in-None.is); leaves = throughout_none (g.W.Swift.history c.args.store.now) }
