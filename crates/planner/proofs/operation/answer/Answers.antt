use Rattle.std.proofs.Common.{sym, subst}
use Rattle.account_calls.specs.Plan.{Answered}
use Rattle.account_calls.proofs.lemmas.Ends.{answered_by, none_beside}
use Rattle.account_calls.proofs.lemmas.Puts.{ensures_reply}
use Rattle.planner.specs.Reading.{GivesNoByte}
use Rattle.planner.proofs.Bodiless.{reply_bodiless}
use Rattle.planner.proofs.operation.answer.Goals as goal

pub returns-clause-answered : goal.returns-clause-answered
returns-clause-answered g c = subst (Answered _ _ _ _ _ _ _) (sym c.reply_of.ensures) (answered_by (none_beside _) c.plan.ensures.stops c.plan.ensures.plans)

pub returns-clause-stands : goal.returns-clause-stands
returns-clause-stands g c = λ observable. rw c.reply_of.ensures (ensures_reply _ c.plan.ensures.stands observable)

pub returns-clause-bodiless : goal.returns-clause-bodiless
returns-clause-bodiless g c = subst GivesNoByte (sym c.reply_of.ensures) (reply_bodiless _ c.plan.ensures.bodiless)
