use Rattle.std.proofs.Common.{sym, subst}
use Rattle.account_calls.specs.Plan.{Answered}
use Rattle.account_calls.proofs.lemmas.Puts.{ensures_reply}
use Rattle.account_calls.proofs.lemmas.Ends.{answered_by}
use Rattle.many_keys.proofs.ReplyKinds.{kind_reply}
use Rattle.many_keys.proofs.CopiedFrom.{none_beside, source_reply}
use Rattle.many_keys.proofs.operation.answer.Goals as goal

pub returns-clause-answered : goal.returns-clause-answered
returns-clause-answered g c = subst (Answered _ _ _ _ _ _ _) (sym c.reply_of.ensures) (answered_by (none_beside _) c.plan.ensures.stops c.plan.ensures.plans)

pub returns-clause-stands : goal.returns-clause-stands
returns-clause-stands g c = rw c.reply_of.ensures (ensures_reply _ c.plan.ensures.stands)

pub returns-clause-kind : goal.returns-clause-kind
returns-clause-kind g c = rw c.reply_of.ensures (kind_reply _ c.plan.ensures.kind)

pub returns-clause-source : goal.returns-clause-source
returns-clause-source g c = rw c.reply_of.ensures (source_reply _ _ _ c.plan.ensures.source)
