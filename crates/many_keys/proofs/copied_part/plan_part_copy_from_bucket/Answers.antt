use Rattle.std.specs.Prelude.{None, Some}
use Rattle.std.proofs.Common.{lit≤, rules}
use Rattle.account_calls.proofs.lemmas.Ends.{told_nothing, answers, goes_on}
use Rattle.many_keys.proofs.CopiedPart.{copy_of_none}
use Rattle.account_calls.proofs.lemmas.Refusals.{stops_behind}
use Rattle.many_keys.proofs.copied_part.plan_part_copy_from_bucket.Goals as goal

pub returns-in_err-head-clause-plans : goal.returns-in_err-head-clause-plans
returns-in_err-head-clause-plans g c = λ key text. told_nothing (lit≤ tt) c.in_err-head.ensures.asks _ c.from_residual.ensures.1

pub returns-in_default-clause-plans : goal.returns-in_default-clause-plans
returns-in_default-clause-plans g c = λ key text.
    answers (lit≤ tt) None c.in_default.is _ c.in_ok-head.ensures.asks (search rules)
    (λ tree may none. copy_of_none _ _ _ _ _ _ _ _ _ _ tree c.fits.ensures c.args.copy.into.id may none)

pub returns-clause-plans : goal.returns-clause-plans
returns-clause-plans g c = λ key text.
    goes_on (lit≤ tt) (Some c.in-Some.head) c.in-Some.is c.head_object.ensures.stays.settings c.in_ok-head.ensures.asks (c.plan_part_copy_under_conditions.ensures.plans key text)
    (λ tree may there. record { opened = may.opened; source = there })

pub returns-clause-stops : goal.returns-clause-stops
returns-clause-stops g c = stops_behind c.in_ok-head.ensures.asks _ c.plan_part_copy_under_conditions.ensures.stops
