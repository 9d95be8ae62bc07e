use Rattle.std.proofs.Common.{sym, ◌∙◌, lit≤, subst, IfSome}
use Rattle.account_calls.proofs.lemmas.Puts.{ensures_less}
use Rattle.many_keys.proofs.CopiedPart.{copy_is_empty, plans_within}
use Rattle.s3_machine.specs.Proper.{IsProperCopyRange}
use Rattle.many_keys.proofs.copied_part.plan_part_copy_of_wanted.Goals as goal

pub returns-then-wanted-eq0-clause-plans : goal.returns-then-wanted-eq0-clause-plans
returns-then-wanted-eq0-clause-plans g c = λ key text.
    plans_within (lit≤ tt)
    (λ tree may. copy_is_empty c.args.state.now.settings.now _ _ _ c.args.copy.into.number _ _ _ c.args.copy.into.label tree c.fits.ensures c.args.copy.into.id c.args.head may c.requires.wanted.ends
    (subst (λ r. IfSome r IsProperCopyRange) c.numbers_of.ensures.numbers c.numbers_of.ensures.ranges) (sym c.requires.wanted.are ∙ c.if-wanted-eq0.true))
    (rw c.new.ensures at c.plan_put_part_copy.ensures.plans key text c.args.copy.from_bucket c.args.copy.from_key c.args.copy.range)

pub returns-clause-plans : goal.returns-clause-plans
returns-clause-plans g c = λ key text. c.plan_part_copy_of_bytes.ensures.plans key text

pub returns-then-wanted-eq0-clause-stands : goal.returns-then-wanted-eq0-clause-stands
returns-then-wanted-eq0-clause-stands g c = ensures_less (λ tree stands. record { body = _; stands = stands }) _ c.plan_put_part_copy.ensures.stands
