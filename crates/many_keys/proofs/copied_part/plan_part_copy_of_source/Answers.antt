use Rattle.std.proofs.Common.{ap, arith, sym, ◌∙◌, rules}
use Rattle.s3_machine.specs.Limits.{body_limit}
use Rattle.account_calls.proofs.lemmas.Ends.{needs_none}
use Rattle.many_keys.proofs.CopiedPart.{copy_past_end, copy_too_large, same_length, too_large}
use Rattle.account_calls.proofs.lemmas.Refusals.{stops_unrefused}
use Rattle.many_keys.proofs.copied_part.plan_part_copy_of_source.Goals as goal

pub returns-then-not-has_last-clause-plans : goal.returns-then-not-has_last-clause-plans
returns-then-not-has_last-clause-plans g c = λ key text.
    needs_none _ (search rules) (λ tree may. copy_past_end _ _ _ _ _ _ _ _ _ tree c.fits.ensures c.args.copy.into.id c.args.head may (sym c.has_last.ensures ∙ c.if-not-has_last.true))

pub returns-then-wanted-limit-clause-plans : goal.returns-then-wanted-limit-clause-plans
returns-then-wanted-limit-clause-plans g c = λ key text.
    needs_none _ (search rules)
    (λ tree may. copy_too_large _ _ _ _ _ _ _ _ _ tree c.fits.ensures c.args.copy.into.id c.args.head may (sym c.has_last.ensures ∙ c.if-not-has_last.false) (too_large _ _ _ _ (c.body_limit-limit.ensures ∙ ap body_limit c.settings.ensures) (same_length c.copied_span-wanted.ensures) c.if-wanted-limit.true))

pub returns-clause-plans : goal.returns-clause-plans
returns-clause-plans g c = λ key text. c.plan_part_copy_of_wanted.ensures.plans key text

pub returns-clause-stops : goal.returns-clause-stops
returns-clause-stops g c = stops_unrefused _ c.plan_part_copy_of_wanted.ensures.unrefused

pub plan_part_copy_of_wanted-requires : goal.plan_part_copy_of_wanted-requires
plan_part_copy_of_wanted-requires g c =
    let limit = c.body_limit-limit.ensures ∙ ap body_limit c.settings.ensures in
    record {
      wanted = record {
        shown = c.requires.shown;
        ends = sym c.has_last.ensures ∙ c.if-not-has_last.false;
        are = same_length c.copied_span-wanted.ensures;
        sized = omega (arith, limit, c.if-wanted-limit.false);
      };
    }
