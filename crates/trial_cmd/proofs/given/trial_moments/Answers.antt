use Rattle.std.proofs.Common.{◌≡◌, ◌∙◌, ◌+◌, ◌<◌, ◌++◌, ◌∷◌, [], true, length, sym, ap, subst, arith}
use Rattle.std.specs.Prelude.{nat_lt}
use Rattle.std.specs.List.{list_all}
use Rattle.gate_base.specs.declared.outside.TheConstants.{MOMENT_LIMIT}
use Rattle.trial_cmd.specs.Served.{first_moments}
use Rattle.trial_cmd.proofs.Moments.{moments_start, moments_more, trial_moments_some, trial_moments_early}
use Rattle.trial_cmd.proofs.given.trial_moments.Goals as goal

pub moments-init : goal.moments-init
moments-init c = c.new-moments.ensures ∙ sym moments_start

pub moments-preserved : goal.moments-preserved
moments-preserved c = c.in_ok-push.ensures.ok ∙ ap (λ m. m ++ (1369353600 + c.moments.index) ∷ []) c.moments.invariant ∙ moments_more c.moments.index

pub returns-clause-value : goal.returns-clause-value
returns-clause-value c = c.moments.invariant ∙ ap first_moments (omega (arith, c.moment_count-index-end.ensures))

pub returns-clause-some : goal.returns-clause-some
returns-clause-some c = subst (λ m. 0 < length m) (sym (returns-clause-value c)) (trial_moments_some c.args.requests)

pub returns-clause-early : goal.returns-clause-early
returns-clause-early c = subst (λ m. list_all (λ m. nat_lt m MOMENT_LIMIT) m ≡ true) (sym (returns-clause-value c)) (trial_moments_early c.args.requests c.requires)
