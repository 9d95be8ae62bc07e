-- The moments of a trial are ones that a clock may give.
use Rattle.std.proofs.Common.{◌≡◌, ◌∙◌, ◌<◌, ◌≤◌, ℕ, zero, suc, ◌+◌, true, [], ◌∷◌, ◌++◌, refl, ap, length, length-append, arith}
use Rattle.std.specs.Prelude.{nat_lt, max}
use Rattle.std.specs.List.{list_all}
use Rattle.std.proofs.lemmas.Bool.{and_from, lt-ltb}
use Rattle.std.proofs.lemmas.List.Folds.{list_all-append}
use Rattle.gate_base.specs.declared.outside.TheConstants.{MOMENT_LIMIT}
use Rattle.trial_cmd.specs.Served.{first_moments, trial_moments}

early : (count : ℕ) → count < 1000000 → list_all (λ m. nat_lt m MOMENT_LIMIT) (first_moments count) ≡ true
unfolding first_moments
early zero few = refl
early (suc count) few =
    list_all-append (λ m. nat_lt m MOMENT_LIMIT) (first_moments count) ((1369353600 + count) ∷ [])
    ∙ and_from _ _ (early count (omega arith)) (and_from _ _ (lt-ltb (1369353600 + count) MOMENT_LIMIT (omega arith)) refl)

first_length : (count : ℕ) → length (first_moments count) ≡ count
unfolding first_moments
first_length zero = refl
first_length (suc count) =
    length-append (first_moments count) ((1369353600 + count) ∷ []) ∙ omega (arith, first_length count)

pub trial_moments_some : (requests : ℕ) → 0 < length (trial_moments requests)
trial_moments_some requests = omega (arith, first_length (max requests 1))

pub trial_moments_early : (requests : ℕ) → requests ≤ 100000 → list_all (λ m. nat_lt m MOMENT_LIMIT) (trial_moments requests) ≡ true
trial_moments_early requests few = early (max requests 1) (omega arith)

pub moments_start : first_moments 0 ≡ []
unfolding first_moments
moments_start = refl

pub moments_more : (index : ℕ) → first_moments index ++ (1369353600 + index) ∷ [] ≡ first_moments (index + 1)
unfolding first_moments
moments_more index = let more : suc index ≡ index + 1 = omega arith in ap first_moments more
