-- The times of the requests have the form that is signed.
use Rattle.std.proofs.Common.{◌≡◌, ℕ, ◌+◌, ◌*◌, ◌/◌, ◌%◌, ◌<◌, ◌≤◌, List, [], ◌∷◌, true, refl, arith}
use Rattle.std.proofs.lemmas.Bool.{and_from}
use Rattle.std.proofs.lemmas.Bool.Decides.{nat_tests}
use Rattle.gate_base.specs.Ascii.{is_digit}
use Rattle.sigv4.specs.Sign.{is_date_time}
use Rattle.trial_requests.specs.Trial.{trial_time}

digit : (n : ℕ) → n < 10 → is_digit (48 + n) ≡ true
digit n small = grind (arith, nat_tests)

form : (a b c d e f g h : ℕ) → is_digit a ≡ true → is_digit b ≡ true → is_digit c ≡ true → is_digit d ≡ true → is_digit e ≡ true → is_digit f ≡ true → is_digit g ≡ true → is_digit h ≡ true
    → is_date_time (50 ∷ 48 ∷ 49 ∷ 51 ∷ 48 ∷ 53 ∷ a ∷ b ∷ 84 ∷ c ∷ d ∷ e ∷ f ∷ g ∷ h ∷ 90 ∷ []) ≡ true
form a b c d e f g h ia ib ic id ie jf ig ih =
    and_from _ _
    (and_from _ _ (and_from _ _ (and_from _ _ ia (and_from _ _ ib refl)) refl)
    (and_from _ _ ic (and_from _ _ id (and_from _ _ ie (and_from _ _ jf (and_from _ _ ig (and_from _ _ ih refl))))))) refl

pub time_has_form : (index : ℕ) → index ≤ 99999 → is_date_time (trial_time index) ≡ true
time_has_form index few =
    form (48 + (24 + index / 86400) / 10) (48 + (24 + index / 86400) % 10) (48 + index % 86400 / 3600 / 10) (48 + index % 86400 / 3600 % 10)
    (48 + index / 60 % 60 / 10) (48 + index / 60 % 60 % 10) (48 + index % 60 / 10) (48 + index % 60 % 10)
    (digit ((24 + index / 86400) / 10) (omega arith)) (digit ((24 + index / 86400) % 10) (omega arith))
    (digit (index % 86400 / 3600 / 10) (omega arith)) (digit (index % 86400 / 3600 % 10) (omega arith))
    (digit (index / 60 % 60 / 10) (omega arith)) (digit (index / 60 % 60 % 10) (omega arith))
    (digit (index % 60 / 10) (omega arith)) (digit (index % 60 % 10) (omega arith))
