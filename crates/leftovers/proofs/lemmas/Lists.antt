-- Lists: the item at a place, the two parts of one, and what passes a test.
use Rattle.std.specs.Prelude.{◌≡◌, ◌<◌, ℕ, zero, suc, Bool, true, cond, List, [], ◌∷◌, ◌++◌, length, take, drop, get_or}
use Rattle.std.specs.List.{AllByRecursion, filter}
use Rattle.std.proofs.Common.{refl, sym, ap, subst, ◌∙◌, arith}

pub at_place : {X : Type 0} (P : X → Type 0) (xs : List X) (i : ℕ) (x : X) → i < length xs → x ≡ get_or xs i x → AllByRecursion P xs → P x
at_place P [] i x within is all = absurd (omega (arith, within))
at_place P (y ∷ xs) zero x within is all = subst P (sym is) all.0
at_place P (y ∷ xs) (suc i) x within is all = at_place P xs i x (omega (arith, within)) is all.1

pub take_zero : {X : Type 0} (xs : List X) → take 0 xs ≡ []
take_zero [] = refl
take_zero (x ∷ xs) = refl

pub halves : {X : Type 0} (n : ℕ) (xs : List X) → take n xs ++ drop n xs ≡ xs
halves zero [] = refl
halves zero (x ∷ xs) = refl
halves (suc n) [] = refl
halves (suc n) (x ∷ xs) = ap (λ l. x ∷ l) (halves n xs)

pub filter_alike : {X : Type 0} (p q : X → Bool) → ((x : X) → p x ≡ q x) → (xs : List X) → filter p xs ≡ filter q xs
filter_alike p q same [] = refl
filter_alike p q same (x ∷ xs) = (λ i. cond (same x i) (x ∷ filter p xs) (filter p xs)) ∙ ap (λ l. cond (q x) (x ∷ l) l) (filter_alike p q same xs)

pub filter_all : {X : Type 0} (xs : List X) → filter (λ x. true) xs ≡ xs
filter_all [] = refl
filter_all (x ∷ xs) = ap (λ l. x ∷ l) (filter_all xs)
