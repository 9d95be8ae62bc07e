-- The search of the first id that is new, try by try.
use Rattle.std.specs.Prelude.{◌≡◌, ◌<◌, ◌+◌, ◌%◌, ◌^◌, ℕ, List, Some}
use Rattle.std.specs.FinMap.{get}
use Rattle.std.proofs.Common.{sym, ap, subst, ◌∙◌, inl, inr, arith}
use Rattle.std.proofs.lemmas.Bool.{cases_lt}
use Rattle.s3_machine.specs.State.{Bucket, State}
use Rattle.s3_machine.specs.Step.{IsNewId}
use Rattle.s3_native.specs.NewIds.{IsFirstNewId}

-- none of the first ids from the draw on is new
abbrev pub NoneNew : Bucket → ℕ → ℕ → Type 0
NoneNew b draw n = (k : ℕ) → k < n → IsNewId b ((draw + k) % 2 ^ 128) → ⊥

pub none_of_none : (b : Bucket) (draw : ℕ) → NoneNew b draw 0
none_of_none b draw = λ k never new. absurd (omega (arith, never))

-- and the next is
pub first_new : (b : Bucket) (draw n id : ℕ) → NoneNew b draw n → id ≡ (draw + n) % 2 ^ 128 → IsNewId b id → IsFirstNewId b draw id
first_new b draw n id before is new = record { tries = n; is = is; new = new; before = before }

-- or it isn't either
pub none_more : (b : Bucket) (draw n id : ℕ) → NoneNew b draw n → id ≡ (draw + n) % 2 ^ 128 → (IsNewId b id → ⊥) → NoneNew b draw (n + 1)
none_more b draw n id before is used = λ k below new. elim (cases_lt k n) [
  | inl sooner ↦ before k sooner new
  | inr here ↦ used (let same : n ≡ k = omega (arith, below, here) in subst (IsNewId b) (sym (is ∙ ap (λ k. (draw + k) % 2 ^ 128) same)) new)
]

-- it is so of the bucket that the state has
pub first_in : (old : State) (bucket : List ℕ) (b : Bucket) (draw id : ℕ) → get old bucket ≡ Some b → IsFirstNewId b draw id → (other : Bucket) → get old bucket ≡ Some other → IsFirstNewId other draw id
first_in old bucket b draw id found first other is = let same : b ≡ other = cc in subst (λ b. IsFirstNewId b draw id) same first
