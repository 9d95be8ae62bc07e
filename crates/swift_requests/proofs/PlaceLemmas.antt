-- The token of a message.
use Rattle.std.proofs.Common.{◌≡◌, ℕ, List, [], ◌∷◌, Some, None}
use Rattle.std.specs.Prelude.{◌↔◌}
use Rattle.http_answers.specs.Fields.{at_most_one, needed}

-- the one value of a field is the token
pub has_only : (values : List (List ℕ)) (value token : List ℕ) → Some value ≡ needed (at_most_one values) → (value ≡ token) ↔ (values ≡ token ∷ [])
has_only [] value token found = cc
has_only (only ∷ []) value token found = (λ same. cc, λ same. cc)
has_only (first ∷ second ∷ values) value token found = cc

pub has_none : (values : List (List ℕ)) (token : List ℕ) → None ≡ needed (at_most_one values) → ¬ (values ≡ token ∷ [])
has_none [] token found same = cc
has_none (only ∷ []) token found same = cc
has_none (first ∷ second ∷ values) token found same = cc
