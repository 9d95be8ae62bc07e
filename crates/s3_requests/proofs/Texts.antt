-- Texts behind references.
use Rattle.std.proofs.Common.{◌≡◌, refl, ap, ◌||◌, ℕ, List, [], ◌∷◌, map, bytes_eq, Bor}
use Rattle.std.specs.List.{list_any}

-- a test of the texts is one of what the references are to
pub any_text : (name : List ℕ) (names : List (Bor (List ℕ))) → list_any (λ other. bytes_eq name other.now) names ≡ list_any (λ other. bytes_eq name other) (map (λ other. other.now) names)
any_text name [] = refl
any_text name (other ∷ names) = ap (λ found. bytes_eq name other.now || found) (any_text name names)
