-- The two words for a front.
use Rattle.std.proofs.Common.{◌≡◌, ℕ, ◌&&◌, ◌==◌, List, [], ◌∷◌, refl, ap}
use Rattle.std.specs.Prelude.{nat_eq}
use Rattle.std.specs.List.{starts_with}
use Rattle.s3_machine.specs.Items.{begins}

pub starts_begins : (front text : List ℕ) → starts_with nat_eq text front ≡ begins front text
starts_begins [] text = refl
starts_begins (c ∷ front) [] = refl
starts_begins (c ∷ front) (b ∷ text) = ap (λ t. c == b && t) (starts_begins front text)
