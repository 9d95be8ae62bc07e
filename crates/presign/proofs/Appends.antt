-- Lists to which items were added one after the other.
use Rattle.std.proofs.Common.{◌≡◌, ℕ, List, [], ◌∷◌, ◌++◌, append_assoc, append-nil, ap, ◌∙◌}
use Rattle.gate_base.specs.declared.page.Pair.{Pair}

pub two_more : (a b : Pair) (old one two : List Pair) → one ≡ old ++ a ∷ [] → two ≡ one ++ b ∷ [] → two ≡ old ++ a ∷ b ∷ []
two_more a b old one two first second = second ∙ ap (λ xs. xs ++ b ∷ []) first ∙ append_assoc old (a ∷ []) (b ∷ [])

pub three_more : (a b c : Pair) (old one two three : List Pair) → one ≡ old ++ a ∷ [] → two ≡ one ++ b ∷ [] → three ≡ two ++ c ∷ [] → three ≡ old ++ a ∷ b ∷ c ∷ []
three_more a b c old one two three first second third =
    third ∙ ap (λ xs. xs ++ c ∷ []) (two_more a b old one two first second) ∙ append_assoc old (a ∷ b ∷ []) (c ∷ [])

pub both_more : (old one two first second : List Pair) → one ≡ old ++ first → two ≡ one ++ second → two ≡ old ++ (first ++ second)
both_more old one two first second a b = b ∙ ap (λ xs. xs ++ second) a ∙ append_assoc old first second

-- a path, a query and a signature, one behind the other
pub url_joined : (path query label digits : List ℕ) → path ++ 63 ∷ (query ++ (label ++ (digits ++ []))) ≡ ((path ++ 63 ∷ []) ++ query) ++ label ++ digits
url_joined path query label digits = simp (append_assoc, append-nil)
