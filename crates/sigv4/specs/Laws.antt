-- What the laws of this crate say.
use Rattle.std.specs.Prelude.{◌≡◌, ◌↔◌, ℕ, List, true, Some, IsPermutation}
use Rattle.gate_base.specs.declared.page.Pair.{Pair}
use Rattle.sigv4.specs.Authorization.{IsAuthorization, authorization_of}
use Rattle.sigv4.specs.Canonical.{ordered, is_ordered}
use Rattle.sigv4.specs.declared.authorization.Authorization.{Authorization}

-- pairs in order are the same pairs, none behind the next one, and no other list is that
abbrev pub QueryOrdered : Type 0
QueryOrdered =
    (pairs : List Pair)
    → (is_ordered (ordered pairs) ≡ true) × IsPermutation pairs (ordered pairs)
    × ((other : List Pair) → is_ordered other ≡ true → IsPermutation pairs other → other ≡ ordered pairs)

-- reading a header finds exactly the parts of which the header is the text, so that a header has no other parts
abbrev pub AuthorizationRead : Type 0
AuthorizationRead = (text : List ℕ) (parts : Authorization) → (authorization_of text ≡ Some parts) ↔ IsAuthorization text parts
