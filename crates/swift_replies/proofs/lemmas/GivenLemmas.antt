-- The values of the header fields that are written.
use Rattle.std.proofs.Common.{◌≡◌, ℕ, ◌+◌, Bool, true, false, cond, List, [], ◌∷◌, ◌++◌, map, refl, ap, sym, ◌∙◌}
use Rattle.std.specs.Prelude.{codes, decimal, bytes_eq, filter}
use Rattle.std.specs.Char.{to_ascii_lowercase}
use Rattle.http1.specs.Fields.{Header}
use Rattle.http_wire.specs.Headers.{has_name, values_of}
use Rattle.swift_replies.specs.AnswerText.{meta_fields, header_pair}

-- the values of a name among fields
abbrev pub given : List ℕ → List Header → List (List ℕ)
given name fields = values_of name (map header_pair fields)

given_by : (name : List ℕ) (b : Bool) (h : Header) (rest more : List (List ℕ)) → cond b (h.1 ∷ (rest ++ more)) (rest ++ more) ≡ cond b (h.1 ∷ rest) rest ++ more
given_by name true h rest more = refl
given_by name false h rest more = refl

lifted : (b : Bool) (h : Header) (fields : List Header) (name : List ℕ)
    → map (λ p. p.value) (cond b (header_pair h ∷ filter (has_name name) (map header_pair fields)) (filter (has_name name) (map header_pair fields)))
    ≡ cond b (h.1 ∷ given name fields) (given name fields)
lifted true h fields name = refl
lifted false h fields name = refl

pub given_step : (name : List ℕ) (h : Header) (fields : List Header) → given name (h ∷ fields) ≡ cond (has_name name (header_pair h)) (h.1 ∷ given name fields) (given name fields)
given_step name h fields = lifted (has_name name (header_pair h)) h fields name

pub given-append : (name : List ℕ) (front back : List Header) → given name (front ++ back) ≡ given name front ++ given name back
given-append name [] back = refl
given-append name (h ∷ front) back =
    given_step name h (front ++ back)
    ∙ ap (λ rest. cond (has_name name (header_pair h)) (h.1 ∷ rest) rest) (given-append name front back)
    ∙ given_by name (has_name name (header_pair h)) h (given name front) (given name back)
    ∙ ap (λ values. values ++ given name back) (sym (given_step name h front))

-- none of the fields has the name
pub given_other : (name : List ℕ) (h : Header) (fields : List Header) → has_name name (header_pair h) ≡ false → given name fields ≡ [] → given name (h ∷ fields) ≡ []
given_other name h fields other none =
    given_step name h fields ∙ ap (λ b. cond b (h.1 ∷ given name fields) (given name fields)) other ∙ none

pub given_meta : (name : List ℕ) → ((index : ℕ) → bytes_eq (map to_ascii_lowercase (codes "X-Object-Meta-S3-" ++ decimal index)) name ≡ false)
    → (index : ℕ) (pieces : List (List ℕ)) → given name (meta_fields index pieces) ≡ []
given_meta name other index [] = refl
given_meta name other index (piece ∷ pieces) =
    given_other name (codes "X-Object-Meta-S3-" ++ decimal index, piece) (meta_fields (index + 1) pieces) (other index) (given_meta name other (index + 1) pieces)
