-- The pieces of metadata that are written are read back.
use Rattle.std.proofs.Common.{◌||◌, append_assoc, subst, ◌≡◌, ◌≢◌, ℕ, zero, suc, ◌+◌, ◌^◌, ◌<◌, ◌≤◌, Bool, true, false, cond, List, [], ◌∷◌, ◌++◌, length, map, Some, None, refl, ap, ap₂, ◌∙◌, arith}
use Rattle.std.specs.Prelude.{decimal, bytes_eq, option_map, filter}
use Rattle.std.specs.Char.{to_ascii_lowercase}
use Rattle.std.specs.List.{list_all}
use Rattle.std.proofs.lemmas.Bool.{cond-false, and_parts, false_from_ne_true}
use Rattle.std.proofs.lemmas.Bool.Decides.{nat_tests}
use Rattle.std.proofs.lemmas.Fmt.{decimal_injective}
use Rattle.std.proofs.lemmas.Slice.Eq.{bytes_eq-Decides}
use Rattle.gate_base.specs.Ascii.{is_digit}
use Rattle.gate_base.specs.declared.page.Pair.{Pair}
use Rattle.http1.specs.Fields.{Header}
use Rattle.http_wire.specs.Headers.{value_of, has_name, has_header, values_of}
use Rattle.swift_replies.specs.AnswerText.{meta_fields}
use Rattle.swift_replies.specs.AnswerText.{header_pair}
use Rattle.http_answers.specs.Fields.{at_most_one}
use Rattle.swift_replies.specs.Fields.{meta_name, meta_by, meta_from, meta_in}
use Rattle.swift_replies.proofs.lemmas.GivenLemmas.{given, given-append, given_step, given_other}
use Rattle.text_forms.proofs.lemmas.Decimals.{decimal_digits}
use Rattle.http_answers.proofs.lemmas.NumberLemmas.{same_bytes}
use Rattle.swift_replies.proofs.SentLemmas.{piece_field}

-- digits are the same in lower case
low_digit : (b : ℕ) → is_digit b ≡ true → to_ascii_lowercase b ≡ b
low_digit b h = grind (arith, nat_tests)

low_digits : (text : List ℕ) → list_all is_digit text ≡ true → map to_ascii_lowercase text ≡ text
low_digits [] all = refl
low_digits (b ∷ text) all =
    let parts = and_parts (is_digit b) (list_all is_digit text) all in ap₂ (λ x xs. x ∷ xs) (low_digit b parts.0) (low_digits text parts.1)

low_decimal : (n : ℕ) → n < 2 ^ 64 → map to_ascii_lowercase (decimal n) ≡ decimal n
low_decimal n fits = low_digits (decimal n) (decimal_digits n fits)

-- whether a piece has the name of an index
named : (i j : ℕ) (piece : List ℕ) → i < 2 ^ 64 → has_name (meta_name j) (header_pair (piece_field i piece)) ≡ bytes_eq (decimal i) (decimal j)
named i j piece fits = ap (λ text. bytes_eq text (decimal j)) (low_decimal i fits)

is_named : (i : ℕ) (piece : List ℕ) → i < 2 ^ 64 → has_name (meta_name i) (header_pair (piece_field i piece)) ≡ true
is_named i piece fits = named i i piece fits ∙ same_bytes (decimal i)

isnt_named : (i j : ℕ) (piece : List ℕ) → i < 2 ^ 64 → j < 2 ^ 64 → i ≢ j → has_name (meta_name j) (header_pair (piece_field i piece)) ≡ false
isnt_named i j piece fits also apart =
    named i j piece fits
    ∙ false_from_ne_true (bytes_eq (decimal i) (decimal j))
    (λ same. apart (decimal_injective i j fits also ((bytes_eq-Decides (decimal i) (decimal j)).0 same)))

-- an index below all of them
later : (i j : ℕ) (pieces : List (List ℕ)) → j < i → i + length pieces < 2 ^ 64 → given (meta_name j) (meta_fields i pieces) ≡ []
later i j [] low fits = refl
later i j (piece ∷ pieces) low fits =
    given_other (meta_name j) (piece_field i piece) (meta_fields (i + 1) pieces)
    (isnt_named i j piece (omega (arith, fits)) (omega (arith, low, fits)) (λ same. omega (arith, low, same)))
    (later (i + 1) j pieces (omega (arith, low)) (omega (arith, fits)))

-- the values of the pieces from an index on, and none behind them
At : List Pair → ℕ → List (List ℕ) → Type 0
At headers i [] = values_of (meta_name i) headers ≡ []
At headers i (piece ∷ pieces) = (values_of (meta_name i) headers ≡ piece ∷ []) × At headers (i + 1) pieces

pub none_has : (name : List ℕ) (headers : List Pair) → values_of name headers ≡ [] → has_header name headers ≡ false
none_has name [] none = refl
none_has name (h ∷ headers) none = by_test (has_name name h) none (none_has name headers)
  where
    by_test : (b : Bool) → map value_of (cond b (h ∷ filter (has_name name) headers) (filter (has_name name) headers)) ≡ []
        → (values_of name headers ≡ [] → has_header name headers ≡ false) → (b || has_header name headers) ≡ false
    by_test true some more = absurd (omega (arith, ap length some))
    by_test false some more = more some

from_at : (headers : List Pair) (most i : ℕ) (pieces : List (List ℕ)) → length pieces ≤ most → At headers i pieces → meta_from most i headers ≡ Some pieces
unfolding meta_from At
from_at headers zero i [] few at = cond-false (has_header (meta_name i) headers) None (Some []) (none_has (meta_name i) headers at)
from_at headers (suc most) i [] few at = ap (λ values. meta_by (at_most_one values) (meta_from most (i + 1) headers)) at
from_at headers zero i (piece ∷ pieces) few at = absurd (omega (arith, few))
from_at headers (suc most) i (piece ∷ pieces) few at =
    ap (λ values. meta_by (at_most_one values) (meta_from most (i + 1) headers)) at.0
    ∙ ap (λ rest. option_map (λ others. piece ∷ others) rest) (from_at headers most (i + 1) pieces (omega (arith, few)) at.1)

-- the fields are some of other names, then pieces of lower indexes, then these, then others of other names
abbrev pub Others : List Header → Type 0
Others fields = (i : ℕ) → given (meta_name i) fields ≡ []

at_all : (front back : List Header) (i : ℕ) (pieces : List (List ℕ)) → Others back → i + length pieces < 2 ^ 63 → ((j : ℕ) → i ≤ j → j < 2 ^ 64 → given (meta_name j) front ≡ [])
    → At (map header_pair (front ++ (meta_fields i pieces ++ back))) i pieces
unfolding At
at_all front back i [] others fits past =
    given-append (meta_name i) front back ∙ ap₂ (λ x y. x ++ y) (past i (omega arith) (omega (arith, fits))) (others i)
at_all front back i (piece ∷ pieces) others fits past =
    let here : given (meta_name i) (front ++ (piece_field i piece ∷ (meta_fields (i + 1) pieces ++ back))) ≡ piece ∷ [] =
    given-append (meta_name i) front (piece_field i piece ∷ (meta_fields (i + 1) pieces ++ back))
    ∙ ap₂ (λ x y. x ++ y) (past i (omega arith) (omega (arith, fits)))
    (given_step (meta_name i) (piece_field i piece) (meta_fields (i + 1) pieces ++ back)
    ∙ ap₂ (λ b rest. cond b (piece ∷ rest) rest) (is_named i piece (omega (arith, fits)))
    (given-append (meta_name i) (meta_fields (i + 1) pieces) back
    ∙ ap₂ (λ x y. x ++ y) (later (i + 1) i pieces (omega arith) (omega (arith, fits))) (others i))) in
    let same : (front ++ piece_field i piece ∷ []) ++ (meta_fields (i + 1) pieces ++ back) ≡ front ++ (piece_field i piece ∷ (meta_fields (i + 1) pieces ++ back)) =
    append_assoc front (piece_field i piece ∷ []) (meta_fields (i + 1) pieces ++ back) in
    let low : (j : ℕ) → i + 1 ≤ j → j < 2 ^ 64 → given (meta_name j) (front ++ piece_field i piece ∷ []) ≡ [] =
    λ j above small. given-append (meta_name j) front (piece_field i piece ∷ [])
    ∙ ap₂ (λ x y. x ++ y) (past j (omega (arith, above)) small)
    (given_other (meta_name j) (piece_field i piece) [] (isnt_named i j piece (omega (arith, fits)) small (λ even. omega (arith, above, even))) refl) in (
      here,
      subst (λ fields. At (map header_pair fields) (i + 1) pieces) same
          (at_all (front ++ piece_field i piece ∷ []) back (i + 1) pieces others (omega (arith, fits)) low),
    )

pub meta_read : (front back : List Header) (pieces : List (List ℕ)) → Others front → Others back → length pieces ≤ 11
    → meta_in (map header_pair (front ++ (meta_fields 0 pieces ++ back))) ≡ Some pieces
meta_read front back pieces one two few =
    from_at (map header_pair (front ++ (meta_fields 0 pieces ++ back))) 11 0 pieces few
    (at_all front back 0 pieces two (omega (arith, few)) (λ j above small. one j))
