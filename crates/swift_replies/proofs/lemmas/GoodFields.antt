-- The header fields that are written have the form that a reader takes.
use Rattle.std.proofs.Common.{◌≡◌, ℕ, zero, suc, ◌+◌, ◌-◌, ◌^◌, ◌<◌, true, not, List, [], ◌∷◌, ◌++◌, length, get_or, reverse, refl, ap, ◌∙◌, arith}
use Rattle.std.specs.Prelude.{codes, decimal, nat_lt, nat_eq}
use Rattle.std.specs.List.{list_all}
use Rattle.std.specs.Char.{is_ascii_alphanumeric}
use Rattle.std.proofs.lemmas.Bool.{and_parts, and_from, or_left}
use Rattle.std.proofs.lemmas.Bool.Decides.{nat_tests}
use Rattle.std.proofs.lemmas.List.{get_or-reverse, length-reverse}
use Rattle.std.proofs.lemmas.List.Folds.{list_all-append}
use Rattle.gate_base.specs.Ascii.{is_visible, is_digit}
use Rattle.http1.specs.Fields.{Header}
use Rattle.http1.specs.Head.{starts_visible, is_trimmed_value, is_header}
use Rattle.httparse.specs.Grammar.{is_token, is_token_byte, is_value_byte, is_ows}
use Rattle.gate_base.specs.Fields.{is_field, is_printable}
use Rattle.swift_replies.specs.AnswerText.{meta_fields}
use Rattle.swift_replies.proofs.lemmas.CutLemmas.{weaker}
use Rattle.text_forms.proofs.lemmas.Decimals.{decimal_digits}

-- ---- values without white space at an end

printable_value : (b : ℕ) → is_printable b ≡ true → is_value_byte b ≡ true
printable_value b h = grind (arith, nat_tests)

shows : (b : ℕ) → is_printable b ≡ true → not (nat_eq b 32) ≡ true → not (is_ows b) ≡ true
shows b h other = grind (arith, nat_tests)

front_shows : (text : List ℕ) → (0 < length text → not (is_ows (get_or text 0 0)) ≡ true) → starts_visible text ≡ true
front_shows [] shown = refl
front_shows (b ∷ text) shown = shown (omega arith)

printable_at : (text : List ℕ) (i : ℕ) → list_all is_printable text ≡ true → i < length text → is_printable (get_or text i 0) ≡ true
printable_at [] i all within = absurd (omega (arith, within))
printable_at (b ∷ text) zero all within = (and_parts (is_printable b) (list_all is_printable text) all).0
printable_at (b ∷ text) (suc i) all within =
    printable_at text i (and_parts (is_printable b) (list_all is_printable text) all).1 (omega (arith, within))

pub trimmed : (text : List ℕ) → list_all is_printable text ≡ true → not (nat_eq (get_or text 0 0) 32) ≡ true
    → not (nat_eq (get_or text (length text - 1) 0) 32) ≡ true → is_trimmed_value text ≡ true
trimmed text all first last =
    and_from (starts_visible text) _ (front_shows text (λ some. shows (get_or text 0 0) (printable_at text 0 all some) first))
    (and_from (starts_visible (reverse text)) _ (front_shows (reverse text) back) (weaker is_printable is_value_byte printable_value text all))
  where
    back : 0 < length (reverse text) → not (is_ows (get_or (reverse text) 0 0)) ≡ true
    back some =
        let size : 0 < length text = omega (arith, some, length-reverse text) in
        let place : length text - 1 - 0 ≡ length text - 1 = omega arith in
        let within : length text - 1 < length text = omega (arith, size) in
        let e : get_or (reverse text) 0 0 ≡ get_or text (length text - 1) 0 = get_or-reverse text 0 0 size ∙ ap (λ i. get_or text i 0) place in
        ap (λ b. not (is_ows b)) e ∙ shows (get_or text (length text - 1) 0) (printable_at text (length text - 1) all within) last

visible_printable : (b : ℕ) → is_visible b ≡ true → is_printable b ≡ true
visible_printable b h = grind (arith, nat_tests)

no_space : (b : ℕ) → is_visible b ≡ true → not (nat_eq b 32) ≡ true
no_space b h = grind (arith, nat_tests)

no_space_at : (text : List ℕ) (i : ℕ) → list_all is_visible text ≡ true → not (nat_eq (get_or text i 0) 32) ≡ true
no_space_at [] i all = refl
no_space_at (b ∷ text) zero all = no_space b (and_parts (is_visible b) (list_all is_visible text) all).0
no_space_at (b ∷ text) (suc i) all = no_space_at text i (and_parts (is_visible b) (list_all is_visible text) all).1

pub visible_trimmed : (text : List ℕ) → list_all is_visible text ≡ true → is_trimmed_value text ≡ true
visible_trimmed text all = trimmed text (weaker is_visible is_printable visible_printable text all) (no_space_at text 0 all) (no_space_at text (length text - 1) all)

pub value_trimmed : (most : ℕ) (text : List ℕ) → is_field most text ≡ true → is_trimmed_value text ≡ true
value_trimmed most text is =
    let last = and_parts _ (not (nat_eq (get_or text (length text - 1) 0) 32)) is in
    let first = and_parts _ (not (nat_eq (get_or text 0 0) 32)) last.0 in
    let all = and_parts _ (list_all is_printable text) first.0 in
    trimmed text all.1 first.1 last.1

digit_visible : (b : ℕ) → is_digit b ≡ true → is_visible b ≡ true
digit_visible b h = grind (arith, nat_tests)

pub decimal_visible : (n : ℕ) → n < 2 ^ 64 → list_all is_visible (decimal n) ≡ true
decimal_visible n fits = weaker is_digit is_visible digit_visible (decimal n) (decimal_digits n fits)

-- ---- fields

pub named_ok : (name value : List ℕ) → is_token name ≡ true → is_trimmed_value value ≡ true → is_header (name, value) ≡ true
named_ok name value token fit = and_from (is_token name) (is_trimmed_value value) token fit

abbrev pub AreGood : List Header → Type 0
AreGood fields = list_all is_header fields ≡ true

pub good-append : (front back : List Header) → AreGood front → AreGood back → AreGood (front ++ back)
good-append front back one two = list_all-append is_header front back ∙ and_from _ _ one two

digit_token : (b : ℕ) → is_digit b ≡ true → is_token_byte b ≡ true
unfolding is_token_byte
digit_token b h = or_left (is_ascii_alphanumeric b) _ (grind (arith, nat_tests))

meta_token : (index : ℕ) → index < 2 ^ 64 → is_token (codes "X-Object-Meta-S3-" ++ decimal index) ≡ true
unfolding is_token_byte
meta_token index fits =
    let filled : nat_lt 0 (length (codes "X-Object-Meta-S3-" ++ decimal index)) ≡ true = grind (arith, nat_tests) in
    and_from _ _ filled
    (list_all-append is_token_byte (codes "X-Object-Meta-S3-") (decimal index)
    ∙ and_from _ _ refl (weaker is_digit is_token_byte digit_token (decimal index) (decimal_digits index fits)))

pub meta_good : (index : ℕ) (pieces : List (List ℕ)) → index + length pieces < 2 ^ 63 → list_all is_trimmed_value pieces ≡ true → AreGood (meta_fields index pieces)
meta_good index [] fits all = refl
meta_good index (piece ∷ pieces) fits all =
    let parts = and_parts (is_trimmed_value piece) (list_all is_trimmed_value pieces) all in
    and_from _ _ (named_ok (codes "X-Object-Meta-S3-" ++ decimal index) piece (meta_token index (omega (arith, fits))) parts.0)
    (meta_good (index + 1) pieces (omega (arith, fits)) parts.1)
