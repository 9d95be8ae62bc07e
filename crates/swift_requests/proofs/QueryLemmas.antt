-- The query of a listing that is written has the values that it was written of.
use Rattle.std.proofs.Common.{◌≡◌, ℕ, ◌^◌, ◌<◌, true, not, cond, List, [], ◌∷◌, ◌++◌, All, Some, None, Option, refl, ap, ap₂, sym, ◌∙◌, arith}
use Rattle.std.specs.Prelude.{codes, decimal, bytes_eq, option_map, option_and_then}
use Rattle.std.specs.List.{list_all}
use Rattle.std.proofs.lemmas.Bool.{and_parts, cond-true, cond-false}
use Rattle.std.proofs.lemmas.Bool.Decides.{nat_tests}
use Rattle.std.proofs.lemmas.List.Elements.{All-nil, All-cons}
use Rattle.gate_base.specs.Ascii.{is_digit}
use Rattle.s3_names.specs.Escapes.{is_unreserved, escaped_all}
use Rattle.s3_names.specs.Query.{is_ampersand, is_equals}
use Rattle.swift_requests.specs.Paths.{unescaped, has_more_call_query, named_call_query_value, first_value, last_call_query_value, values_named}
use Rattle.swift_replies.proofs.lemmas.CutLemmas.{IsByte, Lacks, weaker, Lacks-append, before_at, after_at, any_none, any_at}
use Rattle.swift_requests.proofs.PathLemmas.{unescaped_all, no_ampersand}
use Rattle.text_forms.proofs.lemmas.Decimals.{decimal_digits}
use Rattle.http_answers.proofs.lemmas.NumberLemmas.{same_bytes}

-- ---- texts that are escaped to themselves

unreserved_same : (text : List ℕ) → list_all is_unreserved text ≡ true → escaped_all text ≡ text
unfolding escaped_all
unreserved_same [] all = refl
unreserved_same (b ∷ text) all =
    let parts = and_parts (is_unreserved b) (list_all is_unreserved text) all in
    ap₂ (λ front rest. front ++ rest) (cond-true (is_unreserved b) (b ∷ []) _ parts.0) (unreserved_same text parts.1)

unreserved_byte : (b : ℕ) → is_unreserved b ≡ true → b < 256
unreserved_byte b h = grind (arith, nat_tests)

unreserved_bytes : (text : List ℕ) → list_all is_unreserved text ≡ true → All IsByte text
unreserved_bytes [] all = All-nil IsByte
unreserved_bytes (b ∷ text) all =
    let parts = and_parts (is_unreserved b) (list_all is_unreserved text) all in
    All-cons IsByte b text (unreserved_byte b parts.0) (unreserved_bytes text parts.1)

pub itself : (text : List ℕ) → list_all is_unreserved text ≡ true → unescaped text ≡ Some text
itself text all = ap unescaped (sym (unreserved_same text all)) ∙ unescaped_all text (unreserved_bytes text all)

digit_stays : (b : ℕ) → is_digit b ≡ true → is_unreserved b ≡ true
digit_stays b h = grind (arith, nat_tests)

stays_no_ampersand : (b : ℕ) → is_unreserved b ≡ true → not (is_ampersand b) ≡ true
stays_no_ampersand b h = grind (arith, nat_tests)

pub decimal_stays : (n : ℕ) → n < 2 ^ 64 → list_all is_unreserved (decimal n) ≡ true
decimal_stays n fits = weaker is_digit is_unreserved digit_stays (decimal n) (decimal_digits n fits)

-- ---- the pieces of a query

named_is : (name value v : List ℕ) → Lacks is_equals name → unescaped value ≡ Some v → named_call_query_value name (name ++ 61 ∷ value) ≡ Some v
named_is name value v lacks read =
    ap₂ (λ n t. cond (bytes_eq n name) (unescaped t) None) (before_at is_equals name value 61 refl lacks) (after_at is_equals name value 61 refl lacks)
    ∙ cond-true (bytes_eq name name) (unescaped value) None (same_bytes name) ∙ read

pub first_is : (name value rest v : List ℕ) → Lacks is_equals name → Lacks is_ampersand name → Lacks is_ampersand value → unescaped value ≡ Some v
    → first_value name ((name ++ 61 ∷ value) ++ 38 ∷ rest) ≡ Some (v, rest)
first_is name value rest v lacks free clear read =
    let piece : Lacks is_ampersand (name ++ 61 ∷ value) = Lacks-append is_ampersand name (61 ∷ value) free clear in
    cond-true (has_more_call_query ((name ++ 61 ∷ value) ++ 38 ∷ rest)) _ None (any_at is_ampersand (name ++ 61 ∷ value) rest 38 refl)
    ∙ ap₂ (λ front more. option_map (λ x. (x, more)) (named_call_query_value name front)) (before_at is_ampersand (name ++ 61 ∷ value) rest 38 refl piece)
    (after_at is_ampersand (name ++ 61 ∷ value) rest 38 refl piece)
    ∙ ap (λ found. option_map (λ x. (x, rest)) found) (named_is name value v lacks read)

pub last_is : (name value v : List ℕ) → Lacks is_equals name → Lacks is_ampersand name → Lacks is_ampersand value → unescaped value ≡ Some v
    → last_call_query_value name (name ++ 61 ∷ value) ≡ Some v
last_is name value v lacks free clear read =
    let piece : Lacks is_ampersand (name ++ 61 ∷ value) = Lacks-append is_ampersand name (61 ∷ value) free clear in
    cond-false (has_more_call_query (name ++ 61 ∷ value)) None _ (any_none is_ampersand (name ++ 61 ∷ value) piece) ∙ named_is name value v lacks read

abbrev after : (names : List (List ℕ)) → Option (List ℕ × List ℕ) → Option (List (List ℕ))
after names first = option_and_then (λ f. option_map (λ values. f.0 ∷ values) (values_named names f.1)) first

abbrev pub account_query : ℕ → List ℕ → List ℕ
account_query limit marker =
    (codes "format" ++ 61 ∷ codes "json") ++ 38 ∷ ((codes "limit" ++ 61 ∷ decimal limit) ++ 38 ∷ (codes "marker" ++ 61 ∷ escaped_all marker))

abbrev pub container_query : ℕ → List ℕ → List ℕ → List ℕ
container_query limit marker prefix =
    (codes "format" ++ 61 ∷ codes "json") ++ 38 ∷ ((codes "limit" ++ 61 ∷ decimal limit)
    ++ 38 ∷ ((codes "marker" ++ 61 ∷ escaped_all marker) ++ 38 ∷ (codes "prefix" ++ 61 ∷ escaped_all prefix)))

limit_lacks : (n : ℕ) → n < 2 ^ 64 → Lacks is_ampersand (decimal n)
limit_lacks n fits = weaker is_unreserved (λ b. not (is_ampersand b)) stays_no_ampersand (decimal n) (decimal_stays n fits)

pub account_values : (limit : ℕ) (marker : List ℕ) → limit < 2 ^ 64 → All IsByte marker
    → values_named (codes "format" ∷ codes "limit" ∷ codes "marker" ∷ []) (account_query limit marker) ≡ Some (codes "json" ∷ decimal limit ∷ marker ∷ [])
account_values limit marker fits small =
    ap (after (codes "limit" ∷ codes "marker" ∷ [])) (first_is (codes "format") (codes "json") _ (codes "json") refl refl refl (itself (codes "json") refl))
    ∙ ap (λ rest. option_map (λ values. codes "json" ∷ values) rest)
    (ap (after (codes "marker" ∷ [])) (first_is (codes "limit") (decimal limit) _ (decimal limit) refl refl (limit_lacks limit fits) (itself (decimal limit) (decimal_stays limit fits)))
    ∙ ap (λ rest. option_map (λ values. decimal limit ∷ values) (option_map (λ value. value ∷ []) rest))
    (last_is (codes "marker") (escaped_all marker) marker refl refl (no_ampersand marker small) (unescaped_all marker small)))

pub container_values : (limit : ℕ) (marker prefix : List ℕ) → limit < 2 ^ 64 → All IsByte marker → All IsByte prefix
    → values_named (codes "format" ∷ codes "limit" ∷ codes "marker" ∷ codes "prefix" ∷ []) (container_query limit marker prefix)
    ≡ Some (codes "json" ∷ decimal limit ∷ marker ∷ prefix ∷ [])
container_values limit marker prefix fits small little =
    ap (after (codes "limit" ∷ codes "marker" ∷ codes "prefix" ∷ [])) (first_is (codes "format") (codes "json") _ (codes "json") refl refl refl (itself (codes "json") refl))
    ∙ ap (λ rest. option_map (λ values. codes "json" ∷ values) rest)
    (ap (after (codes "marker" ∷ codes "prefix" ∷ [])) (first_is (codes "limit") (decimal limit) _ (decimal limit) refl refl (limit_lacks limit fits) (itself (decimal limit) (decimal_stays limit fits)))
    ∙ ap (λ rest. option_map (λ values. decimal limit ∷ values) rest)
    (ap (after (codes "prefix" ∷ [])) (first_is (codes "marker") (escaped_all marker) _ marker refl refl (no_ampersand marker small) (unescaped_all marker small))
    ∙ ap (λ rest. option_map (λ values. marker ∷ values) (option_map (λ value. value ∷ []) rest))
    (last_is (codes "prefix") (escaped_all prefix) prefix refl refl (no_ampersand prefix little) (unescaped_all prefix little))))
