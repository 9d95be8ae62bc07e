-- Header fields, by how often they are given.
use Rattle.std.proofs.Common.{◌≡◌, ℕ, Bool, true, false, ◌||◌, cond, eqb, List, [], ◌∷◌, length, map, Some, None, refl, ap, sym, ◌∙◌}
use Rattle.std.specs.Prelude.{filter}
use Rattle.std.proofs.lemmas.Bool.{eqb-true, eqb-false, false≢true}
use Rattle.gate_base.specs.declared.page.Pair.{Pair}
use Rattle.http_wire.specs.Headers.{value_of, has_name, has_single_header, has_header, first_value, values_of}
use Rattle.http_wire.proofs.lemmas.HeadersLemmas.{one_value, count_values}
use Rattle.http_answers.specs.Fields.{at_most_one, field}

pub one_field : (name : List ℕ) (headers : List Pair) → has_single_header name headers ≡ true → field name headers ≡ Some (Some (first_value name headers))
one_field name headers one = ap at_most_one (one_value name headers (eqb-true _ _ one))

abbrev is_given : List (List ℕ) → Bool
is_given [] = false
is_given (value ∷ values) = true

-- some header has the name where there is a value
given_by : (b : Bool) (header : Pair) (passed : List Pair) (found : Bool) → found ≡ is_given (map value_of passed)
    → (b || found) ≡ is_given (map value_of (cond b (header ∷ passed) passed))
given_by true header passed found same = refl
given_by false header passed found same = same

given : (name : List ℕ) (headers : List Pair) → has_header name headers ≡ is_given (values_of name headers)
given name [] = refl
given name (header ∷ headers) =
    given_by (has_name name header) header (filter (has_name name) headers) (has_header name headers) (given name headers)

many : (values : List (List ℕ)) (count : ℕ) → length values ≡ count → eqb count 1 ≡ false → is_given values ≡ true → at_most_one values ≡ None
many [] count same other some = absurd (false≢true some)
many (value ∷ []) count same other some = absurd (eqb-false count 1 other (sym same))
many (value ∷ second ∷ values) count same other some = refl

pub many_fields : (name : List ℕ) (headers : List Pair) → has_single_header name headers ≡ false → has_header name headers ≡ true → field name headers ≡ None
many_fields name headers other some =
    many (values_of name headers) _ (count_values name headers) other (sym (given name headers) ∙ some)

none_of : (values : List (List ℕ)) → is_given values ≡ false → at_most_one values ≡ Some None
none_of [] missing = refl
none_of (value ∷ values) missing = absurd (false≢true (sym missing))

pub no_field : (name : List ℕ) (headers : List Pair) → has_header name headers ≡ false → field name headers ≡ Some None
no_field name headers missing = none_of (values_of name headers) (sym (given name headers) ∙ missing)
