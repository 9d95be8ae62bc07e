-- The headers of a name, by their number.
use Rattle.std.proofs.Common.{◌≡◌, ℕ, suc, Bool, true, false, cond, List, [], ◌∷◌, length, map, find, refl, ap, ◌∙◌, Option, Some, arith}
use Rattle.std.specs.Prelude.{filter, count_by}
use Rattle.std.specs.Option.{option_map_or}
use Rattle.std.proofs.lemmas.List.Sums.{length-filter}
use Rattle.gate_base.specs.declared.page.Pair.{Pair}
use Rattle.http_wire.specs.Headers.{value_of, has_name, first_value, values_of}

length_values : (headers : List Pair) → length (map value_of headers) ≡ length headers
length_values [] = refl
length_values (header ∷ headers) = ap suc (length_values headers)

pub count_values : (name : List ℕ) (headers : List Pair) → length (values_of name headers) ≡ count_by (has_name name) headers
count_values name headers = length_values (filter (has_name name) headers) ∙ length-filter (has_name name) headers

no_values : (values : List (List ℕ)) → length values ≡ 0 → values ≡ []
no_values [] none = refl
no_values (value ∷ values) none = absurd (omega (arith, none))

pub none_given : (name : List ℕ) (headers : List Pair) → count_by (has_name name) headers ≡ 0 → values_of name headers ≡ []
none_given name headers none = no_values (values_of name headers) (count_values name headers ∙ none)

one_by : (b : Bool) (header : Pair) (passed : List Pair) (found : Option Pair) → length (cond b (header ∷ passed) passed) ≡ 1
    → (length passed ≡ 1 → map value_of passed ≡ option_map_or value_of found [] ∷ [])
    → map value_of (cond b (header ∷ passed) passed) ≡ option_map_or value_of (cond b (Some header) found) [] ∷ []
one_by true header [] found one more = refl
one_by true header (other ∷ passed) found one more = absurd (omega (arith, one))
one_by false header passed found one more = more one

one_passes : (name : List ℕ) (headers : List Pair) → length (filter (has_name name) headers) ≡ 1 → values_of name headers ≡ first_value name headers ∷ []
one_passes name [] one = absurd (omega (arith, one))
one_passes name (header ∷ headers) one =
    one_by (has_name name header) header (filter (has_name name) headers) (find (has_name name) headers) one (one_passes name headers)

-- where one header has the name, its value is the first
pub one_value : (name : List ℕ) (headers : List Pair) → count_by (has_name name) headers ≡ 1 → values_of name headers ≡ first_value name headers ∷ []
one_value name headers one = one_passes name headers (length-filter (has_name name) headers ∙ one)
