-- The headers of a message, by the spans of a head; and the length that they give.
use Rattle.std.proofs.Common.{◌≡◌, ℕ, ◌<◌, Bool, true, false, List, [], ◌∷◌, length, take, map, refl, sym, ap, ◌∙◌, Ok, Err, arith}
use Rattle.std.specs.Prelude.{Result, count_by, if◌then◌else◌}
use Rattle.std.specs.Char.{to_ascii_lowercase}
use Rattle.std.proofs.lemmas.Bool.{cond-false, cond-true}
use Rattle.gate_base.specs.declared.page.Pair.{Pair}
use Rattle.httparse.specs.declared.spans.HeaderSpan.{HeaderSpan}
use Rattle.httparse.specs.Grammar.{Field}
use Rattle.httparse.specs.Spans.{AreFieldsAt, header_bytes, name_and_value}
use Rattle.http_wire.specs.declared.message.Kind.{Kind}
use Rattle.http_wire.specs.declared.message.Kind.TheVariants.{BadLength, NoLength}
use Rattle.http_wire.specs.FirstMessage.{header_of, value_judged, length_judged}
use Rattle.http_wire.specs.Headers.{has_name, first_value, values_of, header_at}
use Rattle.http_wire.proofs.lemmas.HeadersLemmas.{count_values, one_value, none_given}

-- the header of a name and a value
abbrev pair_of : List ℕ × List ℕ → Pair
pair_of p = record { name = map to_ascii_lowercase p.0; value = p.1 }

map_twice : {A B C : Type 0} (f : A → B) (g : B → C) (xs : List A) → map g (map f xs) ≡ map (λ x. g (f x)) xs
map_twice f g [] = refl
map_twice f g (x ∷ xs) = ap (λ v. g (f x) ∷ v) (map_twice f g xs)

-- the spans of a head's fields give the headers of the head
pub headers_of : (bytes : List ℕ) (headers : List HeaderSpan) (count : ℕ) (fields : List Field)
    → AreFieldsAt bytes headers count fields → map (header_at bytes) (take count headers) ≡ map header_of fields
headers_of bytes headers count fields are =
    sym (map_twice (header_bytes bytes) pair_of (take count headers)) ∙ ap (map pair_of) are
    ∙ map_twice name_and_value pair_of fields

-- ---- the length that is judged

judged_by : (limit : ℕ) (put : Bool) (values : List (List ℕ)) → 1 < length values → length_judged limit put values ≡ Err BadLength
judged_by limit put [] many = absurd (omega (arith, many))
judged_by limit put (value ∷ []) many = absurd (omega (arith, many))
judged_by limit put (value ∷ other ∷ values) many = refl

-- more than one length
pub judged_many : (limit : ℕ) (put : Bool) (name : List ℕ) (headers : List Pair) → 1 < count_by (has_name name) headers
    → Err BadLength ≡ length_judged limit put (values_of name headers)
judged_many limit put name headers many =
    sym (judged_by limit put (values_of name headers) (omega (arith, many, count_values name headers)))

-- one
pub judged_one : (limit : ℕ) (put : Bool) (name : List ℕ) (headers : List Pair) → count_by (has_name name) headers ≡ 1
    → value_judged limit (first_value name headers) ≡ length_judged limit put (values_of name headers)
judged_one limit put name headers one = sym (ap (length_judged limit put) (one_value name headers one))

abbrev pub refused_length : Result ℕ Kind
refused_length = Err NoLength

abbrev pub no_length : Result ℕ Kind
no_length = Ok 0

judged_none : (limit : ℕ) (put : Bool) (name : List ℕ) (headers : List Pair) → count_by (has_name name) headers ≡ 0
    → length_judged limit put (values_of name headers) ≡ (if put then refused_length else no_length)
judged_none limit put name headers none = ap (length_judged limit put) (none_given name headers none)

-- none, where one is due
pub judged_wanting : (limit : ℕ) (put : Bool) (name : List ℕ) (headers : List Pair) → count_by (has_name name) headers ≡ 0 → put ≡ true
    → Err NoLength ≡ length_judged limit put (values_of name headers)
judged_wanting limit put name headers none is = sym (judged_none limit put name headers none ∙ cond-true put refused_length no_length is)

-- none, where there may be none
pub judged_empty : (limit : ℕ) (put : Bool) (name : List ℕ) (headers : List Pair) → count_by (has_name name) headers ≡ 0 → put ≡ false
    → Ok 0 ≡ length_judged limit put (values_of name headers)
judged_empty limit put name headers none is = sym (judged_none limit put name headers none ∙ cond-false put refused_length no_length is)
