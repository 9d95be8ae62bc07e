-- The values of headers, each as it is read. A header that is repeated says nothing. Source: RFC 9110, section 5.
use Rattle.std.specs.Prelude.{
  ℕ,
  ◌&&◌,
  if◌then◌else◌,
  List,
  [],
  ◌∷◌,
  codes,
  decimal,
  bytes_eq,
  Option,
  Some,
  None,
}
use Rattle.std.specs.Str.Parse.{digits_value}
use Rattle.gate_base.specs.declared.page.Pair.{Pair}
use Rattle.text_forms.specs.Numbers.{is_number, number_of}
use Rattle.http_wire.specs.Headers.{values_of}

-- none of the values or the one that there is; nothing where there are more
abbrev pub at_most_one : List (List ℕ) → Option (Option (List ℕ))
at_most_one [] = Some None
at_most_one (value ∷ []) = Some (Some value)
at_most_one (value ∷ other ∷ values) = None

-- the value of a header that may be absent
abbrev pub field : List ℕ → List Pair → Option (Option (List ℕ))
field name headers = at_most_one (values_of name headers)

abbrev pub needed : Option (Option (List ℕ)) → Option (List ℕ)
needed None = None
needed (Some value) = value

-- the value of a header that has to be there
abbrev pub only : List ℕ → List Pair → Option (List ℕ)
only name headers = needed (field name headers)

-- a number of 1 to 19 digits without leading zeros
abbrev pub plain_number : List ℕ → Option ℕ
plain_number text = if is_number 19 text && bytes_eq text (decimal (digits_value 10 text)) then Some (digits_value 10 text) else None

-- ---- sizes

abbrev pub size_from : Option (Option (List ℕ)) → Option ℕ
size_from None = None
size_from (Some None) = None
size_from (Some (Some value)) = number_of 19 value

-- the one Content-Length, of 1 to 19 digits (RFC 9110, section 8.6)
abbrev pub answer_content_length : List Pair → Option ℕ
answer_content_length headers = size_from (field (codes "content-length") headers)
