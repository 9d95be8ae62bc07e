-- What stands in the places of a JSON value, be it a record or not: nothing, where a place is missing or has something of
-- another kind. Source: this profile.
use Rattle.std.specs.Prelude.{ℕ, ◌&&◌, Bool, nat_le, List, [], ◌∷◌, map, Option, None, Some, codes, unwrap_or, option_and_then}
use Rattle.serde_json.specs.Data.{Data, null, array, number, unsigned, string, Items, no_items, item}
use Rattle.serde_json.specs.Find.{get, at, as_array, as_number, as_str, as_u64}
use Rattle.serde_json.specs.View.{items_of}
use Rattle.gate_base.specs.declared.page.Pair.{Pair}
use Rattle.s3_machine.specs.declared.operation.Listed.{Listed}
use Rattle.s3_machine.specs.Uploads.{greatest_part, most_parts}
use Rattle.slo_manifest.specs.Manifest.{json_of}

-- the text of a place, or none
abbrev pub text_in : Option Data → List ℕ
text_in d = unwrap_or (option_and_then as_str d) []

-- its whole number, or 0
abbrev pub number_in : Option Data → ℕ
number_in d = unwrap_or (option_and_then as_u64 (option_and_then as_number d)) 0

abbrev pub list_of : Items → List Data
list_of no_items = []
list_of (item d ds) = d ∷ list_of ds

-- what its list has, or nothing
abbrev pub items_in : Data → List Data
items_in d = list_of (unwrap_or (as_array d) no_items)

abbrev pub list_in : Option Data → List Data
list_in None = []
list_in (Some d) = items_in d

-- a list of the value of each
abbrev pub array_of : {A : Type 0} → (A → Data) → List A → Data
array_of f xs = array (items_of (map f xs))

-- the JSON of a text, or null
abbrev pub json_or_null : List ℕ → Data
json_or_null text = unwrap_or (json_of text) null

-- the whole number under `v`, where the text is an object that has one
abbrev pub version_in : Data → Option ℕ
version_in d = option_and_then as_u64 (option_and_then as_number (get (codes "v") d))

abbrev pub version_of : List ℕ → Option ℕ
version_of text = version_in (json_or_null text)

-- ---- entries of metadata, and parts

-- `[NAME,VALUE]`
abbrev pub metadata_pair_json : Pair → Data
metadata_pair_json pair = array (item (string pair.name) (item (string pair.value) no_items))

abbrev pub pair_in : Data → Pair
pair_in d = record { name = text_in (at 0 d); value = text_in (at 1 d) }

-- `[NUMBER,ETAG]`
abbrev pub record_part_json : Listed → Data
record_part_json l = array (item (number (unsigned l.number)) (item (string l.etag) no_items))

abbrev pub listed_in : Data → Listed
listed_in d = record { number = number_in (at 0 d); etag = text_in (at 1 d) }

-- the number of a part
abbrev pub part_number_fits_record_text : ℕ → Bool
part_number_fits_record_text n = nat_le 1 n && nat_le n greatest_part

-- as many parts as a completion may list
abbrev pub is_part_count : ℕ → Bool
is_part_count count = nat_le 1 count && nat_le count most_parts
