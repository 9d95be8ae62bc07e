-- Numbers in decimal, and ids, as marks have them (this profile).
use Rattle.std.specs.Prelude.{ℕ, ◌^◌, Bool, true, ◌&&◌, nat_le, nat_lt, if◌then◌else◌, List, length, codes, Option, Some, None}
use Rattle.std.specs.List.{list_all}
use Rattle.std.specs.Str.Parse.{digits_value}
use Rattle.gate_base.specs.Ascii.{is_digit}
use Rattle.s3_names.specs.Id.{id_digits}

-- the number that at most 19 digits write; 0 for every other text
unfoldable pub number_of : List ℕ → ℕ
number_of text = if nat_le (length text) 19 && list_all is_digit text then digits_value 10 text else 0

-- the id of an upload, or `-` for none
abbrev pub id_text : Option ℕ → List ℕ
id_text None = codes "-"
id_text (Some id) = id_digits id

abbrev pub id_fits_tag : Option ℕ → Bool
id_fits_tag None = true
id_fits_tag (Some id) = nat_lt id (2 ^ 128)
