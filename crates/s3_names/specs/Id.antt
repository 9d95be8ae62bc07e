-- The ids of uploads and their texts (this profile).
use Rattle.std.specs.Prelude.{ℕ, List, Option, Some, None, Result, Ok, Err}
use Rattle.std.specs.Int.{w128, to_be_bytes, from_be_bytes}
use Rattle.hex.specs.Hex.{encode_lower, decode_sized}
use Rattle.hex.specs.declared.error.FromHexError.{FromHexError}

-- an id in 32 hexadecimal digits, in lower case
unfoldable pub id_digits : ℕ → List ℕ
id_digits id = encode_lower (to_be_bytes w128 id)

abbrev pub id_from : Result (List ℕ) FromHexError → Option ℕ
id_from (Ok bytes) = Some (from_be_bytes w128 bytes)
id_from (Err e) = None

-- the id that 32 hexadecimal digits write, in either case; none for every other text
unfoldable pub id_of : List ℕ → Option ℕ
id_of text = id_from (decode_sized text 16)
