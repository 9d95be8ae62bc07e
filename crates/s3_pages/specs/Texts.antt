-- Texts of ids and ETags. Source: this profile, and RFC 9110 for ETags.
use Rattle.std.specs.Prelude.{ℕ, List, ◌++◌, codes}
use Rattle.std.specs.Int.{w128, to_be_bytes}
use Rattle.hex.specs.Hex.{encode_lower}

-- an id in 32 hexadecimal digits, in lower case (this profile)
unfoldable pub id_text : ℕ → List ℕ
id_text id = encode_lower (to_be_bytes w128 id)

-- an ETag in its double quotes (RFC 9110, section 8.8.3)
abbrev pub quoted : List ℕ → List ℕ
quoted etag = codes "\"" ++ etag ++ codes "\""
