-- Object keys. Source: Amazon S3 User Guide, "Naming Amazon S3 objects": a sequence of Unicode characters of at most
-- 1024 bytes of UTF-8; that byte 0 is refused is this profile.
use Rattle.std.specs.Prelude.{ℕ, Bool, ◌&&◌, ◌==◌, nat_le, nat_lt, if◌then◌else◌, List, length, Result, Ok, Err}
use Rattle.s3_names.specs.declared.key.TheConstants.{MOST_KEY_BYTES}
use Rattle.s3_names.specs.declared.fault.NameFault.{NameFault}
use Rattle.s3_names.specs.declared.fault.NameFault.TheVariants.{EmptyKey, LongKey, NotUtf8}
use Rattle.s3_names.specs.Text.{is_text}

-- 1 to 1024 bytes of UTF-8 without byte 0
unfoldable pub is_key : List ℕ → Bool
is_key name = nat_le 1 (length name) && nat_le (length name) MOST_KEY_BYTES && is_text name

-- the key that bytes are, or the first refusal that fits
unfoldable pub key_of : List ℕ → Result (List ℕ) NameFault
key_of name =
    if length name == 0 then Err EmptyKey
    else (if nat_lt MOST_KEY_BYTES (length name) then Err LongKey
    else (if is_text name then Ok name else Err NotUtf8))
