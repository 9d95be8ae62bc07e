-- Bucket names. Source: Amazon S3 User Guide, "General purpose bucket naming rules", and RFC 791 for the look of
-- an address. Each test reads the whole name.
use Rattle.std.specs.Prelude.{ℕ, Bool, false, not, ◌&&◌, ◌||◌, ◌==◌, nat_le, ◌-◌, if◌then◌else◌, List, [], ◌∷◌, length, slice_get, Result, Ok, Err}
use Rattle.std.specs.List.{list_all, slice_split}
use Rattle.std.specs.Option.{option_map_or}
use Rattle.gate_base.specs.Ascii.{is_digit}
use Rattle.text_forms.specs.Numbers.{is_number}
use Rattle.s3_names.specs.declared.fault.NameFault.{NameFault}
use Rattle.s3_names.specs.declared.fault.NameFault.TheVariants.{BadBucket}

-- `a` to `z`, `0` to `9`
abbrev pub is_lower_or_digit : ℕ → Bool
is_lower_or_digit byte = (nat_le 97 byte && nat_le byte 122) || is_digit byte

-- these, `.` and `-`
abbrev pub is_bucket_byte : ℕ → Bool
is_bucket_byte byte = is_lower_or_digit byte || byte == 46 || byte == 45

abbrev pub begins_and_ends : List ℕ → Bool
begins_and_ends name = option_map_or is_lower_or_digit (slice_get name 0) false && option_map_or is_lower_or_digit (slice_get name (length name - 1)) false

-- `..` stands somewhere in the text
unfoldable pub has_two_dots : List ℕ → Bool
has_two_dots [] = false
has_two_dots (a ∷ []) = false
has_two_dots (a ∷ b ∷ bytes) = (a == 46 && b == 46) || has_two_dots (b ∷ bytes)

-- one to three digits
abbrev pub is_short_number : List ℕ → Bool
is_short_number text = is_number 3 text

abbrev pub is_dot : ℕ → Bool
is_dot byte = byte == 46

-- four such numbers with dots between
abbrev pub is_address : List ℕ → Bool
is_address name = length (slice_split is_dot name) == 4 && list_all is_short_number (slice_split is_dot name)

-- three to 63 such bytes that begin and end with a letter or digit, without `..`, and no address
unfoldable pub is_bucket : List ℕ → Bool
is_bucket name = nat_le 3 (length name) && nat_le (length name) 63 && list_all is_bucket_byte name && begins_and_ends name && not (has_two_dots name)
    && not (is_address name)

-- the bucket name that bytes are
abbrev pub bucket_of : List ℕ → Result (List ℕ) NameFault
bucket_of name = if is_bucket name then Ok name else Err BadBucket
