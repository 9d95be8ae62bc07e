-- Percent escapes. Sources: RFC 3986, section 2.1 (an escape) and section 2.3 (unreserved bytes), and Amazon S3 API
-- Reference, "Authenticating requests: using the Authorization header", `UriEncode`.
use Rattle.std.specs.Prelude.{
  ◌≡◌,
  ℕ,
  ◌+◌,
  ◌*◌,
  ◌/◌,
  ◌%◌,
  Bool,
  true,
  false,
  not,
  ◌&&◌,
  ◌||◌,
  ◌==◌,
  nat_le,
  nat_lt,
  if◌then◌else◌,
  List,
  [],
  ◌∷◌,
  Result,
  Ok,
  Err,
}
use Rattle.std.specs.Char.{digit_value}
use Rattle.std.specs.List.{flat_map}
use Rattle.percent_encoding.specs.Percent.{percent_decode}
use Rattle.gate_base.specs.Ascii.{is_digit}
use Rattle.s3_names.specs.declared.fault.NameFault.{NameFault}
use Rattle.s3_names.specs.declared.fault.NameFault.TheVariants.{BadEscape}

-- `0` to `9`, `A` to `F`, `a` to `f`
abbrev pub is_hex_digit : ℕ → Bool
is_hex_digit byte = is_digit byte || (nat_le 65 byte && nat_le byte 70) || (nat_le 97 byte && nat_le byte 102)

-- `A` to `Z`, `a` to `z`, `0` to `9`, `-`, `.`, `_`, `~`
abbrev pub is_unreserved : ℕ → Bool
is_unreserved byte = (nat_le 65 byte && nat_le byte 90) || (nat_le 97 byte && nat_le byte 122) || is_digit byte || byte == 45 || byte == 46 || byte == 95
    || byte == 126

-- these and `/`
abbrev pub stays_in_path : ℕ → Bool
stays_in_path byte = is_unreserved byte || byte == 47

-- the upper-case hexadecimal digit of a number below 16
abbrev pub upper_digit : ℕ → ℕ
upper_digit number = if nat_lt number 10 then 48 + number else 55 + number

-- a byte as it is, or as `%` and its two digits
abbrev pub escaped_unless : (ℕ → Bool) → ℕ → List ℕ
escaped_unless stays byte = if stays byte then byte ∷ [] else 37 ∷ upper_digit (byte / 16) ∷ upper_digit (byte % 16) ∷ []

-- every byte is escaped but the unreserved
unfoldable pub escaped_all : List ℕ → List ℕ
escaped_all bytes = flat_map (escaped_unless is_unreserved) bytes

-- every byte is escaped but the unreserved and `/`
unfoldable pub escaped_path : List ℕ → List ℕ
escaped_path bytes = flat_map (escaped_unless stays_in_path) bytes

-- a byte of an escaped text: one that stays, or a part of an escape
abbrev pub is_escaped_byte : (ℕ → Bool) → ℕ → Bool
is_escaped_byte stays byte = stays byte || byte == 37

-- a text stands for bytes: `%` and two hexadecimal digits for one byte, each other byte, `+` too, for itself
pub data StandsFor : List ℕ → List ℕ → Type 0 where
  nothing : StandsFor [] []
  itself : (byte : ℕ) (text bytes : List ℕ) → (byte == 37) ≡ false → StandsFor text bytes → StandsFor (byte ∷ text) (byte ∷ bytes)
  escape : (high low : ℕ) (text bytes : List ℕ) → is_hex_digit high ≡ true → is_hex_digit low ≡ true → StandsFor text bytes
      → StandsFor (37 ∷ high ∷ low ∷ text) ((16 * digit_value high + digit_value low) ∷ bytes)

abbrev pub begins_with_two_digits : List ℕ → Bool
begins_with_two_digits [] = false
begins_with_two_digits (high ∷ []) = false
begins_with_two_digits (high ∷ low ∷ text) = is_hex_digit high && is_hex_digit low

-- somewhere stands a `%` without two hexadecimal digits behind it
unfoldable pub has_bad_escape : List ℕ → Bool
has_bad_escape [] = false
has_bad_escape (byte ∷ text) = (byte == 37 && not (begins_with_two_digits text)) || has_bad_escape text

-- what a text is read as
abbrev pub decoded : List ℕ → Result (List ℕ) NameFault
decoded text = if has_bad_escape text then Err BadEscape else Ok (percent_decode text)
