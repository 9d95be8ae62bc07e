-- The Authorization header of Signature Version 4. Source: Amazon S3 API Reference, "Authenticating requests: using the
-- Authorization header"; that spaces may stand behind the commas, and which bytes the parts may have, is this profile.
use Rattle.std.specs.Prelude.{
  ◌≡◌,
  ℕ,
  Bool,
  true,
  not,
  ◌&&◌,
  ◌==◌,
  nat_eq,
  nat_lt,
  if◌then◌else◌,
  List,
  [],
  ◌∷◌,
  ◌++◌,
  length,
  drop,
  codes,
  replicate,
  bytes_eq,
  Option,
  Some,
  None,
}
use Rattle.std.specs.List.{list_all, starts_with, slice_split, before_first, after_first, join_with_byte}
use Rattle.std.specs.Cmp.Lexicographic.{slice_cmp}
use Rattle.std.specs.Ordering.{nat_cmp, is_lt}
use Rattle.std.specs.Char.{is_ascii_uppercase}
use Rattle.httparse.specs.Grammar.{is_token_byte}
use Rattle.gate_base.specs.Ascii.{is_slash}
use Rattle.gate_base.specs.Ascii.{is_lower_hex}
use Rattle.gate_base.specs.Ascii.{is_visible}
use Rattle.sigv4.specs.Keys.{is_space}
use Rattle.sigv4.specs.declared.authorization.Authorization.{Authorization}

abbrev pub is_comma : ℕ → Bool
is_comma byte = byte == 44

-- `;`
abbrev pub is_semicolon : ℕ → Bool
is_semicolon byte = byte == 59

-- visible ASCII but `/` and `,`
abbrev pub is_credential_byte : ℕ → Bool
is_credential_byte byte = is_visible byte && not (is_slash byte) && not (is_comma byte)

-- an id, a date, a region or a service: one or more such bytes
abbrev pub is_part : List ℕ → Bool
is_part part = nat_lt 0 (length part) && list_all is_credential_byte part

-- a byte of a token that isn't an upper-case letter (RFC 9110, section 5.6.2)
abbrev pub is_name_byte : ℕ → Bool
is_name_byte byte = is_token_byte byte && not (is_ascii_uppercase byte)

-- the name of a header, in lower case
abbrev pub is_name : List ℕ → Bool
is_name name = nat_lt 0 (length name) && list_all is_name_byte name

-- the name stands before the first of the others, if there is one
abbrev pub signed_name_stands_before : List ℕ → List (List ℕ) → Bool
signed_name_stands_before name [] = true
signed_name_stands_before name (next ∷ names) = is_lt (slice_cmp nat_cmp name next)

-- each name stands before the next one
unfoldable pub are_ascending : List (List ℕ) → Bool
are_ascending [] = true
are_ascending (name ∷ names) = signed_name_stands_before name names && are_ascending names

-- one or more names, in order and without repetition
abbrev pub are_names : List (List ℕ) → Bool
are_names names = nat_lt 0 (length names) && list_all is_name names && are_ascending names

-- the 64 hexadecimal digits of 32 bytes, in lower case
abbrev pub is_hex : List ℕ → Bool
is_hex text = length text == 64 && list_all is_lower_hex text

-- each part has its form
abbrev pub is_formed : Authorization → Bool
is_formed parts =
    is_part parts.id && is_part parts.date && is_part parts.region && is_part parts.service && are_names parts.names
    && is_hex parts.signature

-- id "/" date "/" region "/" service "/aws4_request"
abbrev pub credential_text : Authorization → List ℕ
credential_text parts = join_with_byte 47 (parts.id ∷ parts.date ∷ parts.region ∷ parts.service ∷ codes "aws4_request" ∷ [])

-- a header's text of these parts, with so many spaces more than one behind the first word, and so many behind the commas
abbrev pub authorization_text : ℕ → ℕ → ℕ → Authorization → List ℕ
authorization_text first second third parts =
    (codes "AWS4-HMAC-SHA256 " ++ (replicate first 32 ++ (codes "Credential=" ++ credential_text parts)))
    ++ 44 ∷ ((replicate second 32 ++ (codes "SignedHeaders=" ++ join_with_byte 59 parts.names))
    ++ 44 ∷ (replicate third 32 ++ (codes "Signature=" ++ parts.signature)))

-- the text has the form, and these are its parts
abbrev pub IsAuthorization : List ℕ → Authorization → Type 0
IsAuthorization text parts =
    (first : ℕ) × (second : ℕ) × (third : ℕ) × (text ≡ authorization_text first second third parts) × (is_formed parts ≡ true)

-- the text from its first byte that isn't a space
unfoldable pub skip_spaces : List ℕ → List ℕ
skip_spaces [] = []
skip_spaces (byte ∷ text) = if is_space byte then skip_spaces text else byte ∷ text

-- the text up to the first comma
unfoldable pub algorithm_section : List ℕ → List ℕ
algorithm_section text = before_first is_comma text

-- what follows the first word and its spaces there
unfoldable pub credential_section : List ℕ → List ℕ
credential_section text = skip_spaces (drop 17 (algorithm_section text))

-- the text between the first comma and the second, without the spaces at its start
unfoldable pub names_section : List ℕ → List ℕ
names_section text = skip_spaces (before_first is_comma (after_first is_comma text))

-- the text behind the second comma, without the spaces at its start
unfoldable pub signature_section : List ℕ → List ℕ
signature_section text = skip_spaces (after_first is_comma (after_first is_comma text))

-- a credential from behind its first slash on
abbrev pub behind_id : List ℕ → List ℕ
behind_id credential = after_first is_slash credential

-- from behind its second slash on
abbrev pub behind_date : List ℕ → List ℕ
behind_date credential = after_first is_slash (behind_id credential)

-- from behind its third slash on
abbrev pub behind_region : List ℕ → List ℕ
behind_region credential = after_first is_slash (behind_date credential)

-- from behind its fourth slash on
abbrev pub behind_service : List ℕ → List ℕ
behind_service credential = after_first is_slash (behind_region credential)

abbrev pub credential_of : List ℕ → List ℕ
credential_of text = drop 11 (credential_section text)

-- each word of the form stands in its place
abbrev pub is_labelled : List ℕ → Bool
is_labelled text =
    starts_with nat_eq (algorithm_section text) (codes "AWS4-HMAC-SHA256 ")
    && starts_with nat_eq (credential_section text) (codes "Credential=")
    && starts_with nat_eq (names_section text) (codes "SignedHeaders=")
    && starts_with nat_eq (signature_section text) (codes "Signature=")
    && bytes_eq (behind_service (credential_of text)) (codes "aws4_request")

-- what stands between the words
unfoldable pub parts_of : List ℕ → Authorization
parts_of text = record {
  id = before_first is_slash (credential_of text);
  date = before_first is_slash (behind_id (credential_of text));
  region = before_first is_slash (behind_date (credential_of text));
  service = before_first is_slash (behind_region (credential_of text));
  names = slice_split is_semicolon (drop 14 (names_section text));
  signature = drop 10 (signature_section text);
}

-- the parts of a text that has the form: those of `IsAuthorization`, by a law of this crate
unfoldable pub authorization_of : List ℕ → Option Authorization
authorization_of text = if is_labelled text && is_formed (parts_of text) then Some (parts_of text) else None
