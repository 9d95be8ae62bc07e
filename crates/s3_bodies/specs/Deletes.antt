-- The keys that the body of a DeleteObjects lists, as a function of all its bytes.
use Rattle.std.specs.Prelude.{◌≡◌, ℕ, Bool, true, false, ◌&&◌, ◌||◌, nat_le, nat_lt, if◌then◌else◌}
use Rattle.std.specs.Prelude.{List, [], ◌∷◌, ◌++◌, length, Option, Some, None, Result, Ok, Err, codes}
use Rattle.std.specs.Char.{encode_utf8}
use Rattle.std.specs.Int.{is_in_range}
use Rattle.std.specs.Str.Parse.{digits_value}
use Rattle.s3_names.specs.Key.{is_key}
use Rattle.xml_forms.specs.Runs.{has}
use Rattle.xml_forms.specs.declared.class.Class.TheVariants.{Digit, HexDigit, InText}
use Rattle.s3_machine.specs.declared.limits.TheConstants.{MOST_KEYS}
use Rattle.s3_bodies.specs.Delete.{Deletion, delete_start, delete_end}
use Rattle.s3_bodies.specs.Values.{when, exactly, words, either, joined, valued, spaced, elements, many, documents, wholes}
use Rattle.s3_bodies.specs.declared.delete.Deletes.{Deletes}
use Rattle.s3_bodies.specs.declared.key_text.Piece.{Piece}
use Rattle.s3_bodies.specs.declared.key_text.Piece.TheVariants.{Byte, Numbered}
use Rattle.s3_bodies.specs.declared.fault.BodyFault.{BodyFault}
use Rattle.s3_bodies.specs.declared.fault.BodyFault.TheVariants.{NotTheBody, TooMany, Memory}

-- ---- the text of a key

abbrev pub plains : List ℕ → List Piece
plains [] = []
plains (byte ∷ []) = when (has InText byte) (Byte byte ∷ [])
plains (byte ∷ next ∷ bytes) = []

abbrev pub angles : List ℕ → List Piece
angles = either (exactly (Byte 60) (codes "lt;")) (exactly (Byte 62) (codes "gt;"))

abbrev pub quote_marks : List ℕ → List Piece
quote_marks = either (exactly (Byte 34) (codes "quot;")) (exactly (Byte 39) (codes "apos;"))

abbrev pub entities : List ℕ → List Piece
entities = either (exactly (Byte 38) (codes "amp;")) (either angles quote_marks)

abbrev pub decimals : List ℕ → List Piece
decimals = valued (λ digits. Numbered (digits_value 10 digits)) (elements [] Digit true (Some 7) (codes ";"))

abbrev pub hexadecimals : List ℕ → List Piece
hexadecimals = valued (λ digits. Numbered (digits_value 16 digits)) (elements (codes "x") HexDigit true (Some 6) (codes ";"))

abbrev pub numbers : List ℕ → List Piece
numbers = joined (words (codes "#")) (λ _. either decimals hexadecimals)

abbrev pub references : List ℕ → List Piece
references = joined (words (codes "&")) (λ _. either entities numbers)

abbrev pub pieces : List ℕ → List Piece
pieces = either plains references

-- the pieces of a text; there is at most one list of them
unfoldable pub all_pieces : List ℕ → List (List Piece)
all_pieces = many pieces (λ items. exactly items [])

abbrev pub text_by : List (List Piece) → List ℕ → List (List ℕ)
text_by [] text = []
text_by (first ∷ others) text = text ∷ []

-- a text that is made of pieces
unfoldable pub texts : List ℕ → List (List ℕ)
texts text = text_by (all_pieces text) text

-- ---- what it names

-- a character has the number, and it isn't 0
abbrev pub is_character : ℕ → Bool
is_character number = nat_lt 0 number && (nat_lt number 0xD800 || is_in_range 0xE000 0x10_FFFF number)

abbrev pub meant_by : Piece → Option (List ℕ)
meant_by (Byte byte) = Some (byte ∷ [])
meant_by (Numbered number) = if is_character number then Some (encode_utf8 number) else None

abbrev pub put_before : Option (List ℕ) → Option (List ℕ) → Option (List ℕ)
put_before None rest = None
put_before (Some first) None = None
put_before (Some first) (Some rest) = Some (first ++ rest)

-- what pieces stand for, where each of them stands for something
unfoldable pub meaning : List Piece → Option (List ℕ)
meaning [] = Some []
meaning (piece ∷ pieces) = put_before (meant_by piece) (meaning pieces)

abbrev pub if_key : Option (List ℕ) → Option (List ℕ)
if_key None = None
if_key (Some bytes) = if is_key bytes then Some bytes else None

abbrev pub key_by : List (List Piece) → Option (List ℕ)
key_by [] = None
key_by (first ∷ others) = if_key (meaning first)

abbrev pub add_key : Option (List ℕ) → Option (List (List ℕ)) → Option (List (List ℕ))
add_key None keys = None
add_key (Some key) None = None
add_key (Some key) (Some keys) = Some (key ∷ keys)

-- the keys that texts name, where each of them names one
unfoldable pub keys_named : List (List ℕ) → Option (List (List ℕ))
keys_named [] = Some []
keys_named (text ∷ texts) = add_key (key_by (all_pieces text)) (keys_named texts)

-- ---- what stands in the root

abbrev pub keys : List ℕ → List (List ℕ)
keys = joined (words (codes "<Key>")) (λ _. joined texts (λ text. exactly text (codes "</Key>")))

abbrev pub object_ends : List ℕ → List ℕ → List (List ℕ)
object_ends text = spaced (exactly text (codes "</Object>"))

abbrev pub objects : List ℕ → List (List ℕ)
objects = joined (spaced (words (codes "<Object>"))) (λ _. joined (spaced keys) object_ends)

abbrev pub quiets : List ℕ → List Bool
quiets = joined (spaced (words (codes "<Quiet>"))) (λ _. either (exactly true (codes "true</Quiet>")) (exactly false (codes "false</Quiet>")))

-- ---- a deletion

abbrev pub delete_ends : Deletion → List ℕ → List Deletion
delete_ends all bytes = when (nat_lt 0 (length all.0)) (spaced (exactly all delete_end) bytes)

abbrev pub quiet_thens : List (List ℕ) → List ℕ → List Deletion
quiet_thens before = joined quiets (λ quiet. many objects (λ after. delete_ends (before ++ after, quiet)))

abbrev pub insides : List ℕ → List Deletion
insides = many objects (λ before. either (quiet_thens before) (delete_ends (before, false)))

-- the deletion of a body; there is at most one
unfoldable pub deletions : List ℕ → List Deletion
deletions = wholes (documents delete_start insides)

abbrev pub with_quiet : Bool → Option (List (List ℕ)) → Option Deletes
with_quiet quiet None = None
with_quiet quiet (Some keys) = Some (record { keys = keys; quiet = quiet })

-- one of more keys than may be is none, nor is one of which a text names no key
abbrev pub deletes_by : List Deletion → Option Deletes
deletes_by [] = None
deletes_by (body ∷ others) = if nat_le (length body.0) MOST_KEYS then with_quiet body.1 (keys_named body.0) else None

-- what a body asks to delete; none where it is no deletion, or lists too many keys, or a text that names none
unfoldable pub deletes_in : List ℕ → Option Deletes
deletes_in bytes = deletes_by (deletions bytes)

-- what reading a body tells of it
abbrev pub TellsDeletes : List ℕ → Result Deletes BodyFault → Type 0
TellsDeletes bytes (Ok deletes) = deletes_in bytes ≡ Some deletes
TellsDeletes bytes (Err (NotTheBody n)) = deletes_in bytes ≡ None
TellsDeletes bytes (Err TooMany) = deletes_in bytes ≡ None
TellsDeletes bytes (Err Memory) = Unit {0}
