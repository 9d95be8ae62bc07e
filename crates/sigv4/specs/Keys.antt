-- The text of the access keys: lines `ID SECRET` (this profile).
use Rattle.std.specs.Prelude.{◌≡◌, ℕ, Bool, true, false, not, ◌&&◌, ◌==◌, nat_le, if◌then◌else◌, List, [], ◌∷◌, length, map, take}
use Rattle.std.specs.Prelude.{slice_get, find, Option, MatchOption, option_map, Result, Ok, Err}
use Rattle.std.specs.List.{list_all, list_any, before_first, after_first}
use Rattle.std.specs.Str.{bytes_eq}
use Rattle.gate_base.specs.Ascii.{is_letter_or_digit, is_visible}
use Rattle.sigv4.specs.declared.keys.AccessKey.{AccessKey}
use Rattle.sigv4.specs.declared.keys.KeysFault.{KeysFault}
use Rattle.sigv4.specs.declared.keys.KeysFault.TheVariants.{BadLine, Twice, Memory}

abbrev pub is_newline : ℕ → Bool
is_newline byte = byte == 10

abbrev pub is_space : ℕ → Bool
is_space byte = byte == 32

-- 1 to 128 bytes
abbrev pub has_word_length : List ℕ → Bool
has_word_length word = nat_le 1 (length word) && nat_le (length word) 128

-- an id has letters and digits, a secret any visible ASCII
abbrev pub is_key : AccessKey → Bool
is_key key = has_word_length key.id && list_all is_letter_or_digit key.id && has_word_length key.secret && list_all is_visible key.secret

-- what a line gives: the text before its first space and the text behind it
abbrev pub key_of : List ℕ → AccessKey
key_of line = record { id = before_first is_space line; secret = after_first is_space line }

-- a byte put before the first of the lines
abbrev pub begin_line : ℕ → List (List ℕ) → List (List ℕ)
begin_line byte [] = (byte ∷ []) ∷ []
begin_line byte (line ∷ lines) = (byte ∷ line) ∷ lines

-- the lines of a text: each is ended by LF, the last one perhaps not
unfoldable pub lines_of : List ℕ → List (List ℕ)
lines_of [] = []
lines_of (byte ∷ text) = if is_newline byte then [] ∷ lines_of text else begin_line byte (lines_of text)

-- what the lines of a text give, good or bad
abbrev pub keys_of : List ℕ → List AccessKey
keys_of text = map key_of (lines_of text)

-- the key has this id
abbrev pub has_id : List ℕ → AccessKey → Bool
has_id id key = bytes_eq key.id id

-- no id stands twice
unfoldable pub ids_differ : List AccessKey → Bool
ids_differ [] = true
ids_differ (key ∷ keys) = not (list_any (λ later. has_id later.id key) keys) && ids_differ keys

-- keys of the form, with different ids
abbrev pub are_keys : List AccessKey → Bool
are_keys keys = list_all is_key keys && ids_differ keys

-- the line of that index gives the first that isn't of the form
abbrev pub IsBadAt : ℕ → List AccessKey → Type 0
IsBadAt n keys = (are_keys (take n keys) ≡ true) × MatchOption (slice_get keys n) ⊥ (λ key. is_key key ≡ false)

-- the line of that index gives the first whose id stands before it
abbrev pub IsTwiceAt : ℕ → List AccessKey → Type 0
IsTwiceAt n keys =
    (are_keys (take n keys) ≡ true)
    × MatchOption (slice_get keys n) ⊥ (λ key. (is_key key ≡ true) × (list_any (has_id key.id) (take n keys) ≡ true))

-- what reading the keys of a text answers; memory may run out for any text
abbrev pub ReadsKeys : List AccessKey → Result (List AccessKey) KeysFault → Type 0
ReadsKeys keys (Ok read) = (read ≡ keys) × (are_keys keys ≡ true)
ReadsKeys keys (Err (BadLine n)) = IsBadAt n keys
ReadsKeys keys (Err (Twice n)) = IsTwiceAt n keys
ReadsKeys keys (Err Memory) = Unit {0}

-- the secret of the id
abbrev pub secret_of : List ℕ → List AccessKey → Option (List ℕ)
secret_of id keys = option_map (λ key. key.secret) (find (has_id id) keys)
