-- What the words that follow the program's name ask for (this profile).
use Rattle.std.specs.Prelude.{◌≡◌, ◌≢◌, ℕ, Bool, true, ◌&&◌, ◌||◌, ◌==◌, nat_le, if◌then◌else◌, List, [], ◌∷◌, bytes_eq, length, map, codes, Option, Some, None}
use Rattle.std.specs.Prelude.{option_and_then, Result, Ok, Err, String, string_bytes}
use Rattle.std.specs.List.{list_all}
use Rattle.std.specs.Str.Parse.{digits_value}
use Rattle.std.specs.declared.alloc.Global.{Global}
use Rattle.clap.specs.Walk.{Row, Rule, Text, first_of, is_empty, rows_of}
use Rattle.clap.specs.Matches.{found_of}
use Rattle.clap.specs.Simple.{App, Shape, matches_of, new_app, new_rule, on_top, with_rule}
use Rattle.clap.specs.Faults.{fault_of}
use Rattle.clap.specs.declared.builder.action.ArgAction.TheVariants.{Set}
use Rattle.clap.specs.declared.error.kind.ErrorKind.{ErrorKind}
use Rattle.clap.specs.declared.error.kind.ErrorKind.TheVariants.{OutOfMemory}
use Rattle.clap.specs.declared.parser.matches.ArgMatches.{ArgMatches}
use Rattle.gate_base.specs.Ascii.{is_letter_or_digit}
use Rattle.text_forms.specs.Numbers.{is_number}
use Rattle.store_cmd.specs.declared.words.Asked.{Asked}
use Rattle.store_cmd.specs.declared.words.WordsFault.{WordsFault}
use Rattle.store_cmd.specs.declared.words.WordsFault.TheVariants.{Refused, Memory}

-- ---- as `clap` is told of them

abbrev pub needed_rule : Text → Rule
needed_rule name = record (new_rule name) { long = Some name; action = Some Set; required = true }

abbrev pub optional_rule : Text → Rule
optional_rule name = record (new_rule name) { long = Some name; action = Some Set }

-- the words begin behind the program's name
abbrev pub with_settings : Shape → Shape
with_settings s = record s { no_binary_name = true }

-- `--token T --account A --connections N`, all of them required, and `--file PATH`
unfoldable pub store_app : App
store_app =
    with_rule
    (with_rule (with_rule (with_rule (on_top with_settings (new_app (codes "swiftd"))) (needed_rule (codes "token"))) (needed_rule (codes "account")))
    (needed_rule (codes "connections")))
    (optional_rule (codes "file"))

-- ---- as texts

-- 1 to 64 letters, digits or `_`
abbrev pub is_name_byte : ℕ → Bool
is_name_byte byte = is_letter_or_digit byte || (byte == 95)

abbrev pub is_name : List ℕ → Bool
is_name text = nat_le 1 (length text) && nat_le (length text) 64 && list_all is_name_byte text

-- 1 to 1000000000
abbrev pub is_count : ℕ → Bool
is_count n = nat_le 1 n && nat_le n 1000000000

abbrev pub store_connection_count : List ℕ → Option ℕ
store_connection_count text = if is_number 20 text && is_count (digits_value 10 text) then Some (digits_value 10 text) else None

-- 1 to 4096 bytes
abbrev pub is_file_path : List ℕ → Bool
is_file_path path = nat_le 1 (length path) && nat_le (length path) 4096

-- the path of a file, if one is given; none where it is refused
abbrev pub file_option : Option (List ℕ) → Option (Option (List ℕ))
file_option None = Some None
file_option (Some path) = if is_file_path path then Some (Some path) else None

-- ---- what they ask for

abbrev pub asked_with_store_names : List ℕ → List ℕ → Option ℕ → Option (Option (List ℕ)) → Option Asked
asked_with_store_names token account None file = None
asked_with_store_names token account (Some connections) None = None
asked_with_store_names token account (Some connections) (Some file) =
    if is_name token && is_name account then Some (record { token = token; account = account; connections = connections; file = file }) else None

abbrev pub asked_by : Option (List ℕ) → Option (List ℕ) → Option (List ℕ) → Option (List ℕ) → Option Asked
asked_by None account connections file = None
asked_by (Some token) None connections file = None
asked_by (Some token) (Some account) None file = None
asked_by (Some token) (Some account) (Some connections) file = asked_with_store_names token account (store_connection_count connections) (file_option file)

-- by what `clap` found
abbrev pub asked_in : List Row → Option Asked
asked_in rows =
    asked_by (first_of (codes "token") rows) (first_of (codes "account") rows) (first_of (codes "connections") rows)
    (first_of (codes "file") rows)

-- what `clap` finds in the words, where it takes them
unfoldable pub met_in : List Text → Option (List Row)
met_in words = if is_empty (fault_of store_app words) then Some (matches_of store_app words) else None

-- what the words ask for; none where they are refused
abbrev pub asked_of : List (String Global) → Option Asked
asked_of words = option_and_then asked_in (met_in (map string_bytes words))

-- the path of the file that they name; none where they are refused
abbrev pub file_of : Option Asked → Option (List ℕ)
file_of None = None
file_of (Some asked) = asked.file

-- the path of the file whose tables are written anew: `--file PATH --compact`, and nothing else
abbrev pub compacted_in : List Text → Option (List ℕ)
compacted_in (option ∷ path ∷ compact ∷ []) = if bytes_eq option (codes "--file") && bytes_eq compact (codes "--compact") && is_file_path path then Some path else None
compacted_in words = None

-- what reading the path answers; memory may run out for any
abbrev pub ReadsFile : Option (List ℕ) → Result (Option (List ℕ)) WordsFault → Type 0
ReadsFile given (Ok file) = file_option given ≡ Some file
ReadsFile given (Err Refused) = file_option given ≡ None
ReadsFile given (Err Memory) = Unit {0}

-- what reading words of that meaning answers; memory may run out for any words
abbrev pub ReadsWords : Option Asked → Result Asked WordsFault → Type 0
ReadsWords meant (Ok asked) = meant ≡ Some asked
ReadsWords meant (Err Refused) = meant ≡ None
ReadsWords meant (Err Memory) = Unit {0}

-- what `clap` makes of the words
abbrev pub Parses : List Text → Result ArgMatches WordsFault → Type 0
Parses words (Ok matches) = met_in words ≡ Some (rows_of (found_of matches))
Parses words (Err Refused) = met_in words ≡ None
Parses words (Err Memory) = Unit {0}

-- the fault of an error of that kind
abbrev pub FaultOf : ErrorKind → WordsFault → Type 0
FaultOf kind Refused = kind ≢ OutOfMemory
FaultOf kind Memory = kind ≡ OutOfMemory
