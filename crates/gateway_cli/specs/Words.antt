-- What the words that follow the program's name ask for (this profile).
use Rattle.std.specs.Prelude.{◌≡◌, ◌≢◌, ◌<◌, ◌≤◌, ℕ, Bool, true, false, ◌&&◌, ◌||◌, ◌==◌, nat_le, if◌then◌else◌, List, length, map, codes, bytes_eq, Option, Some, None}
use Rattle.std.specs.Prelude.{option_and_then, option_map, unwrap_or, Result, Ok, Err, String, string_bytes}
use Rattle.std.specs.List.{list_all}
use Rattle.std.specs.Str.Parse.{digits_value}
use Rattle.std.specs.declared.alloc.Global.{Global}
use Rattle.clap.specs.Walk.{Row, Text, first_of, is_empty}
use Rattle.clap.specs.Simple.{subcommand_of, subcommand_rows_of}
use Rattle.clap.specs.Faults.{fault_of}
use Rattle.clap.specs.declared.error.kind.ErrorKind.{ErrorKind}
use Rattle.clap.specs.declared.error.kind.ErrorKind.TheVariants.{OutOfMemory}
use Rattle.clap.specs.declared.parser.matches.ArgMatches.{ArgMatches}
use Rattle.gate_base.specs.Ascii.{is_letter_or_digit}
use Rattle.gate_base.specs.Told.{moment_limit}
use Rattle.text_forms.specs.Numbers.{is_number}
use Rattle.gateway_cli.specs.Description.{gate_app}
use Rattle.gateway_cli.specs.declared.command.Command.{Command}
use Rattle.gateway_cli.specs.declared.command.Command.TheVariants.{Session, Serve, Sign, Presign, Recover, Sweep, Check, Trial}
use Rattle.gateway_cli.specs.declared.read.CommandName.{CommandName}
use Rattle.gateway_cli.specs.declared.read.CommandName.TheVariants as name
use Rattle.gateway_cli.specs.declared.command.WordsFault.{WordsFault}
use Rattle.gateway_cli.specs.declared.command.WordsFault.TheVariants.{Refused, Memory}

-- `a` to `z`, `0` to `9`, `-`
abbrev pub is_region_byte : ℕ → Bool
is_region_byte byte = (nat_le 97 byte && nat_le byte 122) || (nat_le 48 byte && nat_le byte 57) || (byte == 45)

-- 1 to 32 of these bytes
abbrev pub is_region : List ℕ → Bool
is_region text = nat_le 1 (length text) && nat_le (length text) 32 && list_all is_region_byte text

-- 1 to 128 of these bytes
abbrev pub is_key_option : List ℕ → Bool
is_key_option text = nat_le 1 (length text) && nat_le (length text) 128 && list_all is_letter_or_digit text

-- `least` to `most`
abbrev pub is_within : ℕ → ℕ → ℕ → Bool
is_within least most n = nat_le least n && nat_le n most

-- the number that a text writes, where it is `least` to `most`; none where the text writes no such number
abbrev pub number_in : ℕ → ℕ → List ℕ → Option ℕ
number_in least most text = if is_number 20 text && is_within least most (digits_value 10 text) then Some (digits_value 10 text) else None

-- a number of a trial; none where none is given, or what is given isn't such a number
abbrev pub trial_number_of : ℕ → Option (List ℕ) → Option ℕ
trial_number_of most None = None
trial_number_of most (Some text) = number_in 0 most text

-- the number of connections that is given, or the usual one; none where what is given isn't 1 to 1000000000
abbrev pub count_of : Option (List ℕ) → Option ℕ
count_of None = Some 1000
count_of (Some text) = number_in 1 1000000000 text

-- the least part that is given, or the usual one, which is S3's 5 MiB; none where what is given isn't 1 to 16777216
abbrev pub least_part_option : Option (List ℕ) → Option ℕ
least_part_option None = Some 5242880
least_part_option (Some text) = number_in 1 16777216 text

-- the largest body that is given, or the usual one, which is 16 MiB; none where what is given isn't 1 to 1073741824
abbrev pub largest_body_option : Option (List ℕ) → Option ℕ
largest_body_option None = Some 16777216
largest_body_option (Some text) = number_in 1 1073741824 text

-- whether a flag is given: `clap` tells `true` of it then, and else `false`
abbrev pub is_flag_given : Option (List ℕ) → Bool
is_flag_given None = false
is_flag_given (Some text) = bytes_eq text (codes "true")

-- the number of seconds that is given, a second to a week; none where none is, or what is given isn't such a number
abbrev pub span_of : Option (List ℕ) → Option ℕ
span_of None = None
span_of (Some text) = number_in 1 604800 text

-- the moment that is given, in seconds since the beginning of 1970, up to the end of the year 9999, or the first one; none where what
-- is given isn't such a number
abbrev pub moment_of : Option (List ℕ) → Option ℕ
moment_of None = Some 0
moment_of (Some text) = number_in 0 253402300799 text

-- the region that is given, or the usual one
abbrev pub region_option : Option (List ℕ) → List ℕ
region_option given = unwrap_or given (codes "us-east-1")

-- `session`, with the region, the least part and the largest body that are given, and the flag
abbrev pub session_command_by_options : Option (List ℕ) → Option (List ℕ) → Option (List ℕ) → Option (List ℕ) → Option Command
session_command_by_options given least largest extended = if is_region (region_option given)
    then option_and_then (λ part. option_map (λ body. Session (region_option given) part body (is_flag_given extended)) (largest_body_option largest))
    (least_part_option least)
    else None

-- `serve`, with these and the number of connections that is given
abbrev pub serve_command_by_options : Option (List ℕ) → Option (List ℕ) → Option (List ℕ) → Option (List ℕ) → Option (List ℕ) → Option Command
serve_command_by_options given connections least largest extended = if is_region (region_option given)
    then option_and_then (λ n. option_and_then (λ part. option_map (λ body. Serve (region_option given) n part body (is_flag_given extended)) (largest_body_option largest))
    (least_part_option least)) (count_of connections)
    else None

-- `sign`, with the key and the region that are given
abbrev pub sign_command_by_options : Option (List ℕ) → Option (List ℕ) → Option Command
sign_command_by_options None given = None
sign_command_by_options (Some key) given = if is_key_option key && is_region (region_option given) then Some (Sign key (region_option given)) else None

-- `presign`, with the key, the region and the number of seconds that are given
abbrev pub presign_command_by_options : Option (List ℕ) → Option (List ℕ) → Option (List ℕ) → Option Command
presign_command_by_options None given expires = None
presign_command_by_options (Some key) given expires = if is_key_option key && is_region (region_option given) then option_map (Presign key (region_option given)) (span_of expires) else None

-- `sweep`, with the moment that is given
abbrev pub sweep_command_by_options : Option (List ℕ) → Option Command
sweep_command_by_options before = option_map Sweep (moment_of before)

-- `trial`, with the two numbers that are given
abbrev pub trial_command : Option ℕ → Option ℕ → Option Command
trial_command None requests = None
trial_command (Some number) None = None
trial_command (Some number) (Some requests) = Some (Trial number requests)

abbrev pub trial_command_by_options : Option (List ℕ) → Option (List ℕ) → Option Command
trial_command_by_options number requests = trial_command (trial_number_of 18446744073709551615 number) (trial_number_of 100000 requests)

-- the command that has a name
abbrev pub name_of : Text → Option CommandName
name_of text = if bytes_eq text (codes "session") then Some name.Session
    else (if bytes_eq text (codes "serve") then Some name.Serve
    else (if bytes_eq text (codes "sign") then Some name.Sign
    else (if bytes_eq text (codes "presign") then Some name.Presign
    else (if bytes_eq text (codes "recover") then Some name.Recover
    else (if bytes_eq text (codes "sweep") then Some name.Sweep
    else (if bytes_eq text (codes "check") then Some name.Check
    else (if bytes_eq text (codes "trial") then Some name.Trial
    else None)))))))

-- a command, with what `clap` found for it
abbrev pub command_with : List Row → CommandName → Option Command
command_with rows name.Session =
    session_command_by_options (first_of (codes "region") rows) (first_of (codes "least-part") rows) (first_of (codes "largest-body") rows) (first_of (codes "extended") rows)
command_with rows name.Serve =
    serve_command_by_options (first_of (codes "region") rows) (first_of (codes "connections") rows) (first_of (codes "least-part") rows)
    (first_of (codes "largest-body") rows) (first_of (codes "extended") rows)
command_with rows name.Sign = sign_command_by_options (first_of (codes "key") rows) (first_of (codes "region") rows)
command_with rows name.Presign = presign_command_by_options (first_of (codes "key") rows) (first_of (codes "region") rows) (first_of (codes "expires") rows)
command_with rows name.Recover = Some Recover
command_with rows name.Sweep = sweep_command_by_options (first_of (codes "forget-before") rows)
command_with rows name.Check = Some Check
command_with rows name.Trial = trial_command_by_options (first_of (codes "number") rows) (first_of (codes "requests") rows)

-- the command of a name, with what `clap` found for it
abbrev pub command_in : Text → List Row → Option Command
command_in text rows = option_and_then (command_with rows) (name_of text)

-- what `clap` finds in the words, where it takes them: the name of the command and what was found for it
unfoldable pub met_in : List Text → Option (Text × List Row)
met_in words = if is_empty (fault_of gate_app words) then subcommand_of gate_app words else None

-- what the words mean; none where they are refused
abbrev pub command_of : List (String Global) → Option Command
command_of words = option_and_then (λ p. command_in p.0 p.1) (met_in (map string_bytes words))

-- what reading words of that meaning answers; memory may run out for any words
abbrev pub ReadsWords : Option Command → Result Command WordsFault → Type 0
ReadsWords meant (Ok command) = meant ≡ Some command
ReadsWords meant (Err Refused) = meant ≡ None
ReadsWords meant (Err Memory) = Unit {0}

-- what a command has that asks for it: to make a URL, a region of the form, and a second to a week; to sweep, a moment up to the end
-- of the year 9999; to try, at most 100,000 requests
abbrev pub IsProper : Command → Type 0
IsProper (Session region least largest extended) = Unit {0}
IsProper (Serve region connections least largest extended) = Unit {0}
IsProper (Sign key region) = Unit {0}
IsProper (Presign key region expires) = (is_region region ≡ true) × (1 ≤ expires) × (expires ≤ 604800)
IsProper Recover = Unit {0}
IsProper (Sweep before) = before < moment_limit
IsProper Check = Unit {0}
IsProper (Trial number requests) = requests ≤ 100000

-- what `clap` makes of the words
abbrev pub Parses : List Text → Result ArgMatches WordsFault → Type 0
Parses words (Ok matches) = met_in words ≡ subcommand_rows_of matches
Parses words (Err Refused) = met_in words ≡ None
Parses words (Err Memory) = Unit {0}

-- the fault of an error of that kind
abbrev pub FaultOf : ErrorKind → WordsFault → Type 0
FaultOf kind Refused = kind ≢ OutOfMemory
FaultOf kind Memory = kind ≡ OutOfMemory
