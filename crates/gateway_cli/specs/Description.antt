-- The words of the program as `clap` is told of them (this profile).
use Rattle.std.specs.Prelude.{◌≡◌, ℕ, Bool, true, false, List, Some, codes, Result, Ok, Err}
use Rattle.clap.specs.Walk.{Rule}
use Rattle.clap.specs.Simple.{App, Shape, app_of, new_app, new_rule, on_top, with_rule, with_subcommand}
use Rattle.clap.specs.declared.builder.action.ArgAction.TheVariants.{Set, SetTrue}
use Rattle.clap.specs.declared.builder.command.Command.{Command}
use Rattle.clap.specs.declared.builder.command.Command.TheViews.{out-Command as fields_of}

-- an option that takes a value, and has to be given or not
abbrev pub option_rule : List ℕ → Bool → Rule
option_rule name required = record (new_rule name) { long = Some name; action = Some Set; required = required }

-- a flag
abbrev pub flag_rule : List ℕ → Rule
flag_rule name = record (new_rule name) { long = Some name; action = Some SetTrue }

-- the option `--region R`
abbrev pub region_rule : Rule
region_rule = option_rule (codes "region") false

-- the option `--key ID`, which must be given
abbrev pub key_rule : Rule
key_rule = option_rule (codes "key") true

-- the option `--least-part N`
abbrev pub least_part_rule : Rule
least_part_rule = option_rule (codes "least-part") false

-- the option `--largest-body N`
abbrev pub largest_body_rule : Rule
largest_body_rule = option_rule (codes "largest-body") false

-- the flag `--extended`
abbrev pub extended_rule : Rule
extended_rule = flag_rule (codes "extended")

-- a command of that name with a region and a least part
abbrev pub parted_app : List ℕ → App
parted_app name = with_rule (with_rule (new_app name) region_rule) least_part_rule

-- one that serves, with these, a largest body, and the flag
abbrev pub serving_app : List ℕ → App
serving_app name = with_rule (with_rule (parted_app name) largest_body_rule) extended_rule

-- `session`, with these
abbrev pub session_app : App
session_app = serving_app (codes "session")

-- the option `--connections N`
abbrev pub connections_rule : Rule
connections_rule = option_rule (codes "connections") false

-- `serve`, with these and a number of connections
abbrev pub serve_app : App
serve_app = with_rule (serving_app (codes "serve")) connections_rule

-- a command of that name with a key and a region
abbrev pub signing_app : List ℕ → App
signing_app name = with_rule (with_rule (new_app name) key_rule) region_rule

-- `sign`, with these
abbrev pub sign_app : App
sign_app = signing_app (codes "sign")

-- the option `--expires N`, which must be given
abbrev pub expires_rule : Rule
expires_rule = option_rule (codes "expires") true

-- `presign`, with these and a number of seconds
abbrev pub presign_app : App
presign_app = with_rule (signing_app (codes "presign")) expires_rule

-- `recover`, without an option
abbrev pub recover_app : App
recover_app = new_app (codes "recover")

-- the option `--forget-before SECONDS`
abbrev pub forget_before_rule : Rule
forget_before_rule = option_rule (codes "forget-before") false

-- `sweep`, with it
abbrev pub sweep_app : App
sweep_app = with_rule (new_app (codes "sweep")) forget_before_rule

-- `check`, without an option
abbrev pub check_app : App
check_app = new_app (codes "check")

-- the options `--number N` and `--requests M`, which must be given
abbrev pub number_rule : Rule
number_rule = option_rule (codes "number") true

abbrev pub requests_rule : Rule
requests_rule = option_rule (codes "requests") true

-- `trial`, with these
abbrev pub trial_app : App
trial_app = with_rule (with_rule (new_app (codes "trial")) number_rule) requests_rule

-- a command with a further one below it, which was made and has no option that others share
abbrev pub HasBelow : {E : Type 0} → Command → Result Command E → Command → Type 0
HasBelow command (Ok below) more = (fields_of below).has_globals ≡ false → app_of more ≡ with_subcommand (app_of command) (app_of below).top
HasBelow command (Err fault) more = ⊥

-- the words begin behind the program's name, and one of the commands must be named
abbrev pub with_settings : Shape → Shape
with_settings s = record s { no_binary_name = true; subcommand_required = true }

-- the commands of each kind, put behind those of another
abbrev pub with_serving : App → App
with_serving app = with_subcommand (with_subcommand app session_app.top) serve_app.top

abbrev pub with_signing : App → App
with_signing app = with_subcommand (with_subcommand app sign_app.top) presign_app.top

abbrev pub with_keeping : App → App
with_keeping app = with_subcommand (with_subcommand (with_subcommand app recover_app.top) sweep_app.top) check_app.top

unfoldable pub gate_app : App
gate_app = with_subcommand (with_keeping (with_signing (with_serving (on_top with_settings (new_app (codes "s3gate")))))) trial_app.top
