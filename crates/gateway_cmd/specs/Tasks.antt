-- What the words ask for. Source: this profile.
use Rattle.std.specs.Prelude.{ℕ, Bool, List, Option, Some, None, String}
use Rattle.std.specs.declared.alloc.Global.{Global}
use Rattle.s3_machine.specs.declared.operation.Settings.{Settings}
use Rattle.s3_machine.specs.Limits.{strict_settings}
use Rattle.sigv4.specs.Keys.{keys_of}
use Rattle.gateway.specs.declared.service.Service.{Service}
use Rattle.gateway_cli.specs.Words.{command_of}
use Rattle.gateway_cli.specs.declared.command.Command.{Command}
use Rattle.gateway_cli.specs.declared.command.Command.TheVariants.{Session, Serve, Sign, Presign, Recover, Sweep, Check, Trial}

-- the settings of a service of that region, with that least part, that largest body, and whether it is extended
abbrev pub settings_of : List ℕ → ℕ → ℕ → Bool → Settings
settings_of region least largest extended = record (strict_settings region least largest) { extended = extended }

-- what connections are served by: the settings that the words ask for, and how many connections at most; and the keys of a
-- key text
pub record Serving : Type 0 where
  pub settings : Settings
  pub most : Option ℕ

abbrev pub service_of : Serving → List ℕ → Service
service_of serving keys = record { settings = serving.settings; keys = keys_of keys }

-- what is asked for: nothing where the words are refused; to serve the connections of the line; or to sign its first request, by
-- the key of an id for a region; or to make a URL of it, which holds for so many seconds; or to settle the store; or to settle it
-- and remove what is left over on it, and forget the completions from before a moment; or to count what stands on it; or to try it
-- by so many requests of a number
pub data Task : Type 0 where
  nothing : Task
  to_serve : Serving → Task
  to_sign : List ℕ → List ℕ → Task
  to_presign : List ℕ → List ℕ → ℕ → Task
  to_recover : Task
  to_sweep : ℕ → Task
  to_check : Task
  to_try : ℕ → ℕ → Task

abbrev pub task_of : Option Command → Task
task_of None = nothing
task_of (Some (Session region least largest extended)) = to_serve (record { settings = settings_of region least largest extended; most = None })
task_of (Some (Serve region connections least largest extended)) =
    to_serve (record { settings = settings_of region least largest extended; most = Some connections })
task_of (Some (Sign id region)) = to_sign id region
task_of (Some (Presign id region expires)) = to_presign id region expires
task_of (Some Recover) = to_recover
task_of (Some (Sweep before)) = to_sweep before
task_of (Some Check) = to_check
task_of (Some (Trial number requests)) = to_try number requests

abbrev pub asked_for : List (String Global) → Task
asked_for words = task_of (command_of words)
