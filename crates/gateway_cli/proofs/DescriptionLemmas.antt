-- What options and commands make of a command that they are put to.
use Rattle.std.proofs.Common.{◌≡◌, ◌∙◌, ap, false, IfOk, Result, Ok, Err}
use Rattle.std.proofs.lemmas.Result.{IfOk-weaker}
use Rattle.clap.specs.Walk.{Rule}
use Rattle.clap.specs.Simple.{App, app_of, with_rule, with_subcommand}
use Rattle.clap.specs.declared.builder.command.Command.{Command}
use Rattle.clap.specs.declared.builder.command.Command.TheViews.{out-Command as fields_of}
use Rattle.gateway_cli.specs.Description.{HasBelow}

-- one option more
pub optioned : {E : Type 0} (result : Result Command E) (command : Command) (app : App) (rule : Rule) → app_of command ≡ app
    → IfOk result (λ more. app_of more ≡ with_rule (app_of command) rule)
    → IfOk result (λ more. app_of more ≡ with_rule app rule)
optioned result command app rule is adds = IfOk-weaker result _ _ (λ more added. added ∙ ap (λ (a : App). with_rule a rule) is) adds

-- and none that others share
pub kept_local : {E : Type 0} (result : Result Command E) (command : Command) → (fields_of command).has_globals ≡ false
    → IfOk result (λ more. (fields_of more).has_globals ≡ (fields_of command).has_globals)
    → IfOk result (λ more. (fields_of more).has_globals ≡ false)
kept_local result command is same = IfOk-weaker result _ _ (λ more equal. equal ∙ is) same

-- a further command, whose description is known
pub below : {E : Type 0} (command more : Command) (below : Result Command E) (known app : App) → app_of command ≡ known
    → IfOk below (λ b. app_of b ≡ app) → IfOk below (λ b. (fields_of b).has_globals ≡ false)
    → HasBelow command below more → app_of more ≡ with_subcommand known app.top
below command more (Ok b) known app is told local has = has local ∙ ap (λ (a : App). with_subcommand (app_of command) a.top) told ∙ ap (λ (a : App). with_subcommand a app.top) is
below command more (Err fault) known app is told local has = absurd has

pub belows : {E F : Type 0} (result : Result Command F) (command : Command) (under : Result Command E) (known app : App) → app_of command ≡ known
    → IfOk under (λ b. app_of b ≡ app) → IfOk under (λ b. (fields_of b).has_globals ≡ false)
    → IfOk result (HasBelow command under) → IfOk result (λ more. app_of more ≡ with_subcommand known app.top)
belows result command under known app is told local has = IfOk-weaker result _ _ (λ more it. below command more under known app is told local it) has
