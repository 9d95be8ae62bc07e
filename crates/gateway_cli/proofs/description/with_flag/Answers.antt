use Rattle.std.proofs.Common.{◌∙◌, ap, Bool, ◌||◌}
use Rattle.std.proofs.lemmas.Result.{IfOk-weaker}
use Rattle.std.proofs.Math.Bool.{or-false}
use Rattle.clap.specs.Walk.{Rule}
use Rattle.clap.specs.Simple.{app_of, with_rule}
use Rattle.clap.specs.declared.builder.command.Command.TheViews.{out-Command as fields_of}
use Rattle.gateway_cli.proofs.description.with_flag.Goals as goal

pub returns-clause-app : goal.returns-clause-app
returns-clause-app c =
    IfOk-weaker c.arg.result _ _
    (λ more adds. adds.shape c.flag-made.ensures.local ∙ ap (λ (rule : Rule). with_rule (app_of c.args.command) rule) c.flag-made.ensures.rule)
    c.arg.ensures

pub returns-clause-local : goal.returns-clause-local
returns-clause-local c =
    IfOk-weaker c.arg.result _ _
    (λ more adds. adds.globals ∙ ap (λ (global : Bool). (fields_of c.args.command).has_globals || global) c.flag-made.ensures.local ∙ or-false _)
    c.arg.ensures
