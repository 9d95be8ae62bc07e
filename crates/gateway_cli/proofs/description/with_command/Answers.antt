use Rattle.std.proofs.Common.{◌≡◌, sym, subst, Result}
use Rattle.std.proofs.lemmas.Result.{IfOk-weaker}
use Rattle.gateway_cli.specs.Description.{HasBelow}
use Rattle.gateway_cli.proofs.description.with_command.Goals as goal

pub returns : goal.returns
returns c =
    IfOk-weaker c.subcommand.result _ _
    (λ more adds. subst (λ it. HasBelow c.args.command it more) (sym c.in_ok-made.was) (λ local. adds.shape local))
    c.subcommand.ensures
