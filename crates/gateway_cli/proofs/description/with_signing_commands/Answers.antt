use Rattle.std.proofs.Common.{refl}
use Rattle.gateway_cli.specs.Description.{presign_app, sign_app}
use Rattle.gateway_cli.proofs.DescriptionLemmas.{below, belows}
use Rattle.gateway_cli.proofs.description.with_signing_commands.Goals as goal

pub returns : goal.returns
returns c =
    belows c.with_command-2.result c.in_ok-sign.sign c.presign_description.result _ presign_app
    (below c.args.gate c.in_ok-sign.sign c.sign_description.result _ sign_app refl c.sign_description.ensures.app c.sign_description.ensures.local c.in_ok-sign.ensures)
    c.presign_description.ensures.app c.presign_description.ensures.local c.with_command-2.ensures
