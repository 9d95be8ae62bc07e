use Rattle.std.proofs.Common.{refl}
use Rattle.gateway_cli.specs.Description.{serve_app, session_app}
use Rattle.gateway_cli.proofs.DescriptionLemmas.{below, belows}
use Rattle.gateway_cli.proofs.description.with_serving_commands.Goals as goal

pub returns : goal.returns
returns c =
    belows c.with_command-2.result c.in_ok-session.session c.serve_description.result _ serve_app
    (below c.args.gate c.in_ok-session.session c.serving_description.result _ session_app refl c.serving_description.ensures.app c.serving_description.ensures.local c.in_ok-session.ensures)
    c.serve_description.ensures.app c.serve_description.ensures.local c.with_command-2.ensures
