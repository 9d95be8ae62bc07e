use Rattle.std.proofs.Common.{◌∙◌, ap}
use Rattle.clap.specs.Simple.{App}
use Rattle.gateway_cli.specs.Description.{gate_app, trial_app, with_keeping, with_serving, with_signing}
use Rattle.gateway_cli.proofs.DescriptionLemmas.{belows}
use Rattle.gateway_cli.proofs.description.gate.Goals as goal

pub returns : goal.returns
unfolding gate_app
returns c =
    belows c.with_command.result c.in_ok-keeping.keeping c.trial_description.result _ trial_app
    (c.in_ok-keeping.ensures ∙ ap (λ (app : App). with_keeping app) (c.in_ok-signing.ensures ∙ ap (λ (app : App). with_signing app) (c.in_ok-serving.ensures ∙ ap (λ (app : App). with_serving app) c.bare_gate.ensures)))
    c.trial_description.ensures.app c.trial_description.ensures.local c.with_command.ensures
