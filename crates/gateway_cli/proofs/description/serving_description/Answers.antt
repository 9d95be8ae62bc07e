use Rattle.std.proofs.Common.{◌∙◌, ap, codes}
use Rattle.clap.specs.Simple.{App, new_app, with_rule}
use Rattle.gateway_cli.specs.Description.{extended_rule, largest_body_rule}
use Rattle.gateway_cli.proofs.DescriptionLemmas.{optioned, kept_local}
use Rattle.gateway_cli.proofs.description.serving_description.Goals as goal

pub returns-clause-app : goal.returns-clause-app
returns-clause-app c = optioned c.with_flag.result c.in_ok-sized.sized _ extended_rule (c.in_ok-sized.ensures.app ∙ ap (λ (app : App). with_rule app largest_body_rule) c.in_ok-parted.ensures.app) c.with_flag.ensures.app

pub returns-clause-local : goal.returns-clause-local
returns-clause-local c = kept_local c.with_flag.result c.in_ok-sized.sized (c.in_ok-sized.ensures.local ∙ c.in_ok-parted.ensures.local) c.with_flag.ensures.local
