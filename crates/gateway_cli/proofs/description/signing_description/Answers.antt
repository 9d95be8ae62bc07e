use Rattle.std.proofs.Common.{◌∙◌, ap, codes}
use Rattle.clap.specs.Simple.{App, new_app, with_rule}
use Rattle.gateway_cli.specs.Description.{key_rule, region_rule}
use Rattle.gateway_cli.proofs.DescriptionLemmas.{optioned, kept_local}
use Rattle.gateway_cli.proofs.description.signing_description.Goals as goal

pub returns-clause-app : goal.returns-clause-app
returns-clause-app c = optioned c.with_option-2.result c.in_ok-keyed.keyed _ region_rule (c.in_ok-keyed.ensures.app ∙ ap (λ (app : App). with_rule app key_rule) c.new.ensures.app) c.with_option-2.ensures.app

pub returns-clause-local : goal.returns-clause-local
returns-clause-local c = kept_local c.with_option-2.result c.in_ok-keyed.keyed (c.in_ok-keyed.ensures.local ∙ c.new.ensures.local) c.with_option-2.ensures.local
