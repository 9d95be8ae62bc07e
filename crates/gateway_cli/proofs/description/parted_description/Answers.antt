use Rattle.std.proofs.Common.{◌∙◌, ap, codes}
use Rattle.clap.specs.Simple.{App, new_app, with_rule}
use Rattle.gateway_cli.specs.Description.{least_part_rule, region_rule}
use Rattle.gateway_cli.proofs.DescriptionLemmas.{optioned, kept_local}
use Rattle.gateway_cli.proofs.description.parted_description.Goals as goal

pub returns-clause-app : goal.returns-clause-app
returns-clause-app c = optioned c.with_option-2.result c.in_ok-placed.placed _ least_part_rule (c.in_ok-placed.ensures.app ∙ ap (λ (app : App). with_rule app region_rule) c.new.ensures.app) c.with_option-2.ensures.app

pub returns-clause-local : goal.returns-clause-local
returns-clause-local c = kept_local c.with_option-2.result c.in_ok-placed.placed (c.in_ok-placed.ensures.local ∙ c.new.ensures.local) c.with_option-2.ensures.local
