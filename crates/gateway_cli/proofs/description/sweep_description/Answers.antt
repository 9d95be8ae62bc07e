use Rattle.std.proofs.Common.{◌∙◌, ap, codes}
use Rattle.clap.specs.Simple.{App, new_app, with_rule}
use Rattle.gateway_cli.specs.Description.{forget_before_rule}
use Rattle.gateway_cli.proofs.DescriptionLemmas.{optioned, kept_local}
use Rattle.gateway_cli.proofs.description.sweep_description.Goals as goal

pub returns-clause-app : goal.returns-clause-app
returns-clause-app c = optioned c.with_option.result c.new.result _ forget_before_rule c.new.ensures.app c.with_option.ensures.app

pub returns-clause-local : goal.returns-clause-local
returns-clause-local c = kept_local c.with_option.result c.new.result c.new.ensures.local c.with_option.ensures.local
