use Rattle.std.proofs.Common.{◌∙◌, ap, codes}
use Rattle.clap.specs.Simple.{App, new_app, with_rule}
use Rattle.gateway_cli.specs.Description.{connections_rule}
use Rattle.gateway_cli.proofs.DescriptionLemmas.{optioned, kept_local}
use Rattle.gateway_cli.proofs.description.serve_description.Goals as goal

pub returns-clause-app : goal.returns-clause-app
returns-clause-app c = optioned c.with_option.result c.in_ok-serving.serving _ connections_rule c.in_ok-serving.ensures.app c.with_option.ensures.app

pub returns-clause-local : goal.returns-clause-local
returns-clause-local c = kept_local c.with_option.result c.in_ok-serving.serving c.in_ok-serving.ensures.local c.with_option.ensures.local
