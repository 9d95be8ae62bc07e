use Rattle.std.proofs.Common.{◌∙◌, ap, codes}
use Rattle.clap.specs.Simple.{App, new_app, with_rule}
use Rattle.gateway_cli.specs.Description.{expires_rule}
use Rattle.gateway_cli.proofs.DescriptionLemmas.{optioned, kept_local}
use Rattle.gateway_cli.proofs.description.presign_description.Goals as goal

pub returns-clause-app : goal.returns-clause-app
returns-clause-app c = optioned c.with_option.result c.in_ok-signer.signer _ expires_rule c.in_ok-signer.ensures.app c.with_option.ensures.app

pub returns-clause-local : goal.returns-clause-local
returns-clause-local c = kept_local c.with_option.result c.in_ok-signer.signer c.in_ok-signer.ensures.local c.with_option.ensures.local
