use Rattle.std.proofs.Common.{ap, ◌∙◌}
use Rattle.clap.specs.Simple.{app_of_fields, on_top}
use Rattle.store_cmd.specs.Words.{with_settings}
use Rattle.store_cmd.proofs.words.store_command_without_options.Goals as goal

pub returns : goal.returns
returns c = ap app_of_fields c.no_binary_name.ensures ∙ ap (on_top with_settings) c.new.ensures.app
