use Rattle.std.proofs.Common.{◌∙◌, ap}
use Rattle.std.proofs.lemmas.Result.{IfOk-weaker}
use Rattle.clap.specs.Simple.{app_of, with_rule}
use Rattle.store_cmd.proofs.words.with_optional_store_option.Goals as goal

pub returns : goal.returns
returns c =
    IfOk-weaker c.arg.result _ _
    (λ more adds. adds.shape c.optional_store_option-option.ensures.local ∙ ap (with_rule (app_of c.args.command)) c.optional_store_option-option.ensures.rule)
    c.arg.ensures
