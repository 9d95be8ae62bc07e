use Rattle.std.proofs.Common.{◌≡◌, ◌∙◌, ap, codes}
use Rattle.std.proofs.lemmas.Result.{IfOk-weaker}
use Rattle.clap.specs.Simple.{App, app_of, new_app, on_top, with_rule}
use Rattle.store_cmd.specs.Words.{needed_rule, optional_rule, store_app, with_settings}
use Rattle.store_cmd.proofs.words.describe_store_command.Goals as goal

abbrev settings : App
settings = on_top with_settings (new_app (codes "swiftd"))

pub returns : goal.returns
unfolding store_app
returns c =
    let one : app_of c.in_ok-one.one ≡ with_rule settings (needed_rule (codes "token")) =
    c.in_ok-one.ensures ∙ ap (λ (app : App). with_rule app (needed_rule (codes "token"))) c.store_command_without_options-bare.ensures in
    let two : app_of c.in_ok-two.two ≡ with_rule (with_rule settings (needed_rule (codes "token"))) (needed_rule (codes "account")) =
    c.in_ok-two.ensures ∙ ap (λ (app : App). with_rule app (needed_rule (codes "account"))) one in
    let three : app_of c.in_ok-three.three ≡ with_rule (with_rule (with_rule settings (needed_rule (codes "token"))) (needed_rule (codes "account"))) (needed_rule (codes "connections")) =
    c.in_ok-three.ensures ∙ ap (λ (app : App). with_rule app (needed_rule (codes "connections"))) two in
    IfOk-weaker c.with_optional_store_option.result _ _
    (λ command adds. adds ∙ ap (λ (app : App). with_rule app (optional_rule (codes "file"))) three)
    c.with_optional_store_option.ensures
