use Rattle.std.proofs.Common.{◌≡◌, ◌∙◌, ◌++◌, ◌∷◌, [], refl, ap}
use Rattle.gate_base.specs.MemLine.{model_of, transcript_of}
use Rattle.gate_base.specs.Transcript.{empty}
use Rattle.trial_cmd.proofs.Lines.{begun_line}
use Rattle.trial_cmd.proofs.given.trial_line.Goals as goal

pub returns-in-Ok-true : goal.returns-in-Ok-true
returns-in-Ok-true c =
    let input = c.in_ok-trial_input.field-0 in
    let pushed = c.in_ok-push.ensures.ok ∙ ap (λ texts. texts ++ input ∷ []) c.new-connections.ensures in
    let waits : transcript_of c.in_ok-line.line ≡ record empty { waiting = input ∷ [] } = c.in_ok-line.ensures.transcript ∙ ap (λ texts. record empty { waiting = texts }) pushed in
    begun_line c.args.number c.args.requests input (model_of c.in_ok-line.line) (model_of c.begin_trial_connection.new.line) c.in_ok-trial_input.ensures waits refl
    (rw c.in-Ok-true.field-0-test at c.in-Ok-true.ensures)
