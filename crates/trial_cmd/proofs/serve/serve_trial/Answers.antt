use Rattle.std.proofs.Common.{◌∙◌, ap}
use Rattle.gate_base.specs.ListTold.{draws_from}
use Rattle.gate_base.specs.MemLine.{model_of}
use Rattle.trial_cmd.proofs.Causes.{talks_by}
use Rattle.trial_cmd.proofs.serve.serve_trial.Goals as goal

pub returns : goal.returns
returns g c = (
  model_of c.in_ok-line.line,
  c.in_ok-line.ensures,
  talks_by c.in_ok-service.ensures (c.new-clock.ensures ∙ c.in_ok-trial_moments.ensures.value) (c.new-draws.ensures ∙ ap draws_from c.new.ensures) c.serve_trial_line.ensures,
)
