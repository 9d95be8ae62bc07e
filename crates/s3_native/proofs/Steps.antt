-- A step in which nothing is chosen.
use Rattle.std.specs.Prelude.{◌≡◌}
use Rattle.s3_machine.specs.declared.operation.Label.{Label}
use Rattle.s3_machine.specs.declared.operation.Op.{Op}
use Rattle.s3_machine.specs.declared.operation.Reply.{Reply}
use Rattle.s3_machine.specs.declared.operation.Settings.{Settings}
use Rattle.s3_machine.specs.Parts.{choice_of_id}
use Rattle.s3_machine.specs.State.{State}
use Rattle.s3_machine.specs.Step.{S3Step, IsFree, step}

pub plain : (settings : Settings) (old : State) (op : Op) (label : Label) (reply : Reply) (new : State) → IsFree old op (choice_of_id 0)
    → reply ≡ (step settings old op label (choice_of_id 0)).reply → new ≡ (step settings old op label (choice_of_id 0)).state → S3Step settings old op label reply new
plain settings old op label reply new free replies goes = record { choice = choice_of_id 0; free = free; replies = replies; goes = goes }
