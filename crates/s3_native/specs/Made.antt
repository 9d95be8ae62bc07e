-- What copies and completions come to, by what is made for them before the state changes, or by the code that refuses them. Source:
-- this profile.
use Rattle.std.specs.Prelude.{ℕ, true, false, List, Result, Ok, Err}
use Rattle.gate_base.specs.Maps.{adjust}
use Rattle.s3_machine.specs.declared.code.Code.{Code}
use Rattle.s3_machine.specs.declared.operation.Label.{Label}
use Rattle.s3_machine.specs.declared.operation.ObjectCopy.{ObjectCopy}
use Rattle.s3_machine.specs.declared.operation.Op.{Op}
use Rattle.s3_machine.specs.declared.operation.PartCopy.{PartCopy}
use Rattle.s3_machine.specs.declared.operation.Settings.{Settings}
use Rattle.s3_machine.specs.declared.operation.UploadCompletion.{UploadCompletion}
use Rattle.s3_machine.specs.Replies.{Completed, Copied}
use Rattle.s3_machine.specs.ETag.{body_etag}
use Rattle.s3_machine.specs.State.{Completion, Object, State}
use Rattle.s3_machine.specs.Step.{Outcome, S3Step, gives, put_object, refuses}
use Rattle.s3_machine.specs.Uploads.{new_part, on_upload, with_part}
use Rattle.s3_native.specs.Native.{closed}

-- a step with this reply, to this state
abbrev pub StepsTo : Settings → State → Op → Label → Outcome → Type 0
StepsTo settings old op label outcome = S3Step settings old op label outcome.reply outcome.state

-- CopyObject by the copy that was made
abbrev pub copied_to : State → ObjectCopy → ℕ → Result Object Code → Outcome
copied_to old copy moment (Ok made) = gives (Copied false made.etag moment) (adjust copy.bucket (put_object copy.key made) old)
copied_to old copy moment (Err code) = refuses code old

-- CopyPart by the bytes that were copied
abbrev pub part_copied_to : State → PartCopy → ℕ → Result (List ℕ) Code → Outcome
part_copied_to old copy moment (Ok bytes) =
    gives (Copied true (body_etag bytes) moment) (adjust copy.bucket (on_upload copy.id (with_part copy.number (new_part moment bytes))) old)
part_copied_to old copy moment (Err code) = refuses code old

-- CompleteUpload by the ETag, the object and what is kept of it
abbrev pub completed_to : State → UploadCompletion → Result (List ℕ × Object × Completion) Code → Outcome
completed_to old done (Ok made) = gives (Completed done.bucket done.key made.0) (adjust done.bucket (closed done.key done.id made.1 made.2) old)
completed_to old done (Err code) = refuses code old
