-- The id that a new upload is given. Source: this profile.
use Rattle.s3_machine.specs.declared.operation.Reply.TheVariants.{OfUploads}
use Rattle.s3_machine.specs.declared.operation.UploadsReply.TheVariants as uploads_reply
use Rattle.std.specs.Prelude.{◌≡◌, ◌<◌, ◌+◌, ◌%◌, ◌^◌, ℕ, List, Some, Result, IfOk}
use Rattle.std.specs.FinMap.{get}
use Rattle.s3_machine.specs.State.{Bucket, State}
use Rattle.s3_machine.specs.Step.{IsNewId}
use Rattle.s3_machine.specs.declared.operation.Label.{Label}
use Rattle.s3_machine.specs.declared.operation.Op.{Op}
use Rattle.s3_machine.specs.declared.operation.Op.TheVariants.{OnUploads}
use Rattle.s3_machine.specs.declared.operation.UploadsOp.TheVariants as uploads_op
use Rattle.s3_machine.specs.declared.operation.Reply.{Reply}

-- the first id from the word of chance on that is neither open nor kept in the bucket; 2^128 are told apart
pub record IsFirstNewId (b : Bucket) (draw id : ℕ) : Type 0 where
  pub tries : ℕ
  pub is : id ≡ (draw + tries) % 2 ^ 128
  pub new : IsNewId b id
  pub before : (n : ℕ) → n < tries → IsNewId b ((draw + n) % 2 ^ 128) → ⊥

-- a reply that an upload was opened tells the first id that is new in the bucket
abbrev pub TellsFirstId : State → List ℕ → ℕ → Reply → Type 0
TellsFirstId old bucket draw (OfUploads (uploads_reply.Started started)) = (b : Bucket) → get old bucket ≡ Some b → IsFirstNewId b draw started.id
TellsFirstId old bucket draw reply = Unit {0}

-- an upload that is opened has the first id from the word of chance on that is neither open nor kept in its bucket; of any other
-- operation nothing is said
abbrev pub GivesFirstId : {E : Type 0} → State → Op → Label → Result Reply E → Type 0
GivesFirstId old (OnUploads (uploads_op.CreateUpload start)) label result = IfOk result (TellsFirstId old start.bucket label.draw)
GivesFirstId old op label result = Unit {0}
