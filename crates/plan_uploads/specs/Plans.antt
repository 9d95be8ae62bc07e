-- What is given of an upload that is created, what a plan leaves beside the state, and the replies by what the last calls told.
-- Source: this profile.
use Rattle.std.specs.Prelude.{◌≡◌, ℕ, Bool, List, Some, Result, Ok, Err}
use Rattle.gate_base.specs.declared.page.Pair.{Pair}
use Rattle.s3_names.specs.declared.acl.Acl.{Acl}
use Rattle.s3_names.specs.Id.{id_digits}
use Rattle.s3_machine.specs.declared.items.PartItem.{PartItem}
use Rattle.s3_machine.specs.declared.items.UploadItem.{UploadItem}
use Rattle.s3_machine.specs.declared.operation.Label.{Label}
use Rattle.s3_machine.specs.declared.operation.Op.{Op}
use Rattle.s3_machine.specs.declared.operation.Op.TheVariants.{OnUploads}
use Rattle.s3_machine.specs.declared.operation.UploadsOp.TheVariants as uploads_op
use Rattle.s3_machine.specs.declared.operation.Reply.{Reply}
use Rattle.s3_machine.specs.Replies as reply
use Rattle.swift_calls.specs.Account.{SwiftAccount}
use Rattle.swift_calls.specs.History.{History}
use Rattle.upload_records.specs.Native.{IsSettled, s3_state}
use Rattle.upload_records.specs.Consistent.{IsThere}
use Rattle.account_calls.specs.declared.fault.PlanFault.{PlanFault}
use Rattle.account_calls.specs.declared.fault.PlanFault.TheVariants.{Failed, Memory, Inconsistent}
use Rattle.account_calls.specs.Answers.{Beside, IsFirstFree, SaysBeside}
use Rattle.account_calls.specs.Calls.{Met, TellsBucket}
use Rattle.account_calls.specs.Plan.{reply_of}
use Rattle.account_calls.specs.declared.state.Known.{Known}
use Rattle.upload_calls.specs.Records.{StandsOpen, StandsPart}
use Rattle.plan_uploads.specs.Completing.{BrokeOff, ToldOrStands, known_after_completion}
use Rattle.plan_uploads.specs.declared.operation.Replied.{Replied}

-- ---- an upload that is created

-- the bucket is there with this access control list, and the id is its first free one from the word of chance on
pub record MayStart (bucket : List ℕ) (acl : Acl) (draw id : ℕ) (tree : SwiftAccount) : Type 0 where
  pub settled : IsSettled tree
  pub there : IsThere tree bucket
  pub listed : TellsBucket bucket (s3_state tree) (Some acl)
  pub first : IsFirstFree tree bucket draw (id_digits id)

-- ---- what is left beside the state

-- the calls of a plan, or of the rest of one, leave the account so, where this is given of the account that they begin on
pub record LeavesBeside (what : Beside) (label : Label) (old new : History) (given : SwiftAccount → Type 0) (end : Result Reply PlanFault) : Type 0 where
  pub says : Met given old → SaysBeside what label new old.called new.called (reply_of end)

-- ---- why it is unsure whether a completion is sealed

-- over every store, after an operation on uploads it is unsure only by the fault by which the calls of a completion broke off
pub record UnsureBy (old new : History) (replied : Replied) : Type 0 where
  pub known : replied.known ≡ known_after_completion replied.unfinished
  pub by : BrokeOff replied.unfinished old.faults new.faults replied.reply

-- ---- the replies

-- the reply to ListParts, by what its pages told
abbrev pub parts_told : List ℕ → List ℕ → ℕ → ℕ → ℕ → List PartItem × Bool → Reply
parts_told bucket key id marker max told = reply.Parts bucket key id marker max told.0 told.1

-- the reply to ListUploads, by what its calls told
abbrev pub uploads_told : List ℕ → List ℕ → List ℕ → List ℕ → ℕ → Bool → List UploadItem × Bool → Reply
uploads_told bucket prefix key_marker id_marker max url told = reply.Uploads bucket prefix key_marker id_marker max url told.0 told.1

-- the end of AbortUpload behind the call that commits. That the store failed there is no failure of the operation
abbrev pub gone_behind : Result (Unit {0}) PlanFault → Result Reply PlanFault
gone_behind (Ok done) = Ok reply.Gone
gone_behind (Err Failed) = Ok reply.Gone
gone_behind (Err Memory) = Err Memory
gone_behind (Err Inconsistent) = Err Inconsistent

-- ---- what stands, over every observable store, whether its account is consistent or not

-- the file of the record of an upload that was started so stands
pub record StandsStarted (bucket key content_type : List ℕ) (meta : List Pair) (moment : ℕ) (tree : SwiftAccount) : Type 0 where
  pub id : ℕ
  pub record_stands : StandsOpen bucket id key content_type meta moment tree

-- what an operation that was done leaves where it stands, by what is known of the store then; of one that puts no file nothing is
-- said
abbrev pub UploadStands : Op → Label → Known → History → History → SwiftAccount → Type 0
UploadStands (OnUploads (uploads_op.CreateUpload start)) label known old new tree = StandsStarted start.bucket start.key start.described.content_type start.described.meta label.moment tree
UploadStands (OnUploads (uploads_op.UploadPart part)) label known old new tree = StandsPart part.bucket part.id part.number part.body label.moment tree
UploadStands (OnUploads (uploads_op.CompleteUpload done)) label known old new tree = ToldOrStands known done.bucket done.key done.list label.moment old new tree
UploadStands _ label known old new tree = Unit {0}
