-- What a copy is of, and what it tells, over every observable store.
use Rattle.std.specs.Prelude.{◌≡◌, ◌<◌, ℕ, false, IsTrue, List, length, Option, None, Some, IfSome, Result, Ok, Err, IfOk}
use Rattle.std.proofs.Common.{refl, sym, ap, subst, arith}
use Rattle.s3_machine.specs.declared.only_if.OnlyIf.{OnlyIf}
use Rattle.s3_machine.specs.declared.operation.ObjectHead.{ObjectHead}
use Rattle.s3_machine.specs.declared.operation.Op.{Op}
use Rattle.s3_machine.specs.declared.operation.Op.TheVariants.{OnCopies, OnObjects, OnUploads}
use Rattle.s3_machine.specs.declared.operation.Op.TheVariants as op_as
use Rattle.s3_machine.specs.declared.operation.CopiesOp.{CopiesOp}
use Rattle.s3_machine.specs.declared.operation.CopiesOp.TheVariants as copies_op
use Rattle.s3_machine.specs.declared.operation.ObjectsOp.TheVariants as objects_op
use Rattle.s3_machine.specs.declared.operation.UploadsOp.TheVariants as uploads_op
use Rattle.s3_machine.specs.Ops as op
use Rattle.s3_machine.specs.declared.operation.Described.{Described}
use Rattle.s3_machine.specs.declared.operation.Reply.{Reply}
use Rattle.s3_machine.specs.Replies.{Copied}
use Rattle.s3_machine.specs.declared.reading.Conditions.{Conditions}
use Rattle.s3_names.specs.declared.acl.Acl.{Acl}
use Rattle.swift_calls.specs.Account.{SwiftAccount}
use Rattle.swift_calls.specs.History.{History, present}
use Rattle.account_calls.specs.declared.fault.PlanFault.{PlanFault}
use Rattle.account_calls.specs.declared.fault.PlanFault.TheVariants.{Failed, Memory, Inconsistent}
use Rattle.account_calls.specs.Answers.{beside_of, nothing_beside}
use Rattle.account_calls.specs.Calls.{GivesUnchanged, IsStoredAs}
use Rattle.account_calls.specs.Plan.{ended, reply_of}
use Rattle.account_calls.specs.Refusals.{Unrefused, is_refusal}
use Rattle.account_calls.specs.Told.{LeavesAccount}
use Rattle.many_keys.specs.CopiedPart.{IsOfSource, OfCopiedSource}
use Rattle.many_keys.specs.Copies.{CopiesStored, IsOfStored, OfStored, TellsCopied, body_due}
use Rattle.many_keys.specs.Replies.{AnswersCopy, is_copy_reply}

-- ---- what is told

-- the end of a copy after its last call
pub told_ended : {etag other : List ℕ} (moment : ℕ) → etag ≡ other → (end : Result (Unit {0}) PlanFault) → TellsCopied other moment (ended end (λ done. Copied false etag moment))
told_ended moment same (Ok done) = ap (λ e. Copied false e moment) same
told_ended moment same (Err fault) = tt

module _ (etag : List ℕ) (moment : ℕ) where
  -- it is no refusal, and a reply to a copy
  pub told_unrefused : (end : Result Reply PlanFault) → TellsCopied etag moment end → Unrefused end
  told_unrefused (Ok reply) told = ap is_refusal told
  told_unrefused (Err fault) told = tt

  pub told_kind : (end : Result Reply PlanFault) → TellsCopied etag moment end → AnswersCopy end
  told_kind (Ok reply) told = ap is_copy_reply told
  told_kind (Err fault) told = tt

-- ---- what is read

-- what is done by bytes that were given is done of the file that HEAD told of
pub of_file : {T : Type 0} (h : History) (bucket key : List ℕ) (size : ℕ) {etag other : List ℕ} {told : Option (List ℕ)} {body : List ℕ} → etag ≡ other → told ≡ Some body
    → GivesUnchanged h bucket key etag size (Ok told) → (result : Result T PlanFault) → OfStored h bucket key other size result
of_file h bucket key size {etag = etag} same is unchanged (Ok done) observable =
    subst (λ e. IsStoredAs (present h) bucket key e size) same (subst (λ t. IfSome t (λ bytes. IsStoredAs (present h) bucket key etag size)) is (unchanged observable))
of_file h bucket key size same is unchanged (Err fault) observable = tt

pub of_body : (h : History) (bucket key : List ℕ) {etag : List ℕ} (head : ObjectHead) (told : Option (List ℕ)) → etag ≡ head.etag → GivesUnchanged h bucket key etag head.size (Ok told)
    → (result : Result (List ℕ) PlanFault) → result ≡ body_due head told → OfStored h bucket key head.etag head.size result
of_body h bucket key head None same unchanged result due observable =
    subst (λ r. IfOk r (λ bytes. IsStoredAs (present h) bucket key head.etag head.size)) (sym due) tt
of_body h bucket key head (Some body) same unchanged result due observable = of_file h bucket key head.size same (λ i. Some body) unchanged result observable

-- ---- what is copied

module _ {h : History} {bucket key : List ℕ} (etag : List ℕ) (moment : ℕ) where
  -- an object in one piece
  pub copied_of : {size : ℕ} → (IsTrue h.observable → IsStoredAs (present h) bucket key etag size) → (end : Result Reply PlanFault) → TellsCopied etag moment end → CopiesStored h bucket key end
  copied_of {size = size} stored (Ok reply) told = record { so = λ observable. subst (IsOfStored (present h) bucket key) (sym told) (λ short. (size, stored observable)) }
  copied_of stored (Err fault) told = record { so = λ observable. tt }

  -- of one of parts nothing is asked
  pub copied_of_parts : 32 < length etag → (end : Result Reply PlanFault) → TellsCopied etag moment end → CopiesStored h bucket key end
  copied_of_parts long (Ok reply) told = record { so = λ observable. subst (IsOfStored (present h) bucket key) (sym told) (λ short. absurd (omega (arith, long, short))) }
  copied_of_parts long (Err fault) told = record { so = λ observable. tt }

-- behind calls that left the account
pub copied_behind : {a b : History} {bucket key : List ℕ} → LeavesAccount a b → (IsTrue a.observable → IsTrue b.observable) → (end : Result Reply PlanFault) → CopiesStored b bucket key end → CopiesStored a bucket key end
copied_behind {bucket = bucket} {key = key} leaves on (Ok reply) has = record { so = λ observable. subst (λ tree. IsOfStored tree bucket key reply) (leaves observable) (has.so (on observable)) }
copied_behind leaves on (Err fault) has = record { so = λ observable. tt }

-- ---- by the operation

-- of a copy nothing is asked of the account beside the state
pub none_beside : (op : CopiesOp) → beside_of (OnCopies op) ≡ nothing_beside
none_beside (copies_op.CopyObject copy) = refl
none_beside (copies_op.CopyPart copy) = refl

pub of_copied : {h : History} {bucket key from_bucket from_key : List ℕ} {acl : Option Acl} {replaced : Option Described} {conditions : Conditions} {only_if : OnlyIf} (end : Result Reply PlanFault) → CopiesStored h from_bucket from_key end
    → OfCopiedSource (op.CopyObject bucket key acl from_bucket from_key replaced conditions only_if) h end
of_copied (Ok reply) has = record { so = has.so }
of_copied (Err fault) has = record { so = λ observable. tt }

pub of_part : {h : History} {bucket key id from_bucket from_key : List ℕ} {number : ℕ} {range : Option (ℕ × ℕ)} {conditions : Conditions} (end : Result Reply PlanFault)
    → OfCopiedSource (op.CopyPart bucket key id number from_bucket from_key range conditions) h end
of_part (Ok reply) = record { so = λ observable. tt }
of_part (Err fault) = record { so = λ observable. tt }

-- what is said of no source is said of no operation
unsaid : (operation : Op) (tree : SwiftAccount) (reply : Reply) → ((bucket key : List ℕ) → IsOfStored tree bucket key reply) → IsOfSource operation tree reply
unsaid (OnObjects (objects_op.ListBuckets asked)) tree reply so = tt
unsaid (OnObjects (objects_op.CreateBucket made)) tree reply so = tt
unsaid (OnObjects (objects_op.DeleteBucket bucket)) tree reply so = tt
unsaid (OnObjects (objects_op.HeadBucket bucket)) tree reply so = tt
unsaid (OnObjects (objects_op.GetLocation bucket)) tree reply so = tt
unsaid (OnObjects (objects_op.GetBucketAcl bucket)) tree reply so = tt
unsaid (OnObjects (objects_op.PutBucketAcl set)) tree reply so = tt
unsaid (OnObjects (objects_op.ListObjects list)) tree reply so = tt
unsaid (OnObjects (objects_op.PutObject put)) tree reply so = tt
unsaid (op_as.GetObject read) tree reply so = tt
unsaid (OnObjects (objects_op.HeadObject read)) tree reply so = tt
unsaid (OnObjects (objects_op.DeleteObject deletion)) tree reply so = tt
unsaid (OnObjects (objects_op.GetObjectAcl name)) tree reply so = tt
unsaid (OnObjects (objects_op.PutObjectAcl set)) tree reply so = tt
unsaid (OnObjects (objects_op.GetSetting read)) tree reply so = tt
unsaid (OnUploads (uploads_op.ListUploads list)) tree reply so = tt
unsaid (OnUploads (uploads_op.CreateUpload start)) tree reply so = tt
unsaid (OnUploads (uploads_op.UploadPart part)) tree reply so = tt
unsaid (OnUploads (uploads_op.ListParts list)) tree reply so = tt
unsaid (OnUploads (uploads_op.CompleteUpload done)) tree reply so = tt
unsaid (OnUploads (uploads_op.AbortUpload upload)) tree reply so = tt
unsaid (OnObjects (objects_op.DeleteObjects many)) tree reply so = tt
unsaid (OnCopies (copies_op.CopyObject copy)) tree reply so = so copy.from_bucket copy.from_key
unsaid (OnCopies (copies_op.CopyPart copy)) tree reply so = tt

-- the reply, by the end of its plan
pub source_reply : (operation : Op) (h : History) (end : Result Reply PlanFault) → OfCopiedSource operation h end → IsTrue h.observable → IsOfSource operation (present h) (reply_of end)
source_reply operation h (Ok reply) has observable = has.so observable
source_reply operation h (Err Failed) has observable = unsaid operation (present h) (reply_of (Err Failed)) (λ bucket key. tt)
source_reply operation h (Err Memory) has observable = unsaid operation (present h) (reply_of (Err Memory)) (λ bucket key. tt)
source_reply operation h (Err Inconsistent) has observable = unsaid operation (present h) (reply_of (Err Inconsistent)) (λ bucket key. tt)
