-- What the calls of one operation may amount to. It stands between two numbers of calls, over an account that is
-- consistent at the first. Source: this profile.
use Rattle.s3_machine.specs.declared.operation.Reply.TheVariants.{OfUploads}
use Rattle.s3_machine.specs.declared.operation.UploadsReply.TheVariants as uploads_reply
use Rattle.std.specs.Prelude.{◌≡◌, ◌<◌, ◌≤◌, ◌⊎◌, ℕ, suc, ◌+◌, ◌*◌, ◌/◌, ◌%◌, ◌^◌, min, nat_lt, Bool, true, false, cond, List, [], ◌∷◌, ◌++◌, length, map, take, is_some, Option, None, Some}
use Rattle.std.specs.FinMap.{entries, get, len}
use Rattle.std.specs.List.{filter}
use Rattle.std.specs.Option.{unwrap_or}
use Rattle.gate_base.specs.Maps.{Names}
use Rattle.s3_machine.specs.declared.code.Code.{Code}
use Rattle.s3_machine.specs.declared.code.Code.TheVariants.{ServiceUnavailable, InconsistentStore}
use Rattle.s3_machine.specs.declared.operation.Label.{Label}
use Rattle.s3_machine.specs.declared.operation.Settings.{Settings}
use Rattle.s3_machine.specs.Uploads.{kept_as}
use Rattle.s3_machine.specs.declared.operation.Listed.{Listed}
use Rattle.s3_machine.specs.declared.operation.Op.{Op}
use Rattle.s3_machine.specs.declared.operation.Op.TheVariants.{GetObject, OnObjects, OnUploads, OnCopies}
use Rattle.s3_machine.specs.declared.operation.ObjectsOp.{ObjectsOp}
use Rattle.s3_machine.specs.declared.operation.ObjectsOp.TheVariants.{
  ListBuckets,
  CreateBucket,
  DeleteBucket,
  HeadBucket,
  GetLocation,
  GetBucketAcl,
  PutBucketAcl,
  ListObjects,
  PutObject,
  HeadObject,
  DeleteObject,
  DeleteObjects,
  GetObjectAcl,
  PutObjectAcl,
  GetSetting,
}
use Rattle.s3_machine.specs.declared.operation.UploadsOp.{UploadsOp}
use Rattle.s3_machine.specs.declared.operation.UploadsOp.TheVariants.{ListUploads, CreateUpload, UploadPart, ListParts, CompleteUpload, AbortUpload}
use Rattle.s3_machine.specs.declared.operation.CopiesOp.{CopiesOp}
use Rattle.s3_machine.specs.declared.operation.CopiesOp.TheVariants.{CopyObject, CopyPart}
use Rattle.s3_machine.specs.Ops as ops
use Rattle.s3_machine.specs.declared.operation.Reply.{Reply}
use Rattle.s3_machine.specs.declared.operation.Reply.TheVariants.{Refused, Memory, Gone}
use Rattle.s3_machine.specs.Replies.{Stored}
use Rattle.s3_machine.specs.declared.only_if.OnlyIf.{OnlyIf}
use Rattle.s3_machine.specs.declared.only_if.OnlyIf.TheVariants.{Always, Missing}
use Rattle.s3_machine.specs.OnlyIf.{is_always}
use Rattle.s3_machine.specs.Items.{begins}
use Rattle.s3_machine.specs.Laws.{Claim}
use Rattle.s3_machine.specs.State.{Object, Bucket, Completion, Upload, State}
use Rattle.s3_machine.specs.Step.{S3Step, head_of, listing}
use Rattle.s3_machine.specs.declared.items.Asked.{Asked}
use Rattle.s3_machine.specs.Reading.{judged}
use Rattle.s3_machine.specs.declared.reading.Conditions.{Conditions}
use Rattle.s3_machine.specs.declared.reading.Judged.{Judged}
use Rattle.s3_machine.specs.declared.reading.Judged.TheVariants.{Bytes}
use Rattle.s3_machine.specs.declared.reading.Range.{Range}
use Rattle.slo_manifest.specs.declared.Segment.{Segment}
use Rattle.swift_calls.specs.Account.{SwiftAccount, SwiftObject, files, find_object}
use Rattle.swift_calls.specs.Bodies as bodies
use Rattle.swift_calls.specs.History.{History, budget, FaultFree}
use Rattle.s3_names.specs.Id.{id_digits}
use Rattle.upload_records.specs.Layout.{uploads_name, segments_name}
use Rattle.upload_records.specs.Native.{object_at, s3_state, seal_of, sub_manifests, sub_manifests_of}
use Rattle.upload_records.specs.Consistent.{IsConsistent}
use Rattle.account_calls.specs.Calls.{Bound, always, by_account}
use Rattle.account_calls.specs.Keys.{objects_in}
use Rattle.account_calls.specs.Shows.{Shows, alone, in_upload, in_upload_with_source, with_source}
use Rattle.account_calls.specs.Stutters.{OldBefore, calm, LastFailed}

-- ---- how many calls it makes

-- the pages of 1000 names that list so many names: the last of them is shorter
abbrev pub pages : ℕ → ℕ
pages names = names / 1000 + 1

-- how many items and common prefixes a listing of a bucket shows
abbrev pub items_shown : List ℕ → Asked → State → ℕ
items_shown bucket asked state = length (listing asked (objects_in (get state bucket))).0

-- the pages of names that a listing asks for: all that the bucket has, or one more than it shows items, since each but the last
-- shows another item
abbrev pub pages_listed : List ℕ → Asked → SwiftAccount → ℕ
pages_listed bucket asked tree = min (pages (len (files tree bucket))) (items_shown bucket asked (s3_state tree) + 1)

-- how many records, and how many segments, stand beside a bucket
abbrev pub records_of : SwiftAccount → List ℕ → ℕ
records_of tree bucket = len (files tree (uploads_name bucket))

abbrev pub segments_of : SwiftAccount → List ℕ → ℕ
segments_of tree bucket = len (files tree (segments_name bucket))

-- how many of the segments are named by this id
abbrev pub named_by : SwiftAccount → List ℕ → List ℕ → ℕ
named_by tree bucket id = length (filter (λ entry. begins (id ++ (47 ∷ [])) entry.0) (entries (files tree (segments_name bucket))))

-- the segments that a file lists: none, where it has bytes of its own
abbrev pub listed_in : Option SwiftObject → List Segment
listed_in None = []
listed_in (Some file) = unwrap_or (bodies.listed_in file.content) []

-- how many segments are listed, by themselves and through the sub-manifests among them
unfoldable pub listed_twice : Names SwiftObject → List Segment → ℕ
listed_twice segments [] = 0
listed_twice segments (s ∷ list) = 1 + length (listed_in (get segments s.name)) + listed_twice segments list

-- how many segments the file of a key lists: its own, and those that its sub-manifests list
abbrev pub listed_by : SwiftAccount → List ℕ → List ℕ → ℕ
listed_by tree bucket key = listed_twice (files tree (segments_name bucket)) (listed_in (find_object tree bucket key))

-- an object that has an ETag of parts
abbrev pub is_of_parts : Option Object → Bool
is_of_parts None = false
is_of_parts (Some o) = nat_lt 32 (length o.etag)

-- the calls of a copy: n where its source was put in one piece; of one that has an ETag of parts two more, two for each record and
-- each segment beside the bucket, and two for each segment that the source lists, the parts and the sub-manifests
abbrev pub copy_calls : ℕ → SwiftAccount → List ℕ → List ℕ → List ℕ → ℕ
copy_calls n tree bucket from_bucket from_key =
    cond (is_of_parts (object_at (get (s3_state tree) from_bucket) from_key))
    (n + 2 + 2 * (records_of tree bucket + segments_of tree bucket) + 2 * listed_by tree from_bucket from_key) n

-- the calls of a completion: two where the same one is kept, and else n
abbrev pub kept_in : Option Bucket → List ℕ → Option Completion
kept_in None id = None
kept_in (Some b) id = get b.kept id

abbrev pub completion_calls : ℕ → State → List ℕ → List ℕ → List ℕ → List Listed → ℕ
completion_calls n state bucket key id list = cond (is_some (kept_as key list (kept_in (get state bucket) id))) 2 n

-- the calls by which a write asks what stands under its key: one, where it has a condition
abbrev pub condition_calls : OnlyIf → ℕ
condition_calls only_if = cond (is_always only_if) 0 1

-- how many pieces so many bytes are sent in: each has 1 MiB, but for the last
abbrev pub pieces : ℕ → ℕ
pieces bytes = (bytes + 1048575) / 1048576

-- how many bytes a read of an object gives: none where it is missing, and none of a reply without bytes
abbrev pub judged_length : Judged → ℕ
judged_length (Bytes span partial) = span.length
judged_length judged = 0

abbrev pub read_length : Option Object → Option Range → Conditions → ℕ
read_length None range conditions = 0
read_length (Some o) range conditions = judged_length (judged range conditions (head_of o))

-- a code that speaks of the store below
abbrev pub is_of_store : Code → Bool
is_of_store ServiceUnavailable = true
is_of_store InconsistentStore = true
is_of_store code = false

-- whether a completion may be sealed after it was answered so: where it was done, or where it broke off
abbrev pub may_be_sealed : Reply → Bool
may_be_sealed (OfUploads (uploads_reply.Completed completed)) = true
may_be_sealed Memory = true
may_be_sealed (Refused code) = is_of_store code
may_be_sealed reply = false

-- the greatest number of calls by which a store is settled, by the account as it began
abbrev pub most_settling : SwiftAccount → Bound
most_settling tree = by_account (5 + sub_manifests_of (seal_of tree))

-- what is asked of the account beside the state, by the operation: nothing; that an upload which it opens in the bucket has the
-- first free id; or that, once it is gone, its segments are cleared away, or the last call failed
pub data Beside : Type 0 where
  nothing_beside : Beside
  opens_in : List ℕ → Beside
  clears : List ℕ → List ℕ → Beside

-- ---- one row an operation

-- what is said of an operation, beside its step
pub record Facts : Type 0 where
  -- the operations on one object each that it counts as, in order: none, where it counts as one step
  pub parts : List Op
  -- whether the state is the old one at each number up to the call that failed
  pub old_if_failed : Bool
  -- and whether it is the old one there, where memory ran out
  pub old_if_out_of_memory : Bool
  -- what is asked of the account beside the state
  pub beside : Beside
  -- the greatest number of its calls, by the account as it began
  pub calls : SwiftAccount → Bound
  -- by how many calls it knows its buckets and its object
  pub shows : Shows
  -- whether no call failed under a reply of the service, by that reply
  pub by_commit : Reply → Bool
  -- whether a completion may be sealed after it, by its reply
  pub unsure : Reply → Bool

-- one step, which ends by its commit and leaves nothing beside it, with so many calls
abbrev pub one_step : (SwiftAccount → Bound) → Facts
one_step calls =
    record {
      parts = [];
      old_if_failed = true;
      old_if_out_of_memory = true;
      beside = nothing_beside;
      calls = calls;
      shows = alone;
      by_commit = λ reply. true;
      unsure = λ reply. false;
    }

-- the same, where the number of calls doesn't go by the account
abbrev pub of_calls : ℕ → Facts
of_calls n = one_step (λ tree. always n)

-- a completion that was done is followed by other calls
abbrev pub is_incomplete : Reply → Bool
is_incomplete (OfUploads (uploads_reply.Completed completed)) = false
is_incomplete reply = true

-- an abort that was done is followed by other calls
abbrev pub is_unaborted : Reply → Bool
is_unaborted Gone = false
is_unaborted reply = true

-- the deletion of one key among many
abbrev pub deletion : List ℕ → List ℕ → Op
deletion bucket key = ops.DeleteObject bucket key Always

-- the operations on buckets and objects
abbrev pub objects_facts : ObjectsOp → Facts
objects_facts (ListBuckets asked) = one_step (λ tree. by_account (pages (len tree) + len (s3_state tree)))
objects_facts (CreateBucket made) = one_step
    (λ tree. by_account (4 + (pages (records_of tree made.bucket) + records_of tree made.bucket) + (pages (segments_of tree made.bucket) + segments_of tree made.bucket)))
objects_facts (DeleteBucket bucket) = of_calls 1
objects_facts (HeadBucket bucket) = of_calls 1
objects_facts (GetLocation bucket) = of_calls 1
objects_facts (GetBucketAcl bucket) = of_calls 1
objects_facts (PutBucketAcl set) = of_calls 1
objects_facts (ListObjects list) = one_step (λ tree. by_account (1 + pages_listed list.bucket list.asked tree))
objects_facts (PutObject put) = of_calls (2 + condition_calls put.only_if)
objects_facts (HeadObject read) = of_calls 2
objects_facts (DeleteObject name) = of_calls (2 + condition_calls name.only_if)
-- some keys may be deleted where it ends early
objects_facts (DeleteObjects many) =
    record (one_step (λ tree. always (1 + length many.keys)))
    { parts = map (deletion many.bucket) many.keys; old_if_failed = false; old_if_out_of_memory = false }
objects_facts (GetObjectAcl name) = of_calls 2
objects_facts (PutObjectAcl set) = of_calls 2
objects_facts (GetSetting read) = of_calls (1 + cond (is_some read.key) 1 0)

-- the operations on uploads in parts
abbrev pub uploads_facts : UploadsOp → Facts
uploads_facts (ListUploads list) = one_step (λ tree. by_account (1 + pages (records_of tree list.bucket) + records_of tree list.bucket))
-- an upload that it opens in the bucket has the first free id
uploads_facts (CreateUpload start) =
    record (one_step (λ tree. by_account (2 + 2 * (records_of tree start.bucket + segments_of tree start.bucket + 1)))) { beside = opens_in start.bucket }
uploads_facts (UploadPart part) = one_step (λ tree. always 3)
uploads_facts (ListParts list) = one_step (λ tree. by_account (2 + pages (named_by tree list.bucket list.id)))
-- its commit is followed by the calls that roll it forward, before which it is sealed
uploads_facts (CompleteUpload done) =
    record (one_step
    (λ tree. by_account
    (completion_calls (6 + condition_calls done.only_if + pages (named_by tree done.bucket done.id) + sub_manifests (length done.list)) (s3_state tree) done.bucket done.key done.id done.list)))
    { shows = in_upload; by_commit = is_incomplete; unsure = may_be_sealed }
-- its commit is followed by the deletions of its parts
uploads_facts (AbortUpload upload) =
    record (one_step (λ tree. by_account (3 + pages (named_by tree upload.bucket upload.id) + named_by tree upload.bucket upload.id)))
    { old_if_out_of_memory = false; beside = clears upload.bucket upload.id; by_commit = is_unaborted }

-- the copies
abbrev pub copies_facts : CopiesOp → Facts
copies_facts (CopyObject copy) =
    record (one_step (λ tree. by_account (copy_calls (5 + condition_calls copy.only_if) tree copy.bucket copy.from_bucket copy.from_key))) { shows = with_source (condition_calls copy.only_if) }
copies_facts (CopyPart copy) = record (one_step (λ tree. always 6)) { shows = in_upload_with_source }

abbrev pub facts_of : Op → Facts
facts_of (GetObject read) = one_step
    (λ tree. by_account (2 + pieces (read_length (object_at (get (s3_state tree) read.bucket) read.key) read.range read.conditions)))
facts_of (OnObjects op) = objects_facts op
facts_of (OnUploads op) = uploads_facts op
facts_of (OnCopies op) = copies_facts op

abbrev pub parts_of : Op → List Op
parts_of op = (facts_of op).parts

abbrev pub is_old_if_failed : Op → Bool
is_old_if_failed op = (facts_of op).old_if_failed

abbrev pub is_old_if_out_of_memory : Op → Bool
is_old_if_out_of_memory op = (facts_of op).old_if_out_of_memory

abbrev pub beside_of : Op → Beside
beside_of op = (facts_of op).beside

abbrev pub most_calls : Op → SwiftAccount → Bound
most_calls op tree = (facts_of op).calls tree

abbrev pub ends_by_commit : Op → Reply → Bool
ends_by_commit op reply = (facts_of op).by_commit reply

abbrev pub may_leave_unsure : Op → Reply → Bool
may_leave_unsure op reply = (facts_of op).unsure reply

-- ---- the steps of an operation

-- how many steps the account takes for an operation: one for each of its parts, and one for the whole
abbrev pub steps_of : Op → ℕ
steps_of op = suc (length (parts_of op))

-- the service goes by these operations, one after another, from the old state to the new one
unfoldable pub StepsThrough : Settings → Label → State → List Op → State → Type 0
StepsThrough settings label old [] new = new ≡ old
StepsThrough settings label old (op ∷ ops) new =
    (middle : State) × (reply : Reply) × S3Step settings old op label reply middle × StepsThrough settings label middle ops new

-- the state after the first n steps of an operation: none was taken, or its first n parts, or the whole
pub data IsStage (settings : Settings) (old : State) (op : Op) (label : Label) (n : ℕ) (new : State) : Type 0 where
  before_step : n ≡ 0 → new ≡ old → IsStage settings old op label n new
  part_way : n ≤ length (parts_of op) → StepsThrough settings label old (take n (parts_of op)) new → IsStage settings old op label n new
  after_step : n ≡ steps_of op → (reply : Reply) → S3Step settings old op label reply new → IsStage settings old op label n new

-- from p to q the account is consistent, and its state goes through the first `takes` steps of the operation, the last of
-- them at t; where it takes none, t is any number between
pub record Passes (settings : Settings) (h : History) (p t q : ℕ) (op : Op) (label : Label) (takes : ℕ) : Type 0 where
  pub after_p : p ≤ t
  pub up_to_q : t ≤ q
  -- how many steps were taken by the number k
  pub stage : ℕ → ℕ
  pub rises : (j k : ℕ) → p ≤ j → j ≤ k → k ≤ q → stage j ≤ stage k
  pub before : 0 < takes → (k : ℕ) → p ≤ k → k < t → stage k < takes
  pub since : (k : ℕ) → t ≤ k → k ≤ q → stage k ≡ takes
  pub is : (k : ℕ) → p ≤ k → k ≤ q → IsStage settings (s3_state (h.account_at p)) op label (stage k) (s3_state (h.account_at k))
  pub sound : (k : ℕ) → p ≤ k → k ≤ q → IsConsistent (h.account_at k)

-- ---- what it is answered

-- the state is the old one at each number before q, if that is asked for
abbrev pub OldIf : Bool → History → ℕ → ℕ → Type 0
OldIf true h p q = OldBefore h p q
OldIf false h p q = Unit {0}

-- the service's own answer, after its step; or ServiceUnavailable, where the last call failed and no earlier one did; or the
-- word that memory ran out
pub data AnswersBy (settings : Settings) (h : History) (p q : ℕ) (op : Op) (label : Label) (takes : ℕ) (reply : Reply) : Type 0 where
  machine : takes ≡ steps_of op → S3Step settings (s3_state (h.account_at p)) op label reply (s3_state (h.account_at q)) → AnswersBy settings h p q op label takes reply
  unavailable : reply ≡ Refused ServiceUnavailable → (failed : LastFailed h p q) → OldIf (is_old_if_failed op) h p (failed.last + 1) → AnswersBy settings h p q op label takes reply
  memory : reply ≡ Memory → OldIf (is_old_if_out_of_memory op) h p q → AnswersBy settings h p q op label takes reply

-- and the state goes through the steps that are taken, consistent at each number; t is the operation's commit point
pub record Answers (settings : Settings) (h : History) (p t q : ℕ) (op : Op) (label : Label) (takes : ℕ) (reply : Reply) : Type 0 where
  pub passes : Passes settings h p t q op label takes
  pub by : AnswersBy settings h p q op label takes reply

-- ---- what it says of the account beside the state

-- an object beside a bucket that is named by this id
abbrev pub IsNamedBy : List ℕ → List ℕ → Type 0
IsNamedBy id name = (rest : List ℕ) × (name ≡ id ++ (47 ∷ rest))

-- the id has a record or a segment beside the bucket
abbrev pub IsTaken : SwiftAccount → List ℕ → List ℕ → Type 0
IsTaken tree bucket id = (is_some (get (files tree (uploads_name bucket)) id) ≡ true)
    ⊎ ((name : List ℕ) × IsNamedBy id name × (is_some (get (files tree (segments_name bucket)) name) ≡ true))

-- the id of that number, of which 2^128 are told apart
abbrev pub id_at : ℕ → List ℕ
id_at n = id_digits (n % 2 ^ 128)

-- the first id that isn't taken, from the word of chance on
pub record IsFirstFree (tree : SwiftAccount) (bucket : List ℕ) (draw : ℕ) (id : List ℕ) : Type 0 where
  pub tries : ℕ
  pub is : id ≡ id_at (draw + tries)
  pub free : IsTaken tree bucket id → ⊥
  pub before : (n : ℕ) → n < tries → IsTaken tree bucket (id_at (draw + n))

abbrev pub upload_at : Option Bucket → List ℕ → Option Upload
upload_at None id = None
upload_at (Some b) id = get b.uploads id

-- the calls from p to q clear the segments that are named by the id away, or the last of them failed
pub record ClearsOrFails (bucket id : List ℕ) (h : History) (p q : ℕ) : Type 0 where
  -- where no call failed, none is left beside the bucket
  pub cleared : FaultFree h p q → (name : List ℕ) → IsNamedBy id name → get (files (h.account_at q) (segments_name bucket)) name ≡ None
  -- no call follows one that failed
  pub last : (h.faults_at q ≡ h.faults_at p) ⊎ LastFailed h p q

-- the calls from p to q, by which an operation was answered, leave the account so
abbrev pub SaysBeside : Beside → Label → History → ℕ → ℕ → Reply → Type 0
SaysBeside nothing_beside label h p q reply = Unit {0}
SaysBeside (opens_in bucket) label h p q reply = (id : List ℕ) → upload_at (get (s3_state (h.account_at p)) bucket) id ≡ None
    → is_some (upload_at (get (s3_state (h.account_at q)) bucket) id) ≡ true → IsFirstFree (h.account_at p) bucket label.draw id
SaysBeside (clears bucket id) label h p q reply = reply ≡ Gone → ClearsOrFails bucket id h p q

-- ---- what the laws say

-- where no call failed, it is the service's own answer, or the word that memory ran out
abbrev pub AnsweredFaultFree : Type 0
AnsweredFaultFree = (settings : Settings) (h : History) (p q : ℕ) (op : Op) (label : Label) (takes : ℕ) (reply : Reply)
    → p ≤ q → FaultFree h p q → AnswersBy settings h p q op label takes reply
    → S3Step settings (s3_state (h.account_at p)) op label reply (s3_state (h.account_at q)) ⊎ (reply ≡ Memory)

-- over a history in which no call failed, with calls left, no operation is answered ServiceUnavailable
abbrev pub NeverUnavailable : Type 0
NeverUnavailable = (settings : Settings) (h : History) (p q : ℕ) (op : Op) (label : Label) (takes : ℕ) (reply : Reply)
    → p ≤ q → q < budget → AnswersBy settings (calm h) p q op label takes reply
    → S3Step settings (s3_state (h.account_at p)) op label reply (s3_state (h.account_at q)) ⊎ (reply ≡ Memory)

-- of two puts that ask that nothing stands under their key, the second of which begins on the state that the first left, at most one is
-- acknowledged, whatever failed. Each reply may have been lost: then it isn't acknowledged
abbrev pub OneAcknowledged : Type 0
OneAcknowledged = (settings : Settings) (h : History) (p t q r u s takes took : ℕ) (bucket key : List ℕ) (one other : Claim) (first second : List ℕ)
    → Answers settings h p t q (ops.PutObject bucket key None one.content_type one.meta one.body Missing one.checksum) one.label takes (Stored first one.checksum)
    → s3_state (h.account_at r) ≡ s3_state (h.account_at q)
    → Answers settings h r u s (ops.PutObject bucket key None other.content_type other.meta other.body Missing other.checksum) other.label took (Stored second other.checksum) → ⊥
