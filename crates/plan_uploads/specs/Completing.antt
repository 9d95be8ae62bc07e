-- The completion of an upload: what is found of the upload, which of its parts are listed, the completion that is sealed, and how
-- its calls end. Source: Amazon S3 API Reference, "CompleteMultipartUpload", and this profile.
use Rattle.std.specs.Prelude.{◌≡◌, ◌⊎◌, ◌≤◌, ◌+◌, ℕ, Bool, true, false, T, ◌&&◌, ◌||◌, cond, bytes_eq, nat_lt, List, [], ◌∷◌, map, codes, Option, None, Some, Result, Ok, Err, IfOk}
use Rattle.std.specs.Cmp.Lexicographic.{pointwise}
use Rattle.std.specs.FinMap.{from_entries, get, is_sorted}
use Rattle.std.specs.Ordering.{nat_cmp}
use Rattle.gate_base.specs.Causes.{Rose}
use Rattle.gate_base.specs.Maps.{Numbers}
use Rattle.gate_base.specs.declared.page.Pair.{Pair}
use Rattle.s3_names.specs.Id.{id_digits}
use Rattle.s3_machine.specs.Finish.{finished}
use Rattle.s3_machine.specs.State.{State}
use Rattle.s3_machine.specs.Uploads.{etag_listed, kept_as, same_listed, upload_etag}
use Rattle.s3_machine.specs.declared.code.Code.TheVariants.{InconsistentStore}
use Rattle.s3_machine.specs.declared.items.PartItem.{PartItem}
use Rattle.s3_machine.specs.declared.only_if.OnlyIf.TheVariants.{Always}
use Rattle.s3_machine.specs.declared.operation.Listed.{Listed}
use Rattle.s3_machine.specs.Step.{S3Step}
use Rattle.s3_machine.specs.declared.operation.Label.{Label}
use Rattle.s3_machine.specs.Ops.{CompleteUpload}
use Rattle.s3_machine.specs.declared.operation.Reply.{Reply}
use Rattle.s3_machine.specs.declared.operation.Reply.TheVariants.{Refused}
use Rattle.s3_machine.specs.Replies.{Completed}
use Rattle.s3_machine.specs.declared.operation.Settings.{Settings}
use Rattle.swift_calls.specs.Account.{SwiftAccount, files}
use Rattle.swift_calls.specs.History.{History, present}
use Rattle.swift_calls.specs.declared.calls.SwiftRequest.{SwiftRequest}
use Rattle.swift_calls.specs.Files.{PutObject}
use Rattle.upload_texts.specs.Sealed.{has_sealed_text}
use Rattle.upload_texts.specs.declared.record.Record.{Record}
use Rattle.upload_texts.specs.declared.record.Record.TheVariants.{Open, Done}
use Rattle.upload_texts.specs.declared.sealed.Sealed.{Sealed}
use Rattle.upload_texts.specs.declared.sealed.SealedPart.{SealedPart}
use Rattle.upload_records.specs.Layout.{gateway_name, sealed_name, segments_name, uploads_name}
use Rattle.upload_records.specs.Native.{IsSettled, finished_from, kept_by, parts_of, record_at, s3_state, seal_of}
use Rattle.upload_records.specs.Consistent.{IsThere, SealedIn}
use Rattle.account_calls.specs.Answers.{may_be_sealed}
use Rattle.account_calls.specs.Calls.{always, Becomes, GivenOf, Grows, LacksBucket, Met, Writes}
use Rattle.account_calls.specs.Fault.{CausesFault}
use Rattle.account_calls.specs.Plan.{reply_of}
use Rattle.account_calls.specs.Refusals.{shown_by}
use Rattle.account_calls.specs.Shows.{in_upload}
use Rattle.account_calls.specs.Stutters.{LastFailed}
use Rattle.account_calls.specs.declared.fault.PlanFault.{PlanFault}
use Rattle.account_calls.specs.declared.fault.PlanFault.TheVariants.{Failed, Memory, Inconsistent}
use Rattle.account_calls.specs.declared.state.Known.{Known}
use Rattle.account_calls.specs.declared.state.Known.TheVariants as known
use Rattle.upload_calls.specs.Records.{items_above}
use Rattle.recovery.specs.Rolls.{IsFinished, IsSealed, KeepsGateway}
use Rattle.plan_uploads.specs.declared.completed.Opened.{Opened}
use Rattle.plan_uploads.specs.declared.completed.ToComplete.{ToComplete}
use Rattle.plan_uploads.specs.declared.completed.ToComplete.TheVariants as found
use Rattle.plan_uploads.specs.declared.complete.Completing.{Completing}

-- ---- the upload that a completion is of

-- it is open in the bucket, under the key and under the id that a text writes, and is as it was created
pub record IsOpenAs (bucket key text : List ℕ) (opened : Opened) (tree : SwiftAccount) : Type 0 where
  pub settled : IsSettled tree
  pub there : IsThere tree bucket
  pub is : text ≡ id_digits opened.id
  pub reads : record_at (files tree (uploads_name bucket)) text ≡ Some (Open key opened.content_type opened.meta opened.started)

-- the same completion of it is kept, with this ETag
pub record IsCompleted (bucket key text : List ℕ) (list : List Listed) (etag : List ℕ) (tree : SwiftAccount) : Type 0 where
  pub settled : IsSettled tree
  pub there : IsThere tree bucket
  pub kept : kept_as key list (kept_by (record_at (files tree (uploads_name bucket)) text)) ≡ Some etag

-- the bucket is there, and neither is so
pub record LacksCompletion (bucket key text : List ℕ) (list : List Listed) (tree : SwiftAccount) : Type 0 where
  pub settled : IsSettled tree
  pub there : IsThere tree bucket
  pub unkept : kept_as key list (kept_by (record_at (files tree (uploads_name bucket)) text)) ≡ None
  pub closed : (content_type : List ℕ) (meta : List Pair) (started : ℕ)
      → record_at (files tree (uploads_name bucket)) text ≡ Some (Open key content_type meta started) → ⊥

abbrev pub TellsToComplete : List ℕ → List ℕ → List ℕ → List Listed → SwiftAccount → ToComplete → Type 0
TellsToComplete bucket key text list tree found.NoBucket = LacksBucket bucket (s3_state tree)
TellsToComplete bucket key text list tree found.NoUpload = LacksCompletion bucket key text list tree
TellsToComplete bucket key text list tree (found.Again etag) = IsCompleted bucket key text list etag tree
TellsToComplete bucket key text list tree (found.Open opened) = IsOpenAs bucket key text opened tree

-- what a record says of it
abbrev pub opened_by : List ℕ → List ℕ → ℕ → List ℕ → List Pair → ℕ → ToComplete
opened_by under key id content_type meta started =
    cond (bytes_eq under key) (found.Open (record { id = id; content_type = content_type; meta = meta; started = started })) found.NoUpload

abbrev pub done_by : List ℕ → List ℕ → List Listed → List Listed → List ℕ → ToComplete
done_by under key kept list etag = cond (bytes_eq under key && pointwise same_listed kept list) (found.Again etag) found.NoUpload

abbrev pub to_complete_by : Option Record → List ℕ → ℕ → List Listed → ToComplete
to_complete_by None key id list = found.NoUpload
to_complete_by (Some (Open under content_type meta started)) key id list = opened_by under key id content_type meta started
to_complete_by (Some (Done under kept etag started moment)) key id list = done_by under key kept list etag

-- the bucket is missing
abbrev pub lacks_bucket : ToComplete → Bool
lacks_bucket found.NoBucket = true
lacks_bucket found.NoUpload = false
lacks_bucket (found.Again etag) = false
lacks_bucket (found.Open opened) = false

-- where it is, the first call told so, and none follows
abbrev pub StopsAtBucket : History → History → Result ToComplete PlanFault → Type 0
StopsAtBucket old new result = IfOk result (λ found. lacks_bucket found ≡ true → new.called ≤ old.called + 1)

-- ---- the parts that a completion lists

-- the parts of an upload by their numbers
abbrev pub row_of_part : PartItem → ℕ × PartItem
row_of_part item = (item.number, item)

abbrev pub by_number : List PartItem → Numbers PartItem
by_number items = from_entries {R = nat_cmp} (map row_of_part items)

-- their numbers ascend
unfoldable pub Ascend : List PartItem → Type 0
Ascend items = T (is_sorted nat_cmp (map row_of_part items))

-- the size of a part of the list, where it is there with its ETag
abbrev pub size_of_chosen_part : Option PartItem → List ℕ → Option ℕ
size_of_chosen_part None etag = None
size_of_chosen_part (Some item) etag = cond (bytes_eq item.etag etag) (Some item.size) None

-- it, and then the rest of them
abbrev pub listed_part : Option ℕ → Listed → Option (List SealedPart) → Option (List SealedPart)
listed_part None l rest = None
listed_part (Some size) l None = None
listed_part (Some size) l (Some rest) = Some (record { number = l.number; etag = l.etag; size = size } ∷ rest)

-- the parts that are listed, where each is there with its ETag
unfoldable pub listed_parts : Numbers PartItem → List Listed → Option (List SealedPart)
listed_parts parts [] = Some []
listed_parts parts (l ∷ list) = listed_part (size_of_chosen_part (get parts l.number) l.etag) l (listed_parts parts list)

-- a part other than the last has fewer bytes than the least that it may have
abbrev pub has_small_chosen_part : ℕ → List SealedPart → Bool
has_small_chosen_part least [] = false
has_small_chosen_part least (p ∷ []) = false
has_small_chosen_part least (p ∷ (q ∷ rest)) = nat_lt p.size least || has_small_chosen_part least (q ∷ rest)

-- ---- the call that seals a completion

-- the completion stands beside its bucket
abbrev pub MaySeal : Sealed → SwiftAccount → Type 0
MaySeal s tree = SealedIn tree s

-- the PUT of its text, which has no more bytes
abbrev pub most_sealed_text : ℕ
most_sealed_text = 2170000

abbrev pub put_sealed_text : List ℕ → SwiftRequest
put_sealed_text text = PutObject gateway_name sealed_name (codes "application/json") [] text

-- the state once it is finished, by the segments beside its bucket
abbrev pub finishes : Sealed → SwiftAccount → State → State
finishes s tree state = finished (finished_from (files tree (segments_name s.bucket)) s) state

-- one call, which finishes the completion in the state. Answered, it is sealed. Over every observable store it leaves the gateway's
-- own container where it is
pub record Seals (old new : History) (s : Sealed) (result : Result (Unit {0}) PlanFault) : Type 0 where
  pub grows : Grows (always 1) (GivenOf (MaySeal s)) old new
  pub cause : CausesFault old.faults new.faults result
  pub effect : Met (GivenOf (MaySeal s)) old → Writes new old.called new.called (Becomes (finishes s (present old))) result
  pub leaves : Met (GivenOf (MaySeal s)) old → IfOk result (λ done. IsSealed s (present new))
  pub gateway : KeepsGateway old new

-- ---- how the calls of a completion end

-- the upload is open, and its parts are these
pub record HasParts (bucket key text : List ℕ) (opened : Opened) (parts : List PartItem) (tree : SwiftAccount) : Type 0 where
  pub opens : IsOpenAs bucket key text opened tree
  pub are : parts ≡ items_above 0 (parts_of (files tree (segments_name bucket)) text)

-- the completion may be sealed, and by what it finishes the operation without a condition is answered
pub record CompletesBy (settings : Settings) (text : List ℕ) (list : List Listed) (label : Label) (s : Sealed) (tree : SwiftAccount) : Type 0 where
  pub stands : SealedIn tree s
  pub step : S3Step settings (s3_state tree) (CompleteUpload s.bucket s.key text list Always) label (Completed s.bucket s.key s.etag) (finishes s tree (s3_state tree))

-- and it has a text
pub record MayComplete (settings : Settings) (text : List ℕ) (list : List Listed) (label : Label) (s : Sealed) (tree : SwiftAccount) : Type 0 where
  pub has : has_sealed_text s ≡ true
  pub completes : CompletesBy settings text list label s tree

-- the completion by these parts, with the ETag of the list
abbrev pub completion_of : List ℕ → List ℕ → Opened → List SealedPart → List Listed → ℕ → Sealed
completion_of bucket key opened chosen list moment = record {
  bucket = bucket;
  key = key;
  id = opened.id;
  content_type = opened.content_type;
  meta = opened.meta;
  list = chosen;
  etag = upload_etag (map etag_listed list);
  started = opened.started;
  moment = moment;
}

-- a completion that is refused, or was done before
abbrev pub answered_by : Reply → Completing
answered_by reply = record { end = Ok reply; unfinished = None }

abbrev pub end_in : Result Completing PlanFault → Result Reply PlanFault
end_in (Ok completing) = completing.end
end_in (Err fault) = Err fault

-- by which fault the calls from the one that seals on broke off: none did before it
abbrev pub unfinished_in : Result Completing PlanFault → Option PlanFault
unfinished_in (Ok completing) = completing.unfinished
unfinished_in (Err fault) = None

-- what is known of the store then: where they didn't break off, nothing is sealed
abbrev pub known_after_completion : Option PlanFault → Known
known_after_completion None = known.Settled
known_after_completion (Some fault) = known.Unsure

abbrev pub known_in : Result Completing PlanFault → Known
known_in result = known_after_completion (unfinished_in result)

-- it isn't refused, or for a reason that the parts of the upload show
abbrev pub ShownByParts : Result Reply PlanFault → Type 0
ShownByParts end = IfOk end (λ reply. shown_by in_upload reply ≡ None)

-- what such a fault says, by the counts of faults before the calls and after them, over every store: one failed; or memory ran out, and
-- none failed; or the store was found inconsistent, as the reply says too, and none failed
abbrev pub BrokeOff : Option PlanFault → ℕ → ℕ → Reply → Type 0
BrokeOff None before now reply = Unit {0}
BrokeOff (Some Failed) before now reply = Rose before now
BrokeOff (Some Memory) before now reply = now ≡ before
BrokeOff (Some Inconsistent) before now reply = (now ≡ before) × (reply ≡ Refused InconsistentStore)

-- one may be sealed still only where it was done, or where it broke off, and by such a fault
pub record BreaksOff (old new : History) (result : Result Completing PlanFault) : Type 0 where
  pub only : known_in result ≡ known.Unsure → may_be_sealed (reply_of (end_in result)) ≡ true
  pub by : BrokeOff (unfinished_in result) old.faults new.faults (reply_of (end_in result))

-- the end behind the call that seals. That the store failed there, or that memory ran out, is no failure of the operation, and a
-- completion may be sealed still
abbrev pub end_complete_upload_sealed : Result (Unit {0}) PlanFault → Reply → Completing
end_complete_upload_sealed (Ok done) reply = record { end = Ok reply; unfinished = None }
end_complete_upload_sealed (Err Failed) reply = record { end = Ok reply; unfinished = Some Failed }
end_complete_upload_sealed (Err Memory) reply = record { end = Ok reply; unfinished = Some Memory }
end_complete_upload_sealed (Err Inconsistent) reply = record { end = Err Inconsistent; unfinished = Some Inconsistent }

-- no call between two numbers failed, or the last one did and none before it
abbrev pub EndsQuietly : History → ℕ → ℕ → Type 0
EndsQuietly h p q = (h.faults_at q ≡ h.faults_at p) ⊎ LastFailed h p q

-- ---- what stands of a completion that was done, over every observable store, whether its account is consistent or not

-- the files of its object and of its record, or else what is sealed, where that is unsure
abbrev pub StandsAs : Known → Sealed → SwiftAccount → Type 0
StandsAs known.Settled s tree = IsFinished s tree
StandsAs known.Unsure s tree = (seal_of tree ≡ Some s) ⊎ IsFinished s tree

-- so it is with one of this key by this list
pub record StandsCompleted (known : Known) (bucket key : List ℕ) (list : List Listed) (moment : ℕ) (tree : SwiftAccount) : Type 0 where
  pub opened : Opened
  pub chosen : List SealedPart
  pub stands : StandsAs known (completion_of bucket key opened chosen list moment) tree

-- it was told of by the first two calls, or it stands so
abbrev pub ToldOrStands : Known → List ℕ → List ℕ → List Listed → ℕ → History → History → SwiftAccount → Type 0
ToldOrStands known bucket key list moment old new tree = (new.called ≤ old.called + 2) ⊎ StandsCompleted known bucket key list moment tree
