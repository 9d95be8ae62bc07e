-- The steps of the operations that read an object, from what the calls told.
use Rattle.std.specs.Prelude.{◌≡◌, ℕ, Bool, true, false, List, length, Option, Some, None}
use Rattle.std.specs.FinMap.{get}
use Rattle.std.proofs.Common.{sym, ap, subst, ◌∙◌, arith}
use Rattle.gate_base.specs.declared.page.Pair.{Pair}
use Rattle.s3_names.specs.declared.acl.Acl.{Acl}
use Rattle.s3_machine.specs.declared.code.Code.TheVariants.{AccessDenied, NoSuchBucket, NoSuchKey}
use Rattle.s3_machine.specs.declared.code.Code.TheVariants as code
use Rattle.s3_machine.specs.declared.operation.Label.{Label}
use Rattle.s3_machine.specs.declared.operation.ObjectHead.{ObjectHead}
use Rattle.s3_machine.specs.declared.operation.Op.{Op}
use Rattle.s3_machine.specs.declared.operation.Settings.{Settings}
use Rattle.s3_machine.specs.Ops.{GetObject, HeadObject}
use Rattle.s3_machine.specs.declared.operation.Reply.{Reply}
use Rattle.s3_machine.specs.Replies as reply
use Rattle.s3_machine.specs.declared.reading.Conditions.{Conditions}
use Rattle.s3_machine.specs.declared.reading.Judged.{Judged}
use Rattle.s3_machine.specs.declared.reading.Judged.TheVariants.{Bytes}
use Rattle.s3_machine.specs.declared.reading.Range.{Range}
use Rattle.s3_machine.specs.declared.reading.Span.{Span}
use Rattle.s3_machine.specs.Reading.{judged, taken}
use Rattle.s3_machine.specs.Shown.{IsShown}
use Rattle.s3_machine.specs.State.{Object, Bucket, State}
use Rattle.s3_machine.specs.Step.{S3Step, may_read, head_of, read_by}
use Rattle.s3_machine.proofs.lemmas.Reading.{IsWithin, Fits, judged_fits}
use Rattle.s3_machine.proofs.lemmas.StepLemmas.{get_without_bucket, head_without_bucket, get_denied, head_denied, get_without_key, head_without_key, step_read, step_headed}
use Rattle.upload_records.specs.Native.{object_at}
use Rattle.account_calls.specs.Calls.{TellsBucket, TellsObject}
use Rattle.account_calls.specs.Interpret.{IsShownHead}
use Rattle.account_calls.specs.Plan.{IsOwnReply}
use Rattle.planner.specs.Objects.{TellsReadable, headed_reply}
use Rattle.planner.specs.Reading.{IsFound}
use Rattle.planner.proofs.CreateBucket.{missing_of}
use Rattle.planner.proofs.Steps.{bucket_by, no_object, object_by_head}

module _ (settings : Settings) (state : State) (bucket key : List ℕ) (range : Option Range) (conditions : Conditions) (part : Option ℕ) (shown : List Pair) (none : part ≡ None) (label : Label) where
  abbrev getting : Op
  getting = GetObject bucket key range conditions part shown

  abbrev heading : Op
  heading = HeadObject bucket key range conditions part shown

  -- no part is asked for
  get_whole : (reply : Reply) → S3Step settings state (GetObject bucket key range conditions None shown) label reply state → S3Step settings state getting label reply state
  get_whole reply s = subst (λ (v : Option ℕ). S3Step settings state (GetObject bucket key range conditions v shown) label reply state) (sym none) s

  head_whole : (reply : Reply) → S3Step settings state (HeadObject bucket key range conditions None shown) label reply state → S3Step settings state heading label reply state
  head_whole reply s = subst (λ (v : Option ℕ). S3Step settings state (HeadObject bucket key range conditions v shown) label reply state) (sym none) s

  -- the bucket is missing
  module _ (told : TellsBucket bucket state None) where
    pub get_missing : S3Step settings state getting label (reply.Refused NoSuchBucket) state
    get_missing = get_whole _ (get_without_bucket settings state bucket key label (missing_of bucket state told) range conditions None shown None tt)

    pub head_missing : S3Step settings state heading label (reply.Refused NoSuchBucket) state
    head_missing = head_whole _ (head_without_bucket settings state bucket key label (missing_of bucket state told) range conditions None shown None tt)

  -- it has this list
  module _ (list : Acl) (told : TellsBucket bucket state (Some list)) where
    it : (b : Bucket) × (get state bucket ≡ Some b) × (b.acl ≡ list)
    it = bucket_by (get state bucket) list told

    may : (t : Bool) → may_read label.caller list ≡ t → may_read label.caller it.0.acl ≡ t
    may t e = ap (may_read label.caller) it.2 ∙ e

    pub get_refused : may_read label.caller list ≡ false → S3Step settings state getting label (reply.Refused AccessDenied) state
    get_refused e = get_whole _ (get_denied settings state bucket key label it.0 it.1 range conditions None shown None tt (may false e))

    pub head_refused : may_read label.caller list ≡ false → S3Step settings state heading label (reply.Refused AccessDenied) state
    head_refused e = head_whole _ (head_denied settings state bucket key label it.0 it.1 range conditions None shown None tt (may false e))

    under : object_at (get state bucket) key ≡ get it.0.objects key
    under = ap (λ o. object_at o key) it.1

    pub get_none : may_read label.caller list ≡ true → TellsObject bucket key state None → S3Step settings state getting label (reply.Refused NoSuchKey) state
    get_none e missing =
        get_whole _ (get_without_key settings state bucket key label it.0 it.1 range conditions None shown None tt (may true e) (sym under ∙ no_object (object_at (get state bucket) key) missing))

    pub head_none : may_read label.caller list ≡ true → TellsObject bucket key state None → S3Step settings state heading label (reply.Refused NoSuchKey) state
    head_none e missing =
        head_whole _ (head_without_key settings state bucket key label it.0 it.1 range conditions None shown None tt (may true e) (sym under ∙ no_object (object_at (get state bucket) key) missing))

    pub head_there : may_read label.caller list ≡ true → (head : ObjectHead) → TellsObject bucket key state (Some head)
        → S3Step settings state heading label (headed_reply range conditions shown head) state
    head_there e head there =
        let x = object_by_head (object_at (get state bucket) key) head there in
        subst (λ h. S3Step settings state heading label (headed_reply range conditions shown h) state) x.2
        (head_whole _ (step_headed settings state bucket key label it.0 it.1 range conditions None shown None tt x.0 (may true e) (sym under ∙ x.1)))

  module _ (list : Acl) (head : ObjectHead) (readable : TellsReadable bucket key label.caller list head state) where
    pub found : (x : Object) × (object_at (get state bucket) key ≡ Some x) × (head_of x ≡ head)
    found = object_by_head (object_at (get state bucket) key) head readable.there

    -- what is answered by the bytes of the object
    pub get_there : S3Step settings state getting label (read_by None shown head (λ span. taken span found.0.bytes) (judged range conditions head)) state
    get_there =
        let b = bucket_by (get state bucket) list readable.in_bucket in
        subst (λ h. S3Step settings state getting label (read_by None shown h (λ span. taken span found.0.bytes) (judged range conditions h)) state) found.2
        (get_whole _ (step_read settings state bucket key label b.0 b.1 range conditions None shown None tt found.0 (ap (may_read label.caller) b.2 ∙ readable.allowed) (sym (ap (λ o. object_at o key) b.1) ∙ found.1)))

    -- a reply without bytes, or with none of the object
    pub get_judged : (j : Judged) → judged range conditions head ≡ j → S3Step settings state getting label (read_by None shown head (λ span. taken span found.0.bytes) j) state
    get_judged j is = subst (λ j. S3Step settings state getting label (read_by None shown head (λ span. taken span found.0.bytes) j) state) is get_there

    pub size_is : length found.0.bytes ≡ head.size
    size_is = ap (λ (h : ObjectHead). h.size) found.2

    module _ (span : Span) (partial : Bool) (is : judged range conditions head ≡ Bytes span partial) where
      pub fits : IsWithin head.size partial span
      fits = subst (Fits head.size) is (judged_fits range conditions head)

-- ---- the replies are the service's own, and have a page

span_shown : (head : ObjectHead) (span : Span) (partial : Bool) → IsShownHead (Some head) → IsWithin head.size partial span → IsShown head span.from span.length partial
span_shown head span partial shown within =
    let ends = within.ends in
    let least = shown.1 in
    record { dated = shown.0; ends = omega (arith, ends, least); filled = within.filled }

-- the bytes of a span have a page, and the store can be asked for them
pub judged_shown : (range : Option Range) (conditions : Conditions) (head : ObjectHead) (span : Span) (partial : Bool) → IsShownHead (Some head)
    → judged range conditions head ≡ Bytes span partial → IsShown head span.from span.length partial
judged_shown range conditions head span partial shown is = span_shown head span partial shown (subst (Fits head.size) is (judged_fits range conditions head))

pub judged_found : (bucket key : List ℕ) (shown : List Pair) (range : Option Range) (conditions : Conditions) (head : ObjectHead) (span : Span) (partial : Bool) → IsShownHead (Some head)
    → judged range conditions head ≡ Bytes span partial → IsFound (record { bucket = bucket; key = key; head = head; from = span.from; length = span.length; partial = partial; shown = shown; parts = None })
judged_found bucket key shown range conditions head span partial dated is = record {
  shown = judged_shown range conditions head span partial dated is;
  within = (subst (Fits head.size) is (judged_fits range conditions head)).ends;
}

pub object_is_own : (head : ObjectHead) (span : Span) (partial : Bool) (body : List ℕ) (shown : List Pair) → IsShown head span.from span.length partial
    → IsOwnReply (reply.Object head span.from span.length partial body shown None)
object_is_own head span partial body shown dated = record { showable = dated; no_memory = λ e. cc; no_failure = λ e. cc; no_inconsistency = λ e. cc }

pub not_modified_is_own : (head : ObjectHead) → IsShownHead (Some head) → IsOwnReply (reply.NotModified head)
not_modified_is_own head shown = record { showable = shown.0; no_memory = λ e. cc; no_failure = λ e. cc; no_inconsistency = λ e. cc }

pub failed_is_own : IsOwnReply (reply.Refused code.PreconditionFailed)
failed_is_own = record { showable = tt; no_memory = λ e. cc; no_failure = λ e. cc; no_inconsistency = λ e. cc }

pub beyond_is_own : (size : ℕ) → IsOwnReply (reply.Refused (code.InvalidRange (Some size)))
beyond_is_own size = record { showable = tt; no_memory = λ e. cc; no_failure = λ e. cc; no_inconsistency = λ e. cc }
