-- The steps of CopyPart, from what the calls told.
use Rattle.std.specs.Prelude.{◌≡◌, ◌<◌, ◌≤◌, ◌+◌, ◌-◌, ℕ, Bool, true, false, nat_lt, min, List, [], length, take, drop, Option, Some, None, IfSome, Result}
use Rattle.std.specs.Option.{option_and_then, option_map}
use Rattle.std.specs.FinMap.{get}
use Rattle.std.proofs.Common.{refl, sym, ap, subst, ◌∙◌, arith}
use Rattle.std.proofs.lemmas.Bool.{cond-true}
use Rattle.std.proofs.lemmas.Bool.Decides.{nat_tests}
use Rattle.std.proofs.lemmas.List.{length-drop, length-take-le}
use Rattle.std.proofs.Math.Seq.{take-length}
use Rattle.gate_base.specs.Maps.{adjust}
use Rattle.gate_base.specs.Told.{moment_limit}
use Rattle.s3_names.specs.Bucket.{is_bucket}
use Rattle.s3_machine.specs.declared.reading.Conditions.{Conditions}
use Rattle.s3_machine.specs.Conditions.{no_conditions}
use Rattle.s3_machine.specs.Copies.{copied_span, has_last, may_be_copied}
use Rattle.s3_machine.specs.ETag.{body_etag}
use Rattle.s3_machine.specs.Limits.{body_limit}
use Rattle.s3_machine.specs.Reading.{taken}
use Rattle.s3_machine.specs.State.{Bucket, Object, State}
use Rattle.s3_machine.specs.Step.{S3Step, copies_bytes, copies_part, head_of, in_source}
use Rattle.s3_machine.specs.Proper.{IsProperCopyRange}
use Rattle.s3_machine.specs.Uploads.{new_part, on_upload, with_part}
use Rattle.s3_machine.specs.declared.code.Code.TheVariants.{NoSuchBucket, NoSuchKey, NoSuchUpload, PreconditionFailed, InvalidRange, EntityTooLarge}
use Rattle.s3_machine.specs.declared.operation.Label.{Label}
use Rattle.s3_machine.specs.declared.operation.ObjectHead.{ObjectHead}
use Rattle.s3_machine.specs.declared.operation.Settings.{Settings}
use Rattle.s3_machine.specs.declared.operation.Op.{Op}
use Rattle.s3_machine.specs.Ops.{CopyPart}
use Rattle.s3_machine.specs.declared.operation.Reply.{Reply}
use Rattle.s3_machine.specs.Replies as reply
use Rattle.s3_machine.specs.declared.reading.Span.{Span}
use Rattle.s3_machine.proofs.lemmas.CopyConditions.{part_copy_as_without}
use Rattle.s3_machine.proofs.lemmas.StepLemmas.{HasSource, HasUpload, steps, in_found, part_copy_held, part_copy_without_bucket, part_copy_without_source_bucket, part_copy_without_source, part_copy_past_end, part_copy_too_large, step_part_copied}
use Rattle.swift_calls.specs.Account.{SwiftAccount, files}
use Rattle.swift_calls.specs.Bodies.{ranged}
use Rattle.swift_calls.specs.History.{History}
use Rattle.upload_records.specs.Layout.{segments_name, uploads_name}
use Rattle.upload_records.specs.Native.{bucket_from, object_at, s3_state}
use Rattle.account_calls.specs.Calls.{always, GivenOf, HasObject, LacksBucket, TellsBucket, TellsBytes, TellsObject, bytes_in}
use Rattle.account_calls.specs.Plan.{IsOwnReply, Plans}
use Rattle.account_calls.specs.declared.fault.PlanFault.{PlanFault}
use Rattle.account_calls.specs.declared.state.Known.{Known}
use Rattle.account_calls.proofs.lemmas.Ends.{met_within}
use Rattle.upload_calls.specs.Found.{IsOpenUpload, LacksUpload}
use Rattle.upload_calls.specs.Records as records
use Rattle.upload_calls.proofs.lemmas.Finding.{bucket_there, has_upload, no_upload}
use Rattle.upload_calls.proofs.lemmas.Opened.{bucket_by, lacks_of}
use Rattle.many_keys.specs.CopiedPart.{MayCopyFrom, MayCopyOf, MayPutCopy}

-- ---- the bytes of a copy

-- of an object that has the last byte of the range the store tells all of them
copied_told : (bytes : List ℕ) (range : Option (ℕ × ℕ)) → IfSome range IsProperCopyRange → has_last range (length bytes) ≡ true → ranged range bytes ≡ Some (taken (copied_span range (length bytes)) bytes)
copied_told bytes None proper e = ap (λ b. Some b) (sym (take-length bytes))
copied_told bytes (Some span) proper e =
    let below : span.1 < length bytes = grind (arith, nat_tests) in
    let order = proper.0 in
    let first : nat_lt span.0 (length bytes) ≡ true = grind (arith, nat_tests) in
    let last : min (span.1 + 1) (length bytes) - span.0 ≡ span.1 + 1 - span.0 = omega (arith, below) in
    cond-true _ _ _ first ∙ ap (λ n. Some (take n (drop span.0 bytes))) last

-- and they are as many as the span says
copied_sized : (bytes : List ℕ) (range : Option (ℕ × ℕ)) → IfSome range IsProperCopyRange → has_last range (length bytes) ≡ true → length (taken (copied_span range (length bytes)) bytes) ≡ (copied_span range (length bytes)).length
copied_sized bytes None proper e = ap length (take-length bytes)
copied_sized bytes (Some span) proper e =
    let below : span.1 < length bytes = grind (arith, nat_tests) in
    let order = proper.0 in
    length-take-le (span.1 + 1 - span.0) (drop span.0 bytes) (omega (arith, order, below, length-drop span.0 bytes))

-- so many bytes are wanted
pub same_length : {here span : Span} → here ≡ span → here.length ≡ span.length
same_length is = ap (λ (s : Span). s.length) is

-- as many bytes as a body may have aren't too many
pub not_large : (limit wanted n : ℕ) → wanted ≡ n → wanted ≤ limit → nat_lt limit n ≡ false
not_large limit wanted n is most = grind (arith, nat_tests)

pub too_large : (limit most wanted n : ℕ) → limit ≡ most → wanted ≡ n → limit < wanted → nat_lt most n ≡ true
too_large limit most wanted n same is more = grind (arith, nat_tests)

-- ---- the source

no_source : (o : Option Object) → option_map head_of o ≡ None → o ≡ None
no_source None e = refl
no_source (Some x) e = cc

source_by : (o : Option Object) (head : ObjectHead) → option_map head_of o ≡ Some head → (x : Object) × (o ≡ Some x) × (head_of x ≡ head)
source_by None head e = cc
source_by (Some x) head e = (x, refl, cc)

-- an object that is there is in a bucket that is there
pub source_in : (key : List ℕ) (o : Option Bucket) (x : Object) → object_at o key ≡ Some x → (b : Bucket) × (o ≡ Some b) × (get b.objects key ≡ Some x)
source_in key None x e = cc
source_in key (Some b) x e = (b, refl, e)

abbrev pub source_there : (state : State) (bucket key : List ℕ) (x : Object) → object_at (get state bucket) key ≡ Some x → HasSource state bucket key
source_there state bucket key x e =
    let it = source_in key (get state bucket) x e in
    record { b = it.0; o = x; in_bucket = it.1; in_objects = it.2 }

-- the object that is there has the ETag and the size of its head
pub source_told : {bucket key text : List ℕ} {id : ℕ} {from_bucket from_key etag : List ℕ} {head : ObjectHead} {tree : SwiftAccount} → etag ≡ head.etag → MayCopyOf bucket key text id from_bucket from_key head tree
    → HasObject from_bucket from_key etag head.size (s3_state tree)
source_told {head = head} is may = (head, may.source, sym is, refl)

some_same : {x y : List ℕ} → Some x ≡ Some y → x ≡ y
some_same e = cc

never : {x : List ℕ} → Some x ≡ None → ⊥
never e = cc

-- ---- the steps

-- the upload of an id that was found
opened_in : {bucket key text : List ℕ} {id : ℕ} {tree : SwiftAccount} → is_bucket bucket ≡ true → IsOpenUpload bucket key text id tree → HasUpload (s3_state tree) bucket key text
opened_in {bucket = bucket} {key = key} {text = text} {id = id} {tree = tree} is opened = (has_upload bucket key text id tree is opened).has

module _ (settings : Settings) (bucket key text : List ℕ) (number : ℕ) (from_bucket from_key : List ℕ) (range : Option (ℕ × ℕ)) (conditions : Conditions) (label : Label) where
  abbrev copying_under : Op
  copying_under = CopyPart bucket key text number from_bucket from_key range conditions

  -- the bucket is missing
  pub copy_missing : (state : State) → LacksBucket bucket state → S3Step settings state copying_under label (reply.Refused NoSuchBucket) state
  copy_missing state missing = part_copy_without_bucket settings state bucket key text number from_bucket from_key range conditions label missing

  module _ (tree : SwiftAccount) (is : is_bucket bucket ≡ true) where
    -- no upload is open
    pub copy_lost : LacksUpload bucket key text tree → S3Step settings (s3_state tree) copying_under label (reply.Refused NoSuchUpload) (s3_state tree)
    copy_lost lacks =
        let it = bucket_there tree bucket is lacks.settled lacks.there in
        let b : Bucket = bucket_from (files tree (uploads_name bucket)) (files tree (segments_name bucket)) it.folder in
        steps _ _ 0 tt
        (in_found (s3_state tree) bucket b it.is (copies_part settings (s3_state tree) bucket key text number from_bucket from_key range conditions label.moment)
        ∙ no_upload bucket key text tree is lacks (λ u. in_source (s3_state tree) from_bucket from_key conditions (copies_bytes settings (s3_state tree) bucket text number range label.moment) b))

    module _ (id : ℕ) where
      -- the bucket of the source is missing
      pub copy_of_no_bucket : IsOpenUpload bucket key text id tree → TellsBucket from_bucket (s3_state tree) None → S3Step settings (s3_state tree) copying_under label (reply.Refused NoSuchBucket) (s3_state tree)
      copy_of_no_bucket opened none =
          part_copy_without_source_bucket settings (s3_state tree) bucket key text number from_bucket from_key range conditions label (opened_in is opened) (lacks_of from_bucket (s3_state tree) none)

      -- the source itself is missing
      pub copy_of_none : MayCopyFrom bucket key text id from_bucket tree → TellsObject from_bucket from_key (s3_state tree) None → S3Step settings (s3_state tree) copying_under label (reply.Refused NoSuchKey) (s3_state tree)
      copy_of_none may none =
          let it = bucket_by (get (s3_state tree) from_bucket) may.from.0 may.from.1 in
          part_copy_without_source settings (s3_state tree) bucket key text number from_bucket from_key range conditions label (opened_in is may.opened) it.0 it.1
          (sym (ap (λ o. object_at o from_key) it.1) ∙ no_source (object_at (get (s3_state tree) from_bucket) from_key) none)

      module _ (head : ObjectHead) (may : MayCopyOf bucket key text id from_bucket from_key head tree) where
        abbrev told_source : (x : Object) × (object_at (get (s3_state tree) from_bucket) from_key ≡ Some x) × (head_of x ≡ head)
        told_source = source_by (object_at (get (s3_state tree) from_bucket) from_key) head may.source

        -- it doesn't meet the conditions
        pub copy_refused : may_be_copied conditions head ≡ false → S3Step settings (s3_state tree) copying_under label (reply.Refused PreconditionFailed) (s3_state tree)
        copy_refused held =
            part_copy_held settings (s3_state tree) bucket key text number from_bucket from_key range conditions label (opened_in is may.opened)
            (source_there (s3_state tree) from_bucket from_key told_source.0 told_source.1) (ap (may_be_copied conditions) told_source.2 ∙ held)

        -- it meets them, so the copy is the one without any
        pub copied_under : may_be_copied conditions head ≡ true → (answer : Reply) (new : State)
            → S3Step settings (s3_state tree) (CopyPart bucket key text number from_bucket from_key range no_conditions) label answer new → S3Step settings (s3_state tree) copying_under label answer new
        copied_under met answer new does =
            part_copy_as_without settings (s3_state tree) bucket key from_bucket from_key conditions label
            (source_there (s3_state tree) from_bucket from_key told_source.0 told_source.1) (ap (may_be_copied conditions) told_source.2 ∙ met) text number range does

module _ (settings : Settings) (bucket key text : List ℕ) (number : ℕ) (from_bucket from_key : List ℕ) (range : Option (ℕ × ℕ)) (label : Label) where
  abbrev copying : Op
  copying = CopyPart bucket key text number from_bucket from_key range no_conditions

  module _ (tree : SwiftAccount) (is : is_bucket bucket ≡ true) where
    module _ (id : ℕ) where
      -- the source is there
      module _ (head : ObjectHead) (may : MayCopyOf bucket key text id from_bucket from_key head tree) where
        found : (x : Object) × (object_at (get (s3_state tree) from_bucket) from_key ≡ Some x) × (head_of x ≡ head)
        found = source_by (object_at (get (s3_state tree) from_bucket) from_key) head may.source

        abbrev source : HasSource (s3_state tree) from_bucket from_key
        source = source_there (s3_state tree) from_bucket from_key found.0 found.1

        size_is : length found.0.bytes ≡ head.size
        size_is = ap (λ (h : ObjectHead). h.size) found.2

        last_is : (t : Bool) → has_last range head.size ≡ t → has_last range (length found.0.bytes) ≡ t
        last_is t e = ap (has_last range) size_is ∙ e

        large_is : (t : Bool) → nat_lt (body_limit settings) (copied_span range head.size).length ≡ t → nat_lt (body_limit settings) (copied_span range (length found.0.bytes)).length ≡ t
        large_is t e = ap (λ n. nat_lt (body_limit settings) (copied_span range n).length) size_is ∙ e

        pub copy_past_end : has_last range head.size ≡ false → S3Step settings (s3_state tree) copying label (reply.Refused (InvalidRange None)) (s3_state tree)
        copy_past_end e = part_copy_past_end settings (s3_state tree) bucket key text number from_bucket from_key range no_conditions label (opened_in is may.opened) source refl (last_is false e)

        module _ (ends : has_last range head.size ≡ true) where
          pub copy_too_large : nat_lt (body_limit settings) (copied_span range head.size).length ≡ true → S3Step settings (s3_state tree) copying label (reply.Refused EntityTooLarge) (s3_state tree)
          copy_too_large large = part_copy_too_large settings (s3_state tree) bucket key text number from_bucket from_key range no_conditions label (opened_in is may.opened) source refl (last_is true ends) (large_is true large)

          module _ (proper : IfSome range IsProperCopyRange) where
            counted_of : (body : List ℕ) → body ≡ taken (copied_span range (length found.0.bytes)) found.0.bytes → length body ≡ (copied_span range (length found.0.bytes)).length
            counted_of body are = ap length are ∙ copied_sized found.0.bytes range proper (last_is true ends)

            may_put : (body : List ℕ) → body ≡ taken (copied_span range (length found.0.bytes)) found.0.bytes → MayPutCopy bucket key text id from_bucket from_key range body tree
            may_put body are = record {
              opened = may.opened;
              bytes = record { object = found.0; there = found.1; ends = last_is true ends; are = are; counted = counted_of body are };
            }

            -- no byte of it is wanted
            pub copy_is_empty : (copied_span range head.size).length ≡ 0 → MayPutCopy bucket key text id from_bucket from_key range [] tree
            copy_is_empty none =
                may_put [] (sym (ap (λ n. take n (drop (copied_span range (length found.0.bytes)).from found.0.bytes)) (ap (λ n. (copied_span range n).length) size_is ∙ none)))

            told_copy : option_and_then (ranged range) (option_map bytes_in (object_at (get (s3_state tree) from_bucket) from_key)) ≡ Some (taken (copied_span range (length found.0.bytes)) found.0.bytes)
            told_copy = ap (λ o. option_and_then (ranged range) (option_map bytes_in o)) found.1 ∙ copied_told found.0.bytes range proper (last_is true ends)

            pub not_gone : TellsBytes from_bucket from_key range (s3_state tree) None → ⊥
            not_gone none = never (sym told_copy ∙ none)

            module _ (body : List ℕ) (told : TellsBytes from_bucket from_key range (s3_state tree) (Some body)) where
              same_bytes : body ≡ taken (copied_span range (length found.0.bytes)) found.0.bytes
              same_bytes = sym (some_same (sym told_copy ∙ told))

              -- the bytes that the store tells are as many as are wanted, and the part may be put with them
              pub as_wanted : length body ≡ (copied_span range head.size).length
              as_wanted = counted_of body same_bytes ∙ ap (λ n. (copied_span range n).length) size_is

              pub copy_is_told : MayPutCopy bucket key text id from_bucket from_key range body tree
              copy_is_told = may_put body same_bytes

      -- the part is put
      pub copy_stored : (body etag : List ℕ) → etag ≡ body_etag body → length body ≤ body_limit settings → MayPutCopy bucket key text id from_bucket from_key range body tree
          → S3Step settings (s3_state tree) copying label (reply.Copied true etag label.moment) (records.puts_part bucket id number body label.moment (s3_state tree))
      copy_stored body etag same small may =
          subst (λ e. S3Step settings (s3_state tree) copying label (reply.Copied true e label.moment) (records.puts_part bucket id number body label.moment (s3_state tree))) (sym same)
          (subst (λ b. S3Step settings (s3_state tree) copying label (reply.Copied true (body_etag b) label.moment) (records.puts_part bucket id number b label.moment (s3_state tree))) (sym may.bytes.are)
          (subst (λ t. S3Step settings (s3_state tree) copying label (reply.Copied true (body_etag bytes) label.moment) (adjust bucket (on_upload t (with_part number (new_part label.moment bytes))) (s3_state tree))) may.opened.is
          (step_part_copied settings (s3_state tree) bucket key text number from_bucket from_key range no_conditions label (opened_in is may.opened)
          (source_there (s3_state tree) from_bucket from_key may.bytes.object may.bytes.there) refl may.bytes.ends (not_large (body_limit settings) (length body) _ may.bytes.counted small))))
        where
          bytes : List ℕ
          bytes = taken (copied_span range (length may.bytes.object.bytes)) may.bytes.object.bytes

-- ---- the plans

-- a plan within more calls, of which less is given
pub plans_within : {n most : ℕ} {a b : History} {settings : Settings} {given rest : SwiftAccount → Type 0} {op : Op} {label : Label} {after : Known} {end : Result Reply PlanFault}
    → n ≤ most → ((tree : SwiftAccount) → given tree → rest tree) → Plans (always n) a b settings (GivenOf rest) op label after end → Plans (always most) a b settings (GivenOf given) op label after end
plans_within within gives plans = record {
  grows = record { on = plans.grows.on; calls = let near = plans.grows.calls in omega (arith, near, within) };
  cause = plans.cause;
  own = plans.own;
  effect = λ met. plans.effect (met_within gives met);
  knows = plans.knows;
}

-- ---- the replies are the service's own

pub copied_is_own : (etag : List ℕ) (moment : ℕ) → moment < moment_limit → IsOwnReply (reply.Copied true etag moment)
copied_is_own etag moment below = record { showable = below; no_memory = λ e. cc; no_failure = λ e. cc; no_inconsistency = λ e. cc }
