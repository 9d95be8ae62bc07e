-- The steps of the operations that change an object, from what the calls told.
use Rattle.std.specs.Prelude.{◌≡◌, ℕ, true, false, List, Option, Some, None}
use Rattle.std.specs.Option.{option_map}
use Rattle.std.specs.FinMap.{get}
use Rattle.std.proofs.Common.{refl, sym, ap, subst, ◌∙◌}
use Rattle.gate_base.specs.declared.page.Pair.{Pair}
use Rattle.s3_names.specs.declared.acl.Acl.{Acl}
use Rattle.s3_machine.specs.ETag.{body_etag}
use Rattle.s3_machine.specs.declared.code.Code.{Code}
use Rattle.s3_machine.specs.declared.code.Code.TheVariants.{NoSuchBucket, NotImplemented}
use Rattle.s3_machine.specs.declared.only_if.OnlyIf.{OnlyIf}
use Rattle.s3_machine.specs.declared.operation.Label.{Label}
use Rattle.s3_machine.specs.declared.operation.ObjectHead.{ObjectHead}
use Rattle.s3_machine.specs.declared.operation.Settings.{Settings}
use Rattle.s3_machine.specs.Ops.{PutObject, DeleteObject}
use Rattle.s3_machine.specs.Replies as reply
use Rattle.s3_machine.specs.OnlyIf.{refusal}
use Rattle.s3_machine.specs.State.{Object, Bucket, State}
use Rattle.s3_machine.specs.Step.{S3Step, etag_of_object, is_other_acl, head_of, refusal_in}
use Rattle.s3_machine.proofs.lemmas.StepLemmas.{put_without_bucket, delete_without_bucket, put_with_another_acl, put_held, delete_held, step_stored, step_gone}
use Rattle.upload_records.specs.Native.{object_at}
use Rattle.account_calls.specs.Condition.{TellsRefusal}
use Rattle.account_calls.specs.Calls.{TellsBucket, acl_of_bucket, puts_object, drops_object}
use Rattle.planner.proofs.CreateBucket.{missing_of}

-- a bucket that is there, with the list that it has
pub bucket_by : (o : Option Bucket) (acl : Acl) → option_map acl_of_bucket o ≡ Some acl → (b : Bucket) × (o ≡ Some b) × (b.acl ≡ acl)
bucket_by None acl e = cc
bucket_by (Some b) acl e = (b, refl, cc)

pub no_object : (o : Option Object) → option_map head_of o ≡ None → o ≡ None
no_object None e = refl
no_object (Some x) e = cc

pub object_by_head : (o : Option Object) (head : ObjectHead) → option_map head_of o ≡ Some head → (x : Object) × (o ≡ Some x) × (head_of x ≡ head)
object_by_head None head e = cc
object_by_head (Some x) head e = (x, refl, cc)

module _ (settings : Settings) (state : State) (bucket key : List ℕ) (label : Label) where
  -- the bucket is missing
  module _ (told : TellsBucket bucket state None) where
    pub put_missing : (acl : Option Acl) (content_type : List ℕ) (meta : List Pair) (body : List ℕ) (only_if : OnlyIf) (checksum : Option Pair) → S3Step settings state (PutObject bucket key acl content_type meta body only_if checksum) label (reply.Refused NoSuchBucket) state
    put_missing acl content_type meta body only_if checksum = put_without_bucket settings state bucket key label (missing_of bucket state told) acl content_type meta body only_if checksum

    pub delete_missing : (only_if : OnlyIf) → S3Step settings state (DeleteObject bucket key only_if) label (reply.Refused NoSuchBucket) state
    delete_missing only_if = delete_without_bucket settings state bucket key label (missing_of bucket state told) only_if

  -- it has this list
  module _ (list : Acl) (told : TellsBucket bucket state (Some list)) where
    it : (b : Bucket) × (get state bucket ≡ Some b) × (b.acl ≡ list)
    it = bucket_by (get state bucket) list told

    -- what its condition comes to in the bucket
    held_in : (only_if : OnlyIf) (refused : Option Code) → TellsRefusal bucket key only_if state refused → refusal_in only_if key it.0 ≡ refused
    held_in only_if refused is = sym (ap (λ v. refusal only_if (option_map etag_of_object (object_at v key))) it.1) ∙ is

    pub put_other : (acl : Option Acl) (content_type : List ℕ) (meta : List Pair) (body : List ℕ) (only_if : OnlyIf) (checksum : Option Pair) → is_other_acl acl list ≡ true
        → S3Step settings state (PutObject bucket key acl content_type meta body only_if checksum) label (reply.Refused NotImplemented) state
    put_other acl content_type meta body only_if checksum other =
        put_with_another_acl settings state bucket key label it.0 it.1 acl content_type meta body only_if checksum (ap (is_other_acl acl) it.2 ∙ other)

    pub put_refused : (acl : Option Acl) (content_type : List ℕ) (meta : List Pair) (body : List ℕ) (only_if : OnlyIf) (checksum : Option Pair) (code : Code) → is_other_acl acl list ≡ false → TellsRefusal bucket key only_if state (Some code)
        → S3Step settings state (PutObject bucket key acl content_type meta body only_if checksum) label (reply.Refused code) state
    unfolding held_in
    put_refused acl content_type meta body only_if checksum code same is =
        put_held settings state bucket key label it.0 it.1 acl content_type meta body only_if checksum code (ap (is_other_acl acl) it.2 ∙ same) (held_in only_if (Some code) is)

    pub put_stored : (acl : Option Acl) (content_type : List ℕ) (meta : List Pair) (body etag : List ℕ) (only_if : OnlyIf) (checksum shown : Option Pair) → is_other_acl acl list ≡ false → TellsRefusal bucket key only_if state None → etag ≡ body_etag body
        → shown ≡ checksum → S3Step settings state (PutObject bucket key acl content_type meta body only_if checksum) label (reply.Stored etag shown) (puts_object bucket key content_type meta body label.moment state)
    unfolding held_in
    put_stored acl content_type meta body etag only_if checksum shown same met is as_compared =
        subst {A = List ℕ × Option Pair} (λ x. S3Step settings state (PutObject bucket key acl content_type meta body only_if checksum) label (reply.Stored x.0 x.1) (puts_object bucket key content_type meta body label.moment state))
        (λ i. (sym is i, sym as_compared i))
        (step_stored settings state bucket key label it.0 it.1 acl content_type meta body only_if checksum (ap (is_other_acl acl) it.2 ∙ same) (held_in only_if None met))

    pub delete_refused : (only_if : OnlyIf) (code : Code) → TellsRefusal bucket key only_if state (Some code) → S3Step settings state (DeleteObject bucket key only_if) label (reply.Refused code) state
    unfolding held_in
    delete_refused only_if code is = delete_held settings state bucket key label it.0 it.1 only_if code (held_in only_if (Some code) is)

    pub deletes : (only_if : OnlyIf) → TellsRefusal bucket key only_if state None → S3Step settings state (DeleteObject bucket key only_if) label reply.Gone (drops_object bucket key state)
    unfolding held_in
    deletes only_if met = step_gone settings state bucket key label it.0 it.1 only_if (held_in only_if None met)
