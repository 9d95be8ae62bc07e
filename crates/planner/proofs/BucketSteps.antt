-- The steps of the operations on buckets and access control lists, from what the calls told.
use Rattle.std.specs.Prelude.{◌≡◌, ℕ, Bool, true, false, List, Option, Some, None}
use Rattle.std.specs.Option.{option_map}
use Rattle.std.specs.FinMap.{get}
use Rattle.std.proofs.Common.{refl, sym, ap, subst, ◌∙◌}
use Rattle.gate_base.proofs.lemmas.Maps.{some_value}
use Rattle.s3_names.specs.declared.acl.Acl.{Acl}
use Rattle.s3_machine.specs.declared.code.Code.TheVariants.{AccessControlListNotSupported, AccessDenied, NoSuchBucket, NoSuchKey}
use Rattle.s3_machine.specs.declared.operation.Label.{Label}
use Rattle.s3_machine.specs.declared.operation.ObjectHead.{ObjectHead}
use Rattle.s3_machine.specs.declared.operation.Settings.{Settings}
use Rattle.s3_machine.specs.Ops.{ListBuckets, DeleteBucket, HeadBucket, GetLocation, GetBucketAcl, PutBucketAcl, GetObjectAcl, PutObjectAcl, GetSetting}
use Rattle.s3_machine.specs.Replies as reply
use Rattle.s3_machine.specs.State.{Bucket, State}
use Rattle.s3_machine.specs.declared.buckets.BucketListing.{BucketListing}
use Rattle.s3_machine.specs.declared.unset.Unset.{Unset}
use Rattle.s3_machine.specs.Buckets.{bucket_page}
use Rattle.s3_machine.specs.Step.{S3Step, buckets_reply, is_bare, is_other_acl, may_read, unset_reply}
use Rattle.s3_machine.proofs.lemmas.StepLemmas.{
  drop_without_bucket,
  show_without_bucket,
  locate_without_bucket,
  acl_without_bucket,
  set_without_bucket,
  object_acl_without_bucket,
  step_full,
  step_dropped,
  show_denied,
  step_shown,
  step_located,
  step_acl_of,
  step_acl_set,
  object_acl_without_key,
  step_object_acl,
  set_object_acl_without_bucket,
  set_object_acl_without_key,
  set_object_acl_other,
  step_object_acl_set,
  setting_without_bucket,
  setting_without_key,
  step_setting,
  step_object_setting,
  step_listed,
}
use Rattle.upload_records.specs.Native.{object_at}
use Rattle.s3_machine.specs.declared.items.BucketItem.{BucketItem}
use Rattle.account_calls.specs.Listing.{TellsBuckets}
use Rattle.account_calls.specs.Calls.{TellsBucket, TellsObject, DropsBucket, SetsAcl}
use Rattle.account_calls.specs.declared.bucket.Dropped.{Dropped}
use Rattle.account_calls.specs.declared.bucket.Dropped.TheVariants.{Gone, Full, Missing}
use Rattle.planner.specs.Buckets.{dropped_reply, set_reply}
use Rattle.planner.proofs.CreateBucket.{missing_of}
use Rattle.planner.proofs.Steps.{bucket_by, no_object, object_by_head}

bare_by : (o : Option Bucket) (t : Bool) → option_map is_bare o ≡ Some t → (b : Bucket) × (o ≡ Some b) × (is_bare b ≡ t)
bare_by None t e = cc
bare_by (Some b) t e = (b, refl, cc)

module _ (settings : Settings) (state : State) (bucket : List ℕ) (label : Label) where
  -- the bucket is missing
  module _ (told : TellsBucket bucket state None) where
    pub show_missing : S3Step settings state (HeadBucket bucket) label (reply.Refused NoSuchBucket) state
    show_missing = show_without_bucket settings state bucket label (missing_of bucket state told)

    pub locate_missing : S3Step settings state (GetLocation bucket) label (reply.Refused NoSuchBucket) state
    locate_missing = locate_without_bucket settings state bucket label (missing_of bucket state told)

    pub acl_missing : S3Step settings state (GetBucketAcl bucket) label (reply.Refused NoSuchBucket) state
    acl_missing = acl_without_bucket settings state bucket label (missing_of bucket state told)

    pub object_acl_missing : (key : List ℕ) → S3Step settings state (GetObjectAcl bucket key) label (reply.Refused NoSuchBucket) state
    object_acl_missing key = object_acl_without_bucket settings state bucket label (missing_of bucket state told) key

    pub set_object_acl_missing : (key : List ℕ) (acl : Acl) → S3Step settings state (PutObjectAcl bucket key acl) label (reply.Refused NoSuchBucket) state
    set_object_acl_missing key acl = set_object_acl_without_bucket settings state bucket label (missing_of bucket state told) key acl

    pub setting_missing : (key : Option (List ℕ)) (unset : Unset) → S3Step settings state (GetSetting bucket key unset) label (reply.Refused NoSuchBucket) state
    setting_missing key unset = setting_without_bucket settings state bucket label (missing_of bucket state told) key unset

  -- it has this list
  module _ (list : Acl) (told : TellsBucket bucket state (Some list)) where
    it : (b : Bucket) × (get state bucket ≡ Some b) × (b.acl ≡ list)
    it = bucket_by (get state bucket) list told

    may : (t : Bool) → may_read label.caller list ≡ t → may_read label.caller it.0.acl ≡ t
    may t e = ap (may_read label.caller) it.2 ∙ e

    pub show_refused : may_read label.caller list ≡ false → S3Step settings state (HeadBucket bucket) label (reply.Refused AccessDenied) state
    show_refused e = show_denied settings state bucket label it.0 it.1 (may false e)

    pub shown : may_read label.caller list ≡ true → S3Step settings state (HeadBucket bucket) label reply.Done state
    shown e = step_shown settings state bucket label it.0 it.1 (may true e)

    pub located : (region : List ℕ) → region ≡ settings.region → S3Step settings state (GetLocation bucket) label (reply.Location region) state
    located region is =
        subst (λ r. S3Step settings state (GetLocation bucket) label (reply.Location r) state) (sym is) (step_located settings state bucket label it.0 it.1)

    pub acl_told : S3Step settings state (GetBucketAcl bucket) label (reply.AclOf list) state
    acl_told = subst (λ l. S3Step settings state (GetBucketAcl bucket) label (reply.AclOf l) state) it.2 (step_acl_of settings state bucket label it.0 it.1)

    module _ (key : List ℕ) where
      under : object_at (get state bucket) key ≡ get it.0.objects key
      under = ap (λ o. object_at o key) it.1

      pub object_acl_none : TellsObject bucket key state None → S3Step settings state (GetObjectAcl bucket key) label (reply.Refused NoSuchKey) state
      object_acl_none none =
          object_acl_without_key settings state bucket label it.0 it.1 key (sym under ∙ no_object (object_at (get state bucket) key) none)

      pub object_acl_told : (head : ObjectHead) → TellsObject bucket key state (Some head) → S3Step settings state (GetObjectAcl bucket key) label (reply.AclOf list) state
      object_acl_told head there =
          let x = object_by_head (object_at (get state bucket) key) head there in
          subst (λ l. S3Step settings state (GetObjectAcl bucket key) label (reply.AclOf l) state) it.2
          (step_object_acl settings state bucket label it.0 it.1 key x.0 (sym under ∙ x.1))

      module _ (acl : Acl) where
        pub set_object_acl_none : TellsObject bucket key state None → S3Step settings state (PutObjectAcl bucket key acl) label (reply.Refused NoSuchKey) state
        set_object_acl_none none =
            set_object_acl_without_key settings state bucket label it.0 it.1 key acl (sym under ∙ no_object (object_at (get state bucket) key) none)

        pub set_object_acl_refused : is_other_acl (Some acl) list ≡ true → (head : ObjectHead) → TellsObject bucket key state (Some head)
            → S3Step settings state (PutObjectAcl bucket key acl) label (reply.Refused AccessControlListNotSupported) state
        set_object_acl_refused other head there =
            let x = object_by_head (object_at (get state bucket) key) head there in
            set_object_acl_other settings state bucket label it.0 it.1 key acl x.0 (sym under ∙ x.1) (ap (is_other_acl (Some acl)) it.2 ∙ other)

        pub object_acl_set : is_other_acl (Some acl) list ≡ false → (head : ObjectHead) → TellsObject bucket key state (Some head)
            → S3Step settings state (PutObjectAcl bucket key acl) label reply.Done state
        object_acl_set same head there =
            let x = object_by_head (object_at (get state bucket) key) head there in
            step_object_acl_set settings state bucket label it.0 it.1 key acl x.0 (sym under ∙ x.1) (ap (is_other_acl (Some acl)) it.2 ∙ same)

      module _ (unset : Unset) where
        pub object_setting_none : TellsObject bucket key state None → S3Step settings state (GetSetting bucket (Some key) unset) label (reply.Refused NoSuchKey) state
        object_setting_none none =
            setting_without_key settings state bucket label it.0 it.1 key unset (sym under ∙ no_object (object_at (get state bucket) key) none)

        pub object_setting_told : (head : ObjectHead) → TellsObject bucket key state (Some head) → S3Step settings state (GetSetting bucket (Some key) unset) label (unset_reply unset) state
        object_setting_told head there =
            let x = object_by_head (object_at (get state bucket) key) head there in
            step_object_setting settings state bucket label it.0 it.1 key unset x.0 (sym under ∙ x.1)

    pub setting_told : (unset : Unset) → S3Step settings state (GetSetting bucket None unset) label (unset_reply unset) state
    setting_told unset = step_setting settings state bucket label it.0 it.1 unset

  -- the two that change the state, by what the call told
  pub dropped : (told : Dropped) (new : State) → DropsBucket bucket told state new → S3Step settings state (DeleteBucket bucket) label (dropped_reply told) new
  dropped Gone new does =
      let b = bare_by (get state bucket) true does.0 in
      subst (S3Step settings state (DeleteBucket bucket) label reply.Gone) (sym does.1) (step_dropped settings state bucket label b.0 b.1 b.2)
  dropped Full new does =
      let b = bare_by (get state bucket) false does.0 in
      subst (S3Step settings state (DeleteBucket bucket) label (dropped_reply Full)) (sym does.1) (step_full settings state bucket label b.0 b.1 b.2)
  dropped Missing new does =
      subst (S3Step settings state (DeleteBucket bucket) label (dropped_reply Missing)) (sym does.1) (drop_without_bucket settings state bucket label does.0)

  pub set : (acl : Acl) (told : Bool) (new : State) → SetsAcl bucket acl told state new → S3Step settings state (PutBucketAcl bucket acl) label (set_reply told) new
  set acl true new does =
      let b = some_value (get state bucket) does.0 in
      subst (S3Step settings state (PutBucketAcl bucket acl) label reply.Done) (sym does.1) (step_acl_set settings state bucket label b.0 b.1 acl)
  set acl false new does =
      subst (S3Step settings state (PutBucketAcl bucket acl) label (set_reply false)) (sym does.1) (set_without_bucket settings state bucket label does.0 acl)

-- the buckets that are asked for
pub buckets_listed : (settings : Settings) (state : State) (asked : BucketListing) (label : Label) (items : List BucketItem) → TellsBuckets state items
    → S3Step settings state (ListBuckets asked) label (buckets_reply asked (bucket_page asked items)) state
buckets_listed settings state asked label items told =
    subst (λ is. S3Step settings state (ListBuckets asked) label (buckets_reply asked (bucket_page asked is)) state) (sym told) (step_listed settings state asked label)
