-- Laws of the step, for the crates above: what each operation does by what is found in the state and in the bucket, and
-- the replies that the machine never gives.
use Rattle.std.specs.Prelude.{◌≡◌, ◌≢◌, ◌⊎◌, ℕ, Bool, true, false, not, if◌then◌else◌, bytes_eq, nat_lt, List, [], map, length, Option, Some, None, is_some, IfSome}
use Rattle.std.proofs.Common.{refl, sym, ap, subst, ◌∙◌, inl, inr, true≢false}
use Rattle.std.specs.FinMap.{get, insert, remove}
use Rattle.gate_base.specs.Maps.{adjust}
use Rattle.gate_base.specs.declared.page.Pair.{Pair}
use Rattle.s3_names.specs.declared.acl.Acl.{Acl}
use Rattle.s3_names.specs.Id.{id_digits}
use Rattle.s3_machine.specs.declared.code.Code.{Code}
use Rattle.s3_machine.specs.declared.code.Code.TheVariants.{
  AccessControlListNotSupported,
  AccessDenied,
  BucketAlreadyOwnedByYou,
  BucketNotEmpty,
  EntityTooLarge,
  EntityTooSmall,
  InconsistentStore,
  InvalidPart,
  InvalidPartOrder,
  InvalidRange as bad_range,
  InvalidRequest,
  NoSuchBucket,
  NoSuchKey,
  NoSuchUpload,
  NotImplemented,
  PreconditionFailed as fails_precondition,
  ServiceUnavailable,
}
use Rattle.s3_machine.specs.declared.buckets.BucketListing.{BucketListing}
use Rattle.s3_machine.specs.declared.items.Asked.{Asked}
use Rattle.s3_machine.specs.declared.items.BucketItem.{BucketItem}
use Rattle.s3_machine.specs.declared.items.ItemHead.{ItemHead}
use Rattle.s3_machine.specs.declared.operation.Label.{Label}
use Rattle.s3_machine.specs.declared.operation.Settings.{Settings}
use Rattle.s3_machine.specs.declared.operation.Op.{Op}
use Rattle.s3_machine.specs.declared.operation.Op.TheVariants.{OnObjects, OnUploads, OnCopies}
use Rattle.s3_machine.specs.declared.operation.Op.TheVariants as op_as
use Rattle.s3_machine.specs.declared.operation.ObjectsOp.{ObjectsOp}
use Rattle.s3_machine.specs.declared.operation.ObjectsOp.TheVariants as objects_op
use Rattle.s3_machine.specs.declared.operation.UploadsOp.{UploadsOp}
use Rattle.s3_machine.specs.declared.operation.UploadsOp.TheVariants as uploads_op
use Rattle.s3_machine.specs.declared.operation.CopiesOp.{CopiesOp}
use Rattle.s3_machine.specs.declared.operation.CopiesOp.TheVariants as copies_op
use Rattle.s3_machine.specs.Ops.{
  ListBuckets,
  CreateBucket,
  DeleteBucket,
  HeadBucket,
  GetLocation,
  GetBucketAcl,
  PutBucketAcl,
  ListObjects,
  PutObject,
  GetObject,
  HeadObject,
  DeleteObject,
  GetObjectAcl,
  PutObjectAcl,
  GetSetting,
  CreateUpload,
  UploadPart,
  ListParts,
  CompleteUpload,
  AbortUpload,
  DeleteObjects,
  CopyObject,
  CopyPart,
}
use Rattle.s3_machine.specs.declared.operation.Listed.{Listed}
use Rattle.s3_machine.specs.declared.operation.ObjectHead.{ObjectHead}
use Rattle.s3_machine.specs.declared.operation.ObjectRead.{ObjectRead}
use Rattle.s3_machine.specs.declared.operation.Described.{Described}
use Rattle.s3_machine.specs.declared.operation.Reply.{Reply}
use Rattle.s3_machine.specs.declared.operation.Reply.TheVariants.{Refused, Done, Memory, Gone}
use Rattle.s3_machine.specs.Replies.{Made, Location, AclOf, Stored, Started, Completed, Deleted, Copied}
use Rattle.s3_machine.specs.declared.reading.Conditions.{Conditions}
use Rattle.s3_machine.specs.declared.reading.Judged.{Judged}
use Rattle.s3_machine.specs.declared.reading.Judged.TheVariants.{PreconditionFailed, NotModified, InvalidRange, Bytes}
use Rattle.s3_machine.specs.declared.reading.Range.{Range}
use Rattle.s3_machine.specs.declared.reading.Span.{Span}
use Rattle.s3_machine.specs.declared.unset.Unset.{Unset}
use Rattle.s3_machine.specs.declared.unset.Unset.TheVariants as unset_as
use Rattle.s3_machine.specs.Buckets.{bucket_page}
use Rattle.s3_machine.specs.Copies.{copied, is_onto_itself, has_last, copied_span, may_be_copied}
use Rattle.s3_machine.specs.ETag.{body_etag}
use Rattle.s3_machine.specs.Limits.{body_limit}
use Rattle.s3_machine.specs.OnlyIf.{refusal}
use Rattle.s3_machine.specs.declared.only_if.OnlyIf.{OnlyIf}
use Rattle.s3_machine.specs.declared.only_if.OnlyIf.TheVariants.{Always, Missing, Present, Holds}
use Rattle.s3_machine.specs.Parts.{IsPartOf, choice_of_id, choice_of_part}
use Rattle.s3_machine.specs.Reading.{taken}
use Rattle.s3_machine.specs.State.{Object, Part, Upload, Bucket, State}
use Rattle.s3_machine.specs.Finish.{finished}
use Rattle.s3_machine.specs.Uploads.{
  new_upload,
  open_upload,
  drop_upload,
  on_upload,
  new_part,
  with_part,
  rises,
  chosen,
  is_too_small,
  kept_as,
  upload_etag,
  etag_in,
  completed,
}
use Rattle.s3_machine.specs.Step.{
  Outcome,
  S3Step,
  step,
  IsFree,
  IsFreeRead,
  judged_read,
  creates,
  gives,
  refuses,
  unless,
  unless_refused,
  refusal_in,
  in_bucket_by,
  in_object_by,
  in_readable,
  may_read,
  is_other_acl,
  puts,
  deletes,
  deletes_all,
  reads,
  head_of,
  read_by,
  got,
  headed,
  listing,
  listing_reply,
  lists,
  new_bucket,
  new_object,
  put_object,
  drop_object,
  drop_objects,
  bucket_items,
  buckets_reply,
  is_bare,
  with_acl,
  drops,
  shows,
  locates,
  shows_acl,
  sets_acl,
  shows_object_acl,
  sets_object_acl,
  unset_reply,
  shows_setting,
  IsNewId,
  in_upload_by,
  in_upload,
  lists_uploads,
  starts,
  puts_part,
  parts_reply,
  lists_parts,
  aborts,
  completes,
  completes_by,
  completes_open,
  completes_chosen,
  copied_under,
  in_source,
  copies_object,
  copies,
  puts_copy,
  copies_bytes,
  copies_part,
}

-- a step by what it comes to
pub steps : {settings : Settings} {old : State} {op : Op} {label : Label} (reply : Reply) (new : State) (id : ℕ) → IsFree old op (choice_of_id id)
    → step settings old op label (choice_of_id id) ≡ gives reply new → S3Step settings old op label reply new
steps reply new id free e = record { choice = choice_of_id id; free = free; replies = sym (ap (λ (o : Outcome). o.reply) e); goes = sym (ap (λ (o : Outcome). o.state) e) }

-- the step of a read, by the bytes of the part that it asks for
reads_steps : {settings : Settings} {old : State} {op : Op} {label : Label} (reply : Reply) (new : State) (chosen : Option Span) → IsFree old op (choice_of_part chosen)
    → step settings old op label (choice_of_part chosen) ≡ gives reply new → S3Step settings old op label reply new
reads_steps reply new chosen free e =
    record { choice = choice_of_part chosen; free = free; replies = sym (ap (λ (o : Outcome). o.reply) e); goes = sym (ap (λ (o : Outcome). o.state) e) }

-- where no part is asked for, none is chosen
pub free_without_part : (old : State) (read : ObjectRead) → read.part ≡ None → IsFreeRead old read None
free_without_part old read none =
    subst (λ (part : Option ℕ). IfSome part (λ n. (b : Bucket) (o : Object) → get old read.bucket ≡ Some b → get b.objects read.key ≡ Some o → IsPartOf o n None)) (sym none) tt

-- ---- CreateBucket

module _ (old : State) (name : List ℕ) (acl : Acl) (moment : ℕ) where
  pub creates_none : (v : Option Bucket) → v ≡ None → creates v old name acl moment ≡ gives (Made name) (insert old name (new_bucket moment acl))
  creates_none v e = ap (λ (v : Option Bucket). creates v old name acl moment) e

  pub creates_there : (v : Option Bucket) → is_some v ≡ true → creates v old name acl moment ≡ refuses BucketAlreadyOwnedByYou old
  creates_there None e = absurd (true≢false (sym e))
  creates_there (Some b) e = refl

-- a missing bucket is made
pub step_made : (settings : Settings) (old : State) (bucket : List ℕ) (acl : Acl) (label : Label) → get old bucket ≡ None
    → S3Step settings old (CreateBucket bucket acl) label (Made bucket) (insert old bucket (new_bucket label.moment acl))
step_made settings old bucket acl label e = steps _ _ 0 tt (creates_none old bucket acl label.moment (get old bucket) e)

-- a bucket that is there stays as it is
pub step_owned : (settings : Settings) (old : State) (bucket : List ℕ) (acl : Acl) (label : Label) → is_some (get old bucket) ≡ true
    → S3Step settings old (CreateBucket bucket acl) label (Refused BucketAlreadyOwnedByYou) old
step_owned settings old bucket acl label e = steps _ _ 0 tt (creates_there old bucket acl label.moment (get old bucket) e)

-- ---- what an outcome comes to

pub unless_true : (t : Bool) (code : Code) (old : State) (rest : Outcome) → t ≡ true → unless t code old rest ≡ refuses code old
unless_true t code old rest e = ap (λ t. unless t code old rest) e

pub unless_false : (t : Bool) (code : Code) (old : State) (rest : Outcome) → t ≡ false → unless t code old rest ≡ rest
unless_false t code old rest e = ap (λ t. unless t code old rest) e

pub held_back : (held : Option Code) (code : Code) (old : State) (rest : Outcome) → held ≡ Some code → unless_refused held old rest ≡ refuses code old
held_back held code old rest e = ap (λ held. unless_refused held old rest) e

pub not_held : (held : Option Code) (old : State) (rest : Outcome) → held ≡ None → unless_refused held old rest ≡ rest
not_held held old rest e = ap (λ held. unless_refused held old rest) e

-- a condition refuses with one of two codes
pub refusal_is : (only_if : OnlyIf) (etag : Option (List ℕ)) (code : Code) → refusal only_if etag ≡ Some code → (code ≡ NoSuchKey) ⊎ (code ≡ fails_precondition)
refusal_is Always etag code e = cc
refusal_is Missing None code e = cc
refusal_is Missing (Some etag) code e = inr cc
refusal_is Present None code e = inl cc
refusal_is Present (Some etag) code e = cc
refusal_is (Holds asked) None code e = inl cc
refusal_is (Holds asked) (Some etag) code e = by (bytes_eq asked etag) e
  where
    by : (same : Bool) → (if same then None else Some fails_precondition) ≡ Some code → (code ≡ NoSuchKey) ⊎ (code ≡ fails_precondition)
    by true e = cc
    by false e = inr cc

pub in_missing : (old : State) (bucket : List ℕ) → get old bucket ≡ None → (f : Bucket → Outcome) → in_bucket_by (get old bucket) old f ≡ refuses NoSuchBucket old
in_missing old bucket none f = ap (λ v. in_bucket_by v old f) none

pub in_found : (old : State) (bucket : List ℕ) (b : Bucket) → get old bucket ≡ Some b → (f : Bucket → Outcome) → in_bucket_by (get old bucket) old f ≡ f b
in_found old bucket b found f = ap (λ v. in_bucket_by v old f) found

-- ---- the operations on buckets

pub step_listed : (settings : Settings) (old : State) (asked : BucketListing) (label : Label)
    → S3Step settings old (ListBuckets asked) label (buckets_reply asked (bucket_page asked (bucket_items old))) old
step_listed settings old asked label = steps _ _ 0 tt refl

module _ (settings : Settings) (old : State) (bucket : List ℕ) (label : Label) where
  -- the bucket is missing
  module _ (none : get old bucket ≡ None) where
    pub drop_without_bucket : S3Step settings old (DeleteBucket bucket) label (Refused NoSuchBucket) old
    drop_without_bucket = steps _ _ 0 tt (in_missing old bucket none (drops old bucket))

    pub show_without_bucket : S3Step settings old (HeadBucket bucket) label (Refused NoSuchBucket) old
    show_without_bucket = steps _ _ 0 tt (in_missing old bucket none (shows old label.caller))

    pub locate_without_bucket : S3Step settings old (GetLocation bucket) label (Refused NoSuchBucket) old
    locate_without_bucket = steps _ _ 0 tt (in_missing old bucket none (locates settings old))

    pub acl_without_bucket : S3Step settings old (GetBucketAcl bucket) label (Refused NoSuchBucket) old
    acl_without_bucket = steps _ _ 0 tt (in_missing old bucket none (shows_acl old))

    pub set_without_bucket : (acl : Acl) → S3Step settings old (PutBucketAcl bucket acl) label (Refused NoSuchBucket) old
    set_without_bucket acl = steps _ _ 0 tt (in_missing old bucket none (sets_acl old bucket acl))

    pub list_without_bucket : (asked : Asked) → S3Step settings old (ListObjects bucket asked) label (Refused NoSuchBucket) old
    list_without_bucket asked = steps _ _ 0 tt (in_missing old bucket none (lists old label.caller bucket asked))

    pub object_acl_without_bucket : (key : List ℕ) → S3Step settings old (GetObjectAcl bucket key) label (Refused NoSuchBucket) old
    object_acl_without_bucket key = steps _ _ 0 tt (in_missing old bucket none (shows_object_acl old key))

    pub set_object_acl_without_bucket : (key : List ℕ) (acl : Acl) → S3Step settings old (PutObjectAcl bucket key acl) label (Refused NoSuchBucket) old
    set_object_acl_without_bucket key acl = steps _ _ 0 tt (in_missing old bucket none (sets_object_acl old key acl))

    pub setting_without_bucket : (key : Option (List ℕ)) (unset : Unset) → S3Step settings old (GetSetting bucket key unset) label (Refused NoSuchBucket) old
    setting_without_bucket key unset = steps _ _ 0 tt (in_missing old bucket none (shows_setting old key unset))

  -- it is there
  module _ (b : Bucket) (found : get old bucket ≡ Some b) where
    pub step_full : is_bare b ≡ false → S3Step settings old (DeleteBucket bucket) label (Refused BucketNotEmpty) old
    step_full e = steps _ _ 0 tt (in_found old bucket b found (drops old bucket) ∙ unless_true _ _ _ _ (ap not e))

    pub step_dropped : is_bare b ≡ true → S3Step settings old (DeleteBucket bucket) label Gone (remove old bucket)
    step_dropped e = steps _ _ 0 tt (in_found old bucket b found (drops old bucket) ∙ unless_false _ _ _ _ (ap not e))

    pub show_denied : may_read label.caller b.acl ≡ false → S3Step settings old (HeadBucket bucket) label (Refused AccessDenied) old
    show_denied e = steps _ _ 0 tt (in_found old bucket b found (shows old label.caller) ∙ unless_true _ _ _ _ (ap not e))

    pub step_shown : may_read label.caller b.acl ≡ true → S3Step settings old (HeadBucket bucket) label Done old
    step_shown e = steps _ _ 0 tt (in_found old bucket b found (shows old label.caller) ∙ unless_false _ _ _ _ (ap not e))

    pub step_located : S3Step settings old (GetLocation bucket) label (Location settings.region) old
    step_located = steps _ _ 0 tt (in_found old bucket b found (locates settings old))

    pub step_acl_of : S3Step settings old (GetBucketAcl bucket) label (AclOf b.acl) old
    step_acl_of = steps _ _ 0 tt (in_found old bucket b found (shows_acl old))

    pub step_acl_set : (acl : Acl) → S3Step settings old (PutBucketAcl bucket acl) label Done (adjust bucket (with_acl acl) old)
    step_acl_set acl = steps _ _ 0 tt (in_found old bucket b found (sets_acl old bucket acl))

    pub list_denied : (asked : Asked) → may_read label.caller b.acl ≡ false → S3Step settings old (ListObjects bucket asked) label (Refused AccessDenied) old
    list_denied asked e = steps _ _ 0 tt (in_found old bucket b found (lists old label.caller bucket asked) ∙ unless_true _ _ _ _ (ap not e))

    pub step_items : (asked : Asked) → may_read label.caller b.acl ≡ true
        → S3Step settings old (ListObjects bucket asked) label (listing_reply bucket asked (listing asked b.objects)) old
    step_items asked e = steps _ _ 0 tt (in_found old bucket b found (lists old label.caller bucket asked) ∙ unless_false _ _ _ _ (ap not e))

    pub object_acl_without_key : (key : List ℕ) → get b.objects key ≡ None → S3Step settings old (GetObjectAcl bucket key) label (Refused NoSuchKey) old
    object_acl_without_key key none = steps _ _ 0 tt (in_found old bucket b found (shows_object_acl old key)
        ∙ ap (λ o. in_object_by o old (λ x. gives (AclOf b.acl) old)) none)

    pub step_object_acl : (key : List ℕ) (o : Object) → get b.objects key ≡ Some o → S3Step settings old (GetObjectAcl bucket key) label (AclOf b.acl) old
    step_object_acl key o there = steps _ _ 0 tt (in_found old bucket b found (shows_object_acl old key)
        ∙ ap (λ o. in_object_by o old (λ x. gives (AclOf b.acl) old)) there)

    -- an object is given a list
    module _ (key : List ℕ) (acl : Acl) where
      abbrev set_by : Object → Outcome
      set_by o = unless (is_other_acl (Some acl) b.acl) AccessControlListNotSupported old (gives Done old)

      pub set_object_acl_without_key : get b.objects key ≡ None → S3Step settings old (PutObjectAcl bucket key acl) label (Refused NoSuchKey) old
      set_object_acl_without_key none = steps _ _ 0 tt (in_found old bucket b found (sets_object_acl old key acl) ∙ ap (λ o. in_object_by o old set_by) none)

      module _ (o : Object) (there : get b.objects key ≡ Some o) where
        pub set_object_acl_other : is_other_acl (Some acl) b.acl ≡ true → S3Step settings old (PutObjectAcl bucket key acl) label (Refused AccessControlListNotSupported) old
        set_object_acl_other e =
            steps _ _ 0 tt (in_found old bucket b found (sets_object_acl old key acl) ∙ ap (λ o. in_object_by o old set_by) there ∙ unless_true _ _ _ _ e)

        pub step_object_acl_set : is_other_acl (Some acl) b.acl ≡ false → S3Step settings old (PutObjectAcl bucket key acl) label Done old
        step_object_acl_set e =
            steps _ _ 0 tt (in_found old bucket b found (sets_object_acl old key acl) ∙ ap (λ o. in_object_by o old set_by) there ∙ unless_false _ _ _ _ e)

    -- a setting of the bucket, or of an object in it
    pub step_setting : (unset : Unset) → S3Step settings old (GetSetting bucket None unset) label (unset_reply unset) old
    step_setting unset = steps _ _ 0 tt (in_found old bucket b found (shows_setting old None unset))

    module _ (key : List ℕ) (unset : Unset) where
      pub setting_without_key : get b.objects key ≡ None → S3Step settings old (GetSetting bucket (Some key) unset) label (Refused NoSuchKey) old
      setting_without_key none = steps _ _ 0 tt (in_found old bucket b found (shows_setting old (Some key) unset)
          ∙ ap (λ o. in_object_by o old (λ x. gives (unset_reply unset) old)) none)

      pub step_object_setting : (o : Object) → get b.objects key ≡ Some o → S3Step settings old (GetSetting bucket (Some key) unset) label (unset_reply unset) old
      step_object_setting o there = steps _ _ 0 tt (in_found old bucket b found (shows_setting old (Some key) unset)
          ∙ ap (λ o. in_object_by o old (λ x. gives (unset_reply unset) old)) there)

-- ---- the operations on objects

-- a read by what it asks for
abbrev pub asked_read : List ℕ → List ℕ → Option Range → Conditions → Option ℕ → List Pair → ObjectRead
asked_read bucket key range conditions part shown = record { bucket = bucket; key = key; range = range; conditions = conditions; part = part; shown = shown }

module _ (old : State) (label : Label) (key : List ℕ) (f : Object → Outcome) (b : Bucket) where
  readable_denied : may_read label.caller b.acl ≡ false → in_readable old label.caller key f b ≡ refuses AccessDenied old
  readable_denied e = unless_true _ _ _ _ (ap not e)

  readable_none : may_read label.caller b.acl ≡ true → get b.objects key ≡ None → in_readable old label.caller key f b ≡ refuses NoSuchKey old
  readable_none e none = unless_false _ _ _ _ (ap not e) ∙ ap (λ o. in_object_by o old f) none

  readable_there : (o : Object) → may_read label.caller b.acl ≡ true → get b.objects key ≡ Some o → in_readable old label.caller key f b ≡ f o
  readable_there o e there = unless_false _ _ _ _ (ap not e) ∙ ap (λ o. in_object_by o old f) there

module _ (settings : Settings) (old : State) (bucket key : List ℕ) (label : Label) where
  -- in no bucket
  module _ (none : get old bucket ≡ None) where
    missing : (f : Bucket → Outcome) → in_bucket_by (get old bucket) old f ≡ refuses NoSuchBucket old
    missing = in_missing old bucket none

    pub put_without_bucket : (acl : Option Acl) (content_type : List ℕ) (meta : List Pair) (body : List ℕ) (only_if : OnlyIf) (checksum : Option Pair)
        → S3Step settings old (PutObject bucket key acl content_type meta body only_if checksum) label (Refused NoSuchBucket) old
    put_without_bucket acl content_type meta body only_if checksum = steps _ _ 0 tt (missing (puts old bucket key acl (new_object label.moment content_type meta body) only_if checksum))

    module _ (range : Option Range) (conditions : Conditions) (part : Option ℕ) (shown : List Pair) (chosen : Option Span)
        (free : IsFreeRead old (asked_read bucket key range conditions part shown) chosen) where
      pub get_without_bucket : S3Step settings old (GetObject bucket key range conditions part shown) label (Refused NoSuchBucket) old
      get_without_bucket = reads_steps _ _ chosen free (missing (in_readable old label.caller key (reads old (got (asked_read bucket key range conditions part shown) chosen))))

      pub head_without_bucket : S3Step settings old (HeadObject bucket key range conditions part shown) label (Refused NoSuchBucket) old
      head_without_bucket = reads_steps _ _ chosen free (missing (in_readable old label.caller key (reads old (headed (asked_read bucket key range conditions part shown) chosen))))

    pub delete_without_bucket : (only_if : OnlyIf) → S3Step settings old (DeleteObject bucket key only_if) label (Refused NoSuchBucket) old
    delete_without_bucket only_if = steps _ _ 0 tt (missing (deletes old bucket key only_if))

  -- in a bucket that is there
  module _ (b : Bucket) (found : get old bucket ≡ Some b) where
    there : (f : Bucket → Outcome) → in_bucket_by (get old bucket) old f ≡ f b
    there = in_found old bucket b found

    pub put_with_another_acl : (acl : Option Acl) (content_type : List ℕ) (meta : List Pair) (body : List ℕ) (only_if : OnlyIf) (checksum : Option Pair) → is_other_acl acl b.acl ≡ true
        → S3Step settings old (PutObject bucket key acl content_type meta body only_if checksum) label (Refused NotImplemented) old
    put_with_another_acl acl content_type meta body only_if checksum e = steps _ _ 0 tt (there (puts old bucket key acl (new_object label.moment content_type meta body) only_if checksum)
        ∙ unless_true _ _ _ _ e)

    pub put_held : (acl : Option Acl) (content_type : List ℕ) (meta : List Pair) (body : List ℕ) (only_if : OnlyIf) (checksum : Option Pair) (code : Code) → is_other_acl acl b.acl ≡ false → refusal_in only_if key b ≡ Some code
        → S3Step settings old (PutObject bucket key acl content_type meta body only_if checksum) label (Refused code) old
    put_held acl content_type meta body only_if checksum code e held = steps _ _ 0 tt (there (puts old bucket key acl (new_object label.moment content_type meta body) only_if checksum)
        ∙ unless_false _ _ _ _ e ∙ held_back _ _ _ _ held)

    pub step_stored : (acl : Option Acl) (content_type : List ℕ) (meta : List Pair) (body : List ℕ) (only_if : OnlyIf) (checksum : Option Pair) → is_other_acl acl b.acl ≡ false → refusal_in only_if key b ≡ None
        → S3Step settings old (PutObject bucket key acl content_type meta body only_if checksum) label (Stored (body_etag body) checksum) (adjust bucket (put_object key (new_object label.moment content_type meta body)) old)
    step_stored acl content_type meta body only_if checksum e met = steps _ _ 0 tt (there (puts old bucket key acl (new_object label.moment content_type meta body) only_if checksum)
        ∙ unless_false _ _ _ _ e ∙ not_held _ _ _ met)

    module _ (range : Option Range) (conditions : Conditions) (part : Option ℕ) (shown : List Pair) (chosen : Option Span)
        (free : IsFreeRead old (asked_read bucket key range conditions part shown) chosen) where
      abbrev answers_get : Object → Outcome
      answers_get = reads old (got (asked_read bucket key range conditions part shown) chosen)

      abbrev answers_head : Object → Outcome
      answers_head = reads old (headed (asked_read bucket key range conditions part shown) chosen)

      pub get_denied : may_read label.caller b.acl ≡ false → S3Step settings old (GetObject bucket key range conditions part shown) label (Refused AccessDenied) old
      get_denied e = reads_steps _ _ chosen free (there (in_readable old label.caller key answers_get) ∙ readable_denied old label key answers_get b e)

      pub head_denied : may_read label.caller b.acl ≡ false → S3Step settings old (HeadObject bucket key range conditions part shown) label (Refused AccessDenied) old
      head_denied e = reads_steps _ _ chosen free (there (in_readable old label.caller key answers_head) ∙ readable_denied old label key answers_head b e)

      pub get_without_key : may_read label.caller b.acl ≡ true → get b.objects key ≡ None
          → S3Step settings old (GetObject bucket key range conditions part shown) label (Refused NoSuchKey) old
      get_without_key e none = reads_steps _ _ chosen free (there (in_readable old label.caller key answers_get) ∙ readable_none old label key answers_get b e none)

      pub head_without_key : may_read label.caller b.acl ≡ true → get b.objects key ≡ None
          → S3Step settings old (HeadObject bucket key range conditions part shown) label (Refused NoSuchKey) old
      head_without_key e none = reads_steps _ _ chosen free (there (in_readable old label.caller key answers_head) ∙ readable_none old label key answers_head b e none)

      pub step_read : (o : Object) → may_read label.caller b.acl ≡ true → get b.objects key ≡ Some o
          → S3Step settings old (GetObject bucket key range conditions part shown) label (got (asked_read bucket key range conditions part shown) chosen o) old
      step_read o e is = reads_steps _ _ chosen free (there (in_readable old label.caller key answers_get) ∙ readable_there old label key answers_get b o e is)

      pub step_headed : (o : Object) → may_read label.caller b.acl ≡ true → get b.objects key ≡ Some o
          → S3Step settings old (HeadObject bucket key range conditions part shown) label (headed (asked_read bucket key range conditions part shown) chosen o) old
      step_headed o e is = reads_steps _ _ chosen free (there (in_readable old label.caller key answers_head) ∙ readable_there old label key answers_head b o e is)

    -- also where nothing stands under the key
    pub step_gone : (only_if : OnlyIf) → refusal_in only_if key b ≡ None → S3Step settings old (DeleteObject bucket key only_if) label Gone (adjust bucket (drop_object key) old)
    step_gone only_if met = steps _ _ 0 tt (there (deletes old bucket key only_if) ∙ not_held _ _ _ met)

    pub delete_held : (only_if : OnlyIf) (code : Code) → refusal_in only_if key b ≡ Some code → S3Step settings old (DeleteObject bucket key only_if) label (Refused code) old
    delete_held only_if code held = steps _ _ 0 tt (there (deletes old bucket key only_if) ∙ held_back _ _ _ _ held)

-- many keys are deleted at once
pub delete_all_without_bucket : (settings : Settings) (old : State) (bucket : List ℕ) (keys : List (List ℕ)) (quiet : Bool) (label : Label) → get old bucket ≡ None
    → S3Step settings old (DeleteObjects bucket keys quiet) label (Refused NoSuchBucket) old
delete_all_without_bucket settings old bucket keys quiet label none = steps _ _ 0 tt (in_missing old bucket none (deletes_all old bucket keys quiet))

pub step_deleted : (settings : Settings) (old : State) (bucket : List ℕ) (keys : List (List ℕ)) (quiet : Bool) (label : Label) (b : Bucket) → get old bucket ≡ Some b
    → S3Step settings old (DeleteObjects bucket keys quiet) label (Deleted keys quiet) (adjust bucket (drop_objects keys) old)
step_deleted settings old bucket keys quiet label b found = steps _ _ 0 tt (in_found old bucket b found (deletes_all old bucket keys quiet))

-- ---- the operations on uploads

-- an upload that is open in a bucket, of this key
pub record HasUpload (old : State) (bucket key id : List ℕ) : Type 0 where
  pub b : Bucket
  pub u : Upload
  pub in_bucket : get old bucket ≡ Some b
  pub in_uploads : get b.uploads id ≡ Some u
  pub of_key : bytes_eq u.key key ≡ true

module _ (old : State) (key id : List ℕ) (f : Upload → Outcome) (b : Bucket) where
  pub upload_none : get b.uploads id ≡ None → in_upload old key id f b ≡ refuses NoSuchUpload old
  upload_none none = ap (λ v. in_upload_by v key old f) none

  pub upload_other : (u : Upload) → get b.uploads id ≡ Some u → bytes_eq u.key key ≡ false → in_upload old key id f b ≡ refuses NoSuchUpload old
  upload_other u there other = ap (λ v. in_upload_by v key old f) there ∙ unless_true _ _ _ _ (ap not other)

  pub upload_there : (u : Upload) → get b.uploads id ≡ Some u → bytes_eq u.key key ≡ true → in_upload old key id f b ≡ f u
  upload_there u there same = ap (λ v. in_upload_by v key old f) there ∙ unless_false _ _ _ _ (ap not same)

module _ (settings : Settings) (old : State) (bucket key id : List ℕ) (label : Label) (has : HasUpload old bucket key id) where
  within : (f : Upload → Outcome) → in_bucket_by (get old bucket) old (in_upload old key id f) ≡ f has.u
  within f = in_found old bucket has.b has.in_bucket (in_upload old key id f) ∙ upload_there old key id f has.b has.u has.in_uploads has.of_key

  pub step_part : (number : ℕ) (body : List ℕ) (checksum : Option Pair)
      → S3Step settings old (UploadPart bucket key id number body checksum) label (Stored (body_etag body) checksum) (adjust bucket (on_upload id (with_part number (new_part label.moment body))) old)
  step_part number body checksum = steps _ _ 0 tt (within (puts_part old bucket id number (new_part label.moment body) checksum))

  pub step_parts : (marker max : ℕ) → S3Step settings old (ListParts bucket key id marker max) label (parts_reply bucket key id marker max has.u) old
  step_parts marker max = steps _ _ 0 tt (within (lists_parts old bucket key id marker max))

  pub step_aborted : S3Step settings old (AbortUpload bucket key id) label Gone (adjust bucket (drop_upload id) old)
  step_aborted = steps _ _ 0 tt (within (aborts old bucket id))

  -- a completion by the parts that it lists, but for its condition
  module _ (list : List Listed) (only_if : OnlyIf) (parts : List Part) (kept : kept_as key list (get has.b.kept id) ≡ None) (ascends : rises list ≡ true) (chose : chosen has.u.parts list ≡ Some parts)
      (least : is_too_small settings.least_part parts ≡ false) where
    chosen_all : in_bucket_by (get old bucket) old (completes settings old bucket key id list only_if label.moment)
        ≡ unless_refused (refusal_in only_if key has.b) old (gives (Completed bucket has.u.key (upload_etag (map etag_in parts))) (finished (completed bucket id has.u list parts label.moment) old))
    chosen_all =
        in_found old bucket has.b has.in_bucket (completes settings old bucket key id list only_if label.moment)
        ∙ ap (λ v. completes_by v settings old bucket key id list only_if label.moment has.b) kept
        ∙ upload_there old key id (completes_open settings old bucket id list (refusal_in only_if key has.b) label.moment) has.b has.u has.in_uploads has.of_key
        ∙ unless_false _ _ _ _ (ap not ascends)
        ∙ ap (completes_chosen settings old bucket id list (refusal_in only_if key has.b) label.moment has.u) chose
        ∙ unless_false _ _ _ _ least

    pub step_completed : refusal_in only_if key has.b ≡ None
        → S3Step settings old (CompleteUpload bucket key id list only_if) label (Completed bucket has.u.key (upload_etag (map etag_in parts))) (finished (completed bucket id has.u list parts label.moment) old)
    step_completed met = steps _ _ 0 tt (chosen_all ∙ not_held _ _ _ met)

    pub complete_held : (code : Code) → refusal_in only_if key has.b ≡ Some code → S3Step settings old (CompleteUpload bucket key id list only_if) label (Refused code) old
    complete_held code held = steps _ _ 0 tt (chosen_all ∙ held_back _ _ _ _ held)

module _ (settings : Settings) (old : State) (bucket : List ℕ) (label : Label) (b : Bucket) (found : get old bucket ≡ Some b) where
  -- an upload is created under a new id
  pub step_started : (key : List ℕ) (acl : Option Acl) (content_type : List ℕ) (meta : List Pair) (id : ℕ) → is_other_acl acl b.acl ≡ false → IsNewId b id
      → S3Step settings old (CreateUpload bucket key acl content_type meta) label (Started bucket key id)
      (adjust bucket (open_upload (id_digits id) (new_upload key content_type meta label.moment)) old)
  step_started key acl content_type meta id e new =
      steps _ _ id (λ other is given. let same : b ≡ other = cc in subst (λ b. IsNewId b id) same new)
      (in_found old bucket b found (starts old bucket key acl (new_upload key content_type meta label.moment) id) ∙ unless_false _ _ _ _ e)

  pub start_with_another_acl : (key : List ℕ) (acl : Option Acl) (content_type : List ℕ) (meta : List Pair) → is_other_acl acl b.acl ≡ true
      → S3Step settings old (CreateUpload bucket key acl content_type meta) label (Refused NotImplemented) old
  start_with_another_acl key acl content_type meta e =
      steps _ _ 0 (λ other is given. let same : b ≡ other = cc in absurd (true≢false (sym e ∙ ap (λ (b : Bucket). is_other_acl acl b.acl) same ∙ given)))
      (in_found old bucket b found (starts old bucket key acl (new_upload key content_type meta label.moment) 0) ∙ unless_true _ _ _ _ e)

  -- a completion that is kept is answered again
  pub step_repeated : (key id : List ℕ) (list : List Listed) (only_if : OnlyIf) (etag : List ℕ) → kept_as key list (get b.kept id) ≡ Some etag
      → S3Step settings old (CompleteUpload bucket key id list only_if) label (Completed bucket key etag) old
  step_repeated key id list only_if etag kept = steps _ _ 0 tt (
      in_found old bucket b found (completes settings old bucket key id list only_if label.moment)
      ∙ ap (λ v. completes_by v settings old bucket key id list only_if label.moment b) kept)

-- ---- copies

-- the object of a key in a bucket
pub record HasSource (old : State) (from_bucket from_key : List ℕ) : Type 0 where
  pub b : Bucket
  pub o : Object
  pub in_bucket : get old from_bucket ≡ Some b
  pub in_objects : get b.objects from_key ≡ Some o

module _ (old : State) (from_bucket from_key : List ℕ) (conditions : Conditions) (f : Object → Outcome) (b : Bucket) where
  pub source_without_bucket : get old from_bucket ≡ None → in_source old from_bucket from_key conditions f b ≡ refuses NoSuchBucket old
  source_without_bucket none = in_missing old from_bucket none (λ from. in_object_by (get from.objects from_key) old (copied_under conditions old f))

  pub source_without_key : (from : Bucket) → get old from_bucket ≡ Some from → get from.objects from_key ≡ None → in_source old from_bucket from_key conditions f b ≡ refuses NoSuchKey old
  source_without_key from found none =
      in_found old from_bucket from found (λ from. in_object_by (get from.objects from_key) old (copied_under conditions old f)) ∙ ap (λ v. in_object_by v old (copied_under conditions old f)) none

  source_found : (has : HasSource old from_bucket from_key) → in_source old from_bucket from_key conditions f b ≡ copied_under conditions old f has.o
  source_found has =
      in_found old from_bucket has.b has.in_bucket (λ from. in_object_by (get from.objects from_key) old (copied_under conditions old f))
      ∙ ap (λ v. in_object_by v old (copied_under conditions old f)) has.in_objects

  -- the source doesn't meet the conditions
  pub source_held : (has : HasSource old from_bucket from_key) → may_be_copied conditions (head_of has.o) ≡ false → in_source old from_bucket from_key conditions f b ≡ refuses fails_precondition old
  source_held has e = source_found has ∙ unless_true _ _ _ _ (ap not e)

  -- it meets them
  pub source_there : (has : HasSource old from_bucket from_key) → may_be_copied conditions (head_of has.o) ≡ true → in_source old from_bucket from_key conditions f b ≡ f has.o
  source_there has e = source_found has ∙ unless_false _ _ _ _ (ap not e)

module _ (settings : Settings) (old : State) (bucket key : List ℕ) (acl : Option Acl) (from_bucket from_key : List ℕ) (replaced : Option Described) (conditions : Conditions) (only_if : OnlyIf) (label : Label) where
  abbrev copying : Op
  copying = CopyObject bucket key acl from_bucket from_key replaced conditions only_if

  abbrev in_copies : Bucket → Outcome
  in_copies = copies old bucket key acl from_bucket from_key replaced conditions only_if label.moment

  pub copy_without_bucket : get old bucket ≡ None → S3Step settings old copying label (Refused NoSuchBucket) old
  copy_without_bucket none = steps _ _ 0 tt (in_missing old bucket none in_copies)

  module _ (b : Bucket) (found : get old bucket ≡ Some b) where
    abbrev object_copies : Object → Outcome
    object_copies = copies_object old bucket key from_bucket from_key replaced (refusal_in only_if key b) label.moment

    pub copy_with_another_acl : is_other_acl acl b.acl ≡ true → S3Step settings old copying label (Refused NotImplemented) old
    copy_with_another_acl e = steps _ _ 0 tt (in_found old bucket b found in_copies ∙ unless_true _ _ _ _ e)

    module _ (same : is_other_acl acl b.acl ≡ false) where
      of_source : in_bucket_by (get old bucket) old in_copies ≡ in_source old from_bucket from_key conditions object_copies b
      of_source = in_found old bucket b found in_copies ∙ unless_false _ _ _ _ same

      pub copy_without_source_bucket : get old from_bucket ≡ None → S3Step settings old copying label (Refused NoSuchBucket) old
      copy_without_source_bucket none = steps _ _ 0 tt (of_source ∙ source_without_bucket old from_bucket from_key conditions object_copies b none)

      pub copy_without_source : (from : Bucket) → get old from_bucket ≡ Some from → get from.objects from_key ≡ None → S3Step settings old copying label (Refused NoSuchKey) old
      copy_without_source from there none = steps _ _ 0 tt (of_source ∙ source_without_key old from_bucket from_key conditions object_copies b from there none)

      module _ (has : HasSource old from_bucket from_key) where
        pub copy_held : may_be_copied conditions (head_of has.o) ≡ false → S3Step settings old copying label (Refused fails_precondition) old
        copy_held held = steps _ _ 0 tt (of_source ∙ source_held old from_bucket from_key conditions object_copies b has held)

        pub copy_onto_itself : may_be_copied conditions (head_of has.o) ≡ true → is_onto_itself bucket key from_bucket from_key replaced ≡ true
            → S3Step settings old copying label (Refused InvalidRequest) old
        copy_onto_itself met e = steps _ _ 0 tt (of_source ∙ source_there old from_bucket from_key conditions object_copies b has met ∙ unless_true _ _ _ _ e)

        -- by its own condition
        pub copy_refused : may_be_copied conditions (head_of has.o) ≡ true → is_onto_itself bucket key from_bucket from_key replaced ≡ false → (code : Code) → refusal_in only_if key b ≡ Some code
            → S3Step settings old copying label (Refused code) old
        copy_refused met e code held = steps _ _ 0 tt (of_source ∙ source_there old from_bucket from_key conditions object_copies b has met ∙ unless_false _ _ _ _ e ∙ held_back _ _ _ _ held)

        pub step_copied : may_be_copied conditions (head_of has.o) ≡ true → is_onto_itself bucket key from_bucket from_key replaced ≡ false → refusal_in only_if key b ≡ None
            → S3Step settings old copying label (Copied false has.o.etag label.moment) (adjust bucket (put_object key (copied replaced label.moment has.o)) old)
        step_copied met e kept = steps _ _ 0 tt (of_source ∙ source_there old from_bucket from_key conditions object_copies b has met ∙ unless_false _ _ _ _ e ∙ not_held _ _ _ kept)

-- the bytes of a part that is copied of an object
abbrev pub bytes_copied : Option (ℕ × ℕ) → Object → List ℕ
bytes_copied range o = taken (copied_span range (length o.bytes)) o.bytes

module _ (settings : Settings) (old : State) (bucket key id : List ℕ) (number : ℕ) (from_bucket from_key : List ℕ) (range : Option (ℕ × ℕ)) (conditions : Conditions) (label : Label) where
  abbrev part_copying : Op
  part_copying = CopyPart bucket key id number from_bucket from_key range conditions

  abbrev bytes_copies : Object → Outcome
  bytes_copies = copies_bytes settings old bucket id number range label.moment

  abbrev part_copies : Bucket → Outcome
  part_copies = copies_part settings old bucket key id number from_bucket from_key range conditions label.moment

  pub part_copy_without_bucket : get old bucket ≡ None → S3Step settings old part_copying label (Refused NoSuchBucket) old
  part_copy_without_bucket none = steps _ _ 0 tt (in_missing old bucket none part_copies)

  module _ (b : Bucket) (found : get old bucket ≡ Some b) where
    abbrev of_upload : Upload → Outcome
    of_upload u = in_source old from_bucket from_key conditions bytes_copies b

    pub part_copy_without_upload : get b.uploads id ≡ None → S3Step settings old part_copying label (Refused NoSuchUpload) old
    part_copy_without_upload none = steps _ _ 0 tt (in_found old bucket b found part_copies ∙ upload_none old key id of_upload b none)

    pub part_copy_of_other : (u : Upload) → get b.uploads id ≡ Some u → bytes_eq u.key key ≡ false → S3Step settings old part_copying label (Refused NoSuchUpload) old
    part_copy_of_other u there other = steps _ _ 0 tt (in_found old bucket b found part_copies ∙ upload_other old key id of_upload b u there other)

  module _ (opened : HasUpload old bucket key id) where
    in_open : in_bucket_by (get old bucket) old part_copies ≡ in_source old from_bucket from_key conditions bytes_copies opened.b
    in_open = in_found old bucket opened.b opened.in_bucket part_copies
        ∙ upload_there old key id (λ u. in_source old from_bucket from_key conditions bytes_copies opened.b) opened.b opened.u opened.in_uploads opened.of_key

    pub part_copy_without_source_bucket : get old from_bucket ≡ None → S3Step settings old part_copying label (Refused NoSuchBucket) old
    part_copy_without_source_bucket none = steps _ _ 0 tt (in_open ∙ source_without_bucket old from_bucket from_key conditions bytes_copies opened.b none)

    pub part_copy_without_source : (from : Bucket) → get old from_bucket ≡ Some from → get from.objects from_key ≡ None → S3Step settings old part_copying label (Refused NoSuchKey) old
    part_copy_without_source from there none = steps _ _ 0 tt (in_open ∙ source_without_key old from_bucket from_key conditions bytes_copies opened.b from there none)

    pub part_copy_held : (has : HasSource old from_bucket from_key) → may_be_copied conditions (head_of has.o) ≡ false → S3Step settings old part_copying label (Refused fails_precondition) old
    part_copy_held has held = steps _ _ 0 tt (in_open ∙ source_held old from_bucket from_key conditions bytes_copies opened.b has held)

    module _ (has : HasSource old from_bucket from_key) (met : may_be_copied conditions (head_of has.o) ≡ true) where
      of_object : in_bucket_by (get old bucket) old part_copies ≡ bytes_copies has.o
      of_object = in_open ∙ source_there old from_bucket from_key conditions bytes_copies opened.b has met

      pub part_copy_past_end : has_last range (length has.o.bytes) ≡ false → S3Step settings old part_copying label (Refused (bad_range None)) old
      part_copy_past_end e = steps _ _ 0 tt (of_object ∙ unless_true _ _ _ _ (ap not e))

      pub part_copy_too_large : has_last range (length has.o.bytes) ≡ true → nat_lt (body_limit settings) (copied_span range (length has.o.bytes)).length ≡ true
          → S3Step settings old part_copying label (Refused EntityTooLarge) old
      part_copy_too_large e large = steps _ _ 0 tt (of_object ∙ unless_false _ _ _ _ (ap not e) ∙ unless_true _ _ _ _ large)

      pub step_part_copied : has_last range (length has.o.bytes) ≡ true → nat_lt (body_limit settings) (copied_span range (length has.o.bytes)).length ≡ false
          → S3Step settings old part_copying label (Copied true (body_etag (bytes_copied range has.o)) label.moment)
          (adjust bucket (on_upload id (with_part number (new_part label.moment (bytes_copied range has.o)))) old)
      step_part_copied e small = steps _ _ 0 tt (of_object ∙ unless_false _ _ _ _ (ap not e) ∙ unless_false _ _ _ _ small)

-- ---- the replies of outcomes, for any property of replies

module _ (P : Reply → Type 0) where
  pub unless_has : (t : Bool) (code : Code) (old : State) (rest : Outcome) → P (Refused code) → P rest.reply → P (unless t code old rest).reply
  unless_has true code old rest refused own = refused
  unless_has false code old rest refused own = own

  pub unless_refused_has : (held : Option Code) (old : State) (rest : Outcome) → ((code : Code) → held ≡ Some code → P (Refused code)) → P rest.reply → P (unless_refused held old rest).reply
  unless_refused_has None old rest refused own = own
  unless_refused_has (Some code) old rest refused own = refused code refl

  pub in_bucket_has : (v : Option Bucket) (old : State) (f : Bucket → Outcome) → P (Refused NoSuchBucket) → ((b : Bucket) → v ≡ Some b → P (f b).reply) → P (in_bucket_by v old f).reply
  in_bucket_has None old f refused own = refused
  in_bucket_has (Some b) old f refused own = own b refl

  pub in_object_has : (v : Option Object) (old : State) (f : Object → Outcome) → P (Refused NoSuchKey) → ((o : Object) → v ≡ Some o → P (f o).reply) → P (in_object_by v old f).reply
  in_object_has None old f refused own = refused
  in_object_has (Some o) old f refused own = own o refl

  pub in_source_has : (old : State) (from_bucket from_key : List ℕ) (conditions : Conditions) (f : Object → Outcome) (b : Bucket)
      → P (Refused NoSuchBucket) → P (Refused NoSuchKey) → P (Refused fails_precondition) → ((o : Object) → P (f o).reply)
      → P (in_source old from_bucket from_key conditions f b).reply
  in_source_has old from_bucket from_key conditions f b no_bucket no_key held own =
      in_bucket_has (get old from_bucket) old (λ from. in_object_by (get from.objects from_key) old (copied_under conditions old f)) no_bucket
      (λ from there. in_object_has (get from.objects from_key) old (copied_under conditions old f) no_key
      (λ o is. unless_has (not (may_be_copied conditions (head_of o))) fails_precondition old (f o) held (own o)))

  pub in_upload_has : (v : Option Upload) (key : List ℕ) (old : State) (f : Upload → Outcome) → P (Refused NoSuchUpload) → ((u : Upload) → v ≡ Some u → P (f u).reply) → P (in_upload_by v key old f).reply
  in_upload_has None key old f refused own = refused
  in_upload_has (Some u) key old f refused own = unless_has _ NoSuchUpload old (f u) refused (own u refl)

  pub chosen_has : (v : Option (List Part)) (settings : Settings) (old : State) (bucket id : List ℕ) (list : List Listed) (held : Option Code) (moment : ℕ) (u : Upload)
      → P (Refused InvalidPart) → P (Refused EntityTooSmall) → ((code : Code) → held ≡ Some code → P (Refused code)) → ((etag : List ℕ) → P (Completed bucket u.key etag)) → P (completes_chosen settings old bucket id list held moment u v).reply
  chosen_has None settings old bucket id list held moment u missing small refused own = missing
  chosen_has (Some parts) settings old bucket id list held moment u missing small refused own = unless_has _ EntityTooSmall old _ small (unless_refused_has held old _ refused (own _))

  pub completes_has : (v : Option (List ℕ)) (settings : Settings) (old : State) (bucket key id : List ℕ) (list : List Listed) (only_if : OnlyIf) (moment : ℕ) (b : Bucket)
      → ((code : Code) → (code ≡ NoSuchUpload) ⊎ ((code ≡ InvalidPartOrder) ⊎ ((code ≡ InvalidPart) ⊎ ((code ≡ EntityTooSmall) ⊎ ((code ≡ NoSuchKey) ⊎ (code ≡ fails_precondition))))) → P (Refused code))
      → ((name etag : List ℕ) → P (Completed bucket name etag)) → P (completes_by v settings old bucket key id list only_if moment b).reply
  completes_has (Some etag) settings old bucket key id list only_if moment b refused own = own key etag
  completes_has None settings old bucket key id list only_if moment b refused own =
      in_upload_has (get b.uploads id) key old (completes_open settings old bucket id list (refusal_in only_if key b) moment) (refused NoSuchUpload (inl refl))
      (λ u there. unless_has (not (rises list)) InvalidPartOrder old (completes_chosen settings old bucket id list (refusal_in only_if key b) moment u (chosen u.parts list)) (refused InvalidPartOrder (inr (inl refl)))
      (chosen_has (chosen u.parts list) settings old bucket id list (refusal_in only_if key b) moment u (refused InvalidPart (inr (inr (inl refl)))) (refused EntityTooSmall (inr (inr (inr (inl refl)))))
      (λ code held. refused code (inr (inr (inr (inr (refusal_is only_if _ code held)))))) (own u.key)))

-- ---- the replies of the machine

-- a reply that tells of the machine alone, not of memory or of a store
abbrev IsMachineReply : Reply → Type 0
IsMachineReply reply = (reply ≢ Memory) × (reply ≢ Refused ServiceUnavailable) × (reply ≢ Refused InconsistentStore)

listed_reply : (asked : BucketListing) (listed : List BucketItem × Bool) (reply : Reply) → reply ≡ buckets_reply asked listed → IsMachineReply reply
listed_reply asked listed reply e = ((λ f. cc), (λ f. cc), (λ f. cc))

creates_reply : (v : Option Bucket) (old : State) (name : List ℕ) (acl : Acl) (moment : ℕ) (reply : Reply)
    → reply ≡ (creates v old name acl moment).reply → IsMachineReply reply
creates_reply None old name acl moment reply e = ((λ f. cc), (λ f. cc), (λ f. cc))
creates_reply (Some b) old name acl moment reply e = ((λ f. cc), (λ f. cc), (λ f. cc))

-- the replies of the operations on buckets
module _ (old : State) (reply : Reply) where
  drops_reply : (t : Bool) (new : State) → reply ≡ (unless t BucketNotEmpty old (gives Gone new)).reply → IsMachineReply reply
  drops_reply true new e = ((λ f. cc), (λ f. cc), (λ f. cc))
  drops_reply false new e = ((λ f. cc), (λ f. cc), (λ f. cc))

  drop_reply : (v : Option Bucket) (bucket : List ℕ) → reply ≡ (in_bucket_by v old (drops old bucket)).reply → IsMachineReply reply
  drop_reply None bucket e = ((λ f. cc), (λ f. cc), (λ f. cc))
  drop_reply (Some b) bucket e = drops_reply (not (is_bare b)) _ e

  shows_reply : (t : Bool) → reply ≡ (unless t AccessDenied old (gives Done old)).reply → IsMachineReply reply
  shows_reply true e = ((λ f. cc), (λ f. cc), (λ f. cc))
  shows_reply false e = ((λ f. cc), (λ f. cc), (λ f. cc))

  show_reply : (v : Option Bucket) (label : Label) → reply ≡ (in_bucket_by v old (shows old label.caller)).reply → IsMachineReply reply
  show_reply None label e = ((λ f. cc), (λ f. cc), (λ f. cc))
  show_reply (Some b) label e = shows_reply (not (may_read label.caller b.acl)) e

  lists_reply : (t : Bool) (name : List ℕ) (asked : Asked) (listed : List (List ℕ × Option ItemHead) × Bool)
      → reply ≡ (unless t AccessDenied old (gives (listing_reply name asked listed) old)).reply → IsMachineReply reply
  lists_reply true name asked listed e = ((λ f. cc), (λ f. cc), (λ f. cc))
  lists_reply false name asked listed e = ((λ f. cc), (λ f. cc), (λ f. cc))

  list_reply : (v : Option Bucket) (label : Label) (name : List ℕ) (asked : Asked) → reply ≡ (in_bucket_by v old (lists old label.caller name asked)).reply
      → IsMachineReply reply
  list_reply None label name asked e = ((λ f. cc), (λ f. cc), (λ f. cc))
  list_reply (Some b) label name asked e = lists_reply (not (may_read label.caller b.acl)) name asked (listing asked b.objects) e

  locate_reply : (v : Option Bucket) (settings : Settings) → reply ≡ (in_bucket_by v old (locates settings old)).reply → IsMachineReply reply
  locate_reply None settings e = ((λ f. cc), (λ f. cc), (λ f. cc))
  locate_reply (Some b) settings e = ((λ f. cc), (λ f. cc), (λ f. cc))

  acl_reply : (v : Option Bucket) → reply ≡ (in_bucket_by v old (shows_acl old)).reply → IsMachineReply reply
  acl_reply None e = ((λ f. cc), (λ f. cc), (λ f. cc))
  acl_reply (Some b) e = ((λ f. cc), (λ f. cc), (λ f. cc))

  set_reply : (v : Option Bucket) (bucket : List ℕ) (acl : Acl) → reply ≡ (in_bucket_by v old (sets_acl old bucket acl)).reply → IsMachineReply reply
  set_reply None bucket acl e = ((λ f. cc), (λ f. cc), (λ f. cc))
  set_reply (Some b) bucket acl e = ((λ f. cc), (λ f. cc), (λ f. cc))

  object_acl_by : (v : Option Object) (acl : Acl) → reply ≡ (in_object_by v old (λ x. gives (AclOf acl) old)).reply → IsMachineReply reply
  object_acl_by None acl e = ((λ f. cc), (λ f. cc), (λ f. cc))
  object_acl_by (Some o) acl e = ((λ f. cc), (λ f. cc), (λ f. cc))

  object_acl_reply : (v : Option Bucket) (key : List ℕ) → reply ≡ (in_bucket_by v old (shows_object_acl old key)).reply → IsMachineReply reply
  object_acl_reply None key e = ((λ f. cc), (λ f. cc), (λ f. cc))
  object_acl_reply (Some b) key e = object_acl_by (get b.objects key) b.acl e

-- the replies of the operations that read an object
read_by_reply : (part : Option ℕ) (shown : List Pair) (head : ObjectHead) (bytes : Span → List ℕ) (j : Judged) → IsMachineReply (read_by part shown head bytes j)
read_by_reply part shown head bytes PreconditionFailed = ((λ f. cc), (λ f. cc), (λ f. cc))
read_by_reply part shown head bytes NotModified = ((λ f. cc), (λ f. cc), (λ f. cc))
read_by_reply None shown head bytes InvalidRange = ((λ f. cc), (λ f. cc), (λ f. cc))
read_by_reply (Some n) shown head bytes InvalidRange = ((λ f. cc), (λ f. cc), (λ f. cc))
read_by_reply part shown head bytes (Bytes span partial) = ((λ f. cc), (λ f. cc), (λ f. cc))

got_reply : (read : ObjectRead) (chosen : Option Span) (o : Object) → IsMachineReply (got read chosen o)
got_reply read chosen o = read_by_reply read.part read.shown (head_of o) (λ span. taken span o.bytes) (judged_read read chosen (head_of o))

headed_reply : (read : ObjectRead) (chosen : Option Span) (o : Object) → IsMachineReply (headed read chosen o)
headed_reply read chosen o = read_by_reply read.part read.shown (head_of o) (λ span. []) (judged_read read chosen (head_of o))

-- the replies of settings
unset_is_own : (unset : Unset) → IsMachineReply (unset_reply unset)
unset_is_own (unset_as.Named code) = ((λ f. cc), (λ f. cc), (λ f. cc))
unset_is_own (unset_as.Empty page) = ((λ f. cc), (λ f. cc), (λ f. cc))

setting_is_own : (old : State) (key : Option (List ℕ)) (unset : Unset) (b : Bucket) → IsMachineReply (shows_setting old key unset b).reply
setting_is_own old None unset b = unset_is_own unset
setting_is_own old (Some key) unset b =
    in_object_has IsMachineReply (get b.objects key) old (λ o. gives (unset_reply unset) old) ((λ f. cc), (λ f. cc), (λ f. cc)) (λ o there. unset_is_own unset)

setting_reply : (old : State) (v : Option Bucket) (key : Option (List ℕ)) (unset : Unset) → IsMachineReply (in_bucket_by v old (shows_setting old key unset)).reply
setting_reply old v key unset = in_bucket_has IsMachineReply v old (shows_setting old key unset) ((λ f. cc), (λ f. cc), (λ f. cc)) (λ b e. setting_is_own old key unset b)

-- that of an object that is given a list
set_object_acl_reply : (old : State) (v : Option Bucket) (key : List ℕ) (acl : Acl) → IsMachineReply (in_bucket_by v old (sets_object_acl old key acl)).reply
set_object_acl_reply old v key acl =
    in_bucket_has IsMachineReply v old (sets_object_acl old key acl) ((λ f. cc), (λ f. cc), (λ f. cc))
    (λ b e. in_object_has IsMachineReply (get b.objects key) old (λ o. unless (is_other_acl (Some acl) b.acl) AccessControlListNotSupported old (gives Done old)) ((λ f. cc), (λ f. cc), (λ f. cc))
    (λ o there. unless_has IsMachineReply (is_other_acl (Some acl) b.acl) AccessControlListNotSupported old (gives Done old) ((λ f. cc), (λ f. cc), (λ f. cc)) ((λ f. cc), (λ f. cc), (λ f. cc))))

-- the replies of a write by its condition
condition_reply : (code : Code) → (code ≡ NoSuchKey) ⊎ (code ≡ fails_precondition) → IsMachineReply (Refused code)
condition_reply code (inl is) = ((λ f. cc), (λ f. cc), (λ f. cc))
condition_reply code (inr is) = ((λ f. cc), (λ f. cc), (λ f. cc))

held_reply : (old : State) (only_if : OnlyIf) (key : List ℕ) (b : Bucket) (rest : Outcome) → IsMachineReply rest.reply → IsMachineReply (unless_refused (refusal_in only_if key b) old rest).reply
held_reply old only_if key b rest own = unless_refused_has IsMachineReply (refusal_in only_if key b) old rest (λ code held. condition_reply code (refusal_is only_if _ code held)) own

-- the replies of the operations on objects
module _ (old : State) (reply : Reply) where
  puts_reply : (t : Bool) (only_if : OnlyIf) (checksum : Option Pair) (key : List ℕ) (b : Bucket) (etag : List ℕ) (new : State)
      → reply ≡ (unless t NotImplemented old (unless_refused (refusal_in only_if key b) old (gives (Stored etag checksum) new))).reply → IsMachineReply reply
  puts_reply true only_if checksum key b etag new e = ((λ f. cc), (λ f. cc), (λ f. cc))
  puts_reply false only_if checksum key b etag new e = subst IsMachineReply (sym e) (held_reply old only_if key b (gives (Stored etag checksum) new) ((λ f. cc), (λ f. cc), (λ f. cc)))

  put_reply : (v : Option Bucket) (bucket key : List ℕ) (acl : Option Acl) (o : Object) (only_if : OnlyIf) (checksum : Option Pair) → reply ≡ (in_bucket_by v old (puts old bucket key acl o only_if checksum)).reply
      → IsMachineReply reply
  put_reply None bucket key acl o only_if checksum e = ((λ f. cc), (λ f. cc), (λ f. cc))
  put_reply (Some b) bucket key acl o only_if checksum e = puts_reply (is_other_acl acl b.acl) only_if checksum key b _ _ e

  answered_reply : (v : Option Object) (answer : Object → Reply) → ((o : Object) → IsMachineReply (answer o)) → reply ≡ (in_object_by v old (reads old answer)).reply
      → IsMachineReply reply
  answered_reply None answer own e = ((λ f. cc), (λ f. cc), (λ f. cc))
  answered_reply (Some o) answer own e = subst IsMachineReply (sym e) (own o)

  readable_reply : (t : Bool) (rest : Outcome) → (reply ≡ rest.reply → IsMachineReply reply) → reply ≡ (unless t AccessDenied old rest).reply
      → IsMachineReply reply
  readable_reply true rest own e = ((λ f. cc), (λ f. cc), (λ f. cc))
  readable_reply false rest own e = own e

  read_reply : (v : Option Bucket) (label : Label) (key : List ℕ) (answer : Object → Reply) → ((o : Object) → IsMachineReply (answer o))
      → reply ≡ (in_bucket_by v old (in_readable old label.caller key (reads old answer))).reply → IsMachineReply reply
  read_reply None label key answer own e = ((λ f. cc), (λ f. cc), (λ f. cc))
  read_reply (Some b) label key answer own e = readable_reply (not (may_read label.caller b.acl)) _ (answered_reply (get b.objects key) answer own) e

  delete_reply : (v : Option Bucket) (bucket key : List ℕ) (only_if : OnlyIf) → reply ≡ (in_bucket_by v old (deletes old bucket key only_if)).reply → IsMachineReply reply
  delete_reply None bucket key only_if e = ((λ f. cc), (λ f. cc), (λ f. cc))
  delete_reply (Some b) bucket key only_if e = subst IsMachineReply (sym e) (held_reply old only_if key b (gives Gone (adjust bucket (drop_object key) old)) ((λ f. cc), (λ f. cc), (λ f. cc)))

-- that of the deletion of many keys
delete_all_reply : (old : State) (v : Option Bucket) (bucket : List ℕ) (keys : List (List ℕ)) (quiet : Bool) → IsMachineReply (in_bucket_by v old (deletes_all old bucket keys quiet)).reply
delete_all_reply old v bucket keys quiet =
    in_bucket_has IsMachineReply v old (deletes_all old bucket keys quiet) ((λ f. cc), (λ f. cc), (λ f. cc)) (λ b e. ((λ f. cc), (λ f. cc), (λ f. cc)))

-- the replies of the operations on uploads
module _ (old : State) where
  lists_uploads_reply : (v : Option Bucket) (bucket prefix key_marker id_marker : List ℕ) (max : ℕ) (url : Bool) → IsMachineReply (in_bucket_by v old (lists_uploads old bucket prefix key_marker id_marker max url)).reply
  lists_uploads_reply v bucket prefix key_marker id_marker max url =
      in_bucket_has IsMachineReply v old (lists_uploads old bucket prefix key_marker id_marker max url) ((λ f. cc), (λ f. cc), (λ f. cc)) (λ b e. ((λ f. cc), (λ f. cc), (λ f. cc)))

  starts_reply : (v : Option Bucket) (bucket key : List ℕ) (acl : Option Acl) (u : Upload) (id : ℕ) → IsMachineReply (in_bucket_by v old (starts old bucket key acl u id)).reply
  starts_reply v bucket key acl u id =
      in_bucket_has IsMachineReply v old (starts old bucket key acl u id) ((λ f. cc), (λ f. cc), (λ f. cc))
      (λ b e. unless_has IsMachineReply (is_other_acl acl b.acl) NotImplemented old (gives (Started bucket key id) (adjust bucket (open_upload (id_digits id) u) old)) ((λ f. cc), (λ f. cc), (λ f. cc)) ((λ f. cc), (λ f. cc), (λ f. cc)))

  upload_reply : (v : Option Bucket) (key id : List ℕ) (f : Upload → Outcome) → ((u : Upload) → IsMachineReply (f u).reply) → IsMachineReply (in_bucket_by v old (in_upload old key id f)).reply
  upload_reply v key id f own =
      in_bucket_has IsMachineReply v old (in_upload old key id f) ((λ f. cc), (λ f. cc), (λ f. cc))
      (λ b e. in_upload_has IsMachineReply (get b.uploads id) key old f ((λ f. cc), (λ f. cc), (λ f. cc)) (λ u e. own u))

  refused_code : (code : Code) → (code ≡ NoSuchUpload) ⊎ ((code ≡ InvalidPartOrder) ⊎ ((code ≡ InvalidPart) ⊎ ((code ≡ EntityTooSmall) ⊎ ((code ≡ NoSuchKey) ⊎ (code ≡ fails_precondition))))) → IsMachineReply (Refused code)
  refused_code code (inl is) = ((λ f. cc), (λ f. cc), (λ f. cc))
  refused_code code (inr (inl is)) = ((λ f. cc), (λ f. cc), (λ f. cc))
  refused_code code (inr (inr (inl is))) = ((λ f. cc), (λ f. cc), (λ f. cc))
  refused_code code (inr (inr (inr (inl is)))) = ((λ f. cc), (λ f. cc), (λ f. cc))
  refused_code code (inr (inr (inr (inr is)))) = condition_reply code is

  completes_reply : (v : Option Bucket) (settings : Settings) (bucket key id : List ℕ) (list : List Listed) (only_if : OnlyIf) (moment : ℕ) → IsMachineReply (in_bucket_by v old (completes settings old bucket key id list only_if moment)).reply
  completes_reply v settings bucket key id list only_if moment =
      in_bucket_has IsMachineReply v old (completes settings old bucket key id list only_if moment) ((λ f. cc), (λ f. cc), (λ f. cc))
      (λ b e. completes_has IsMachineReply (kept_as key list (get b.kept id)) settings old bucket key id list only_if moment b refused_code (λ name etag. ((λ f. cc), (λ f. cc), (λ f. cc))))

  copies_reply : (v : Option Bucket) (bucket key : List ℕ) (acl : Option Acl) (from_bucket from_key : List ℕ) (replaced : Option Described) (conditions : Conditions) (only_if : OnlyIf) (moment : ℕ)
      → IsMachineReply (in_bucket_by v old (copies old bucket key acl from_bucket from_key replaced conditions only_if moment)).reply
  copies_reply v bucket key acl from_bucket from_key replaced conditions only_if moment =
      in_bucket_has IsMachineReply v old (copies old bucket key acl from_bucket from_key replaced conditions only_if moment) ((λ f. cc), (λ f. cc), (λ f. cc))
      (λ b e. unless_has IsMachineReply (is_other_acl acl b.acl) NotImplemented old (in_source old from_bucket from_key conditions (copies_object old bucket key from_bucket from_key replaced (refusal_in only_if key b) moment) b) ((λ f. cc), (λ f. cc), (λ f. cc))
      (in_source_has IsMachineReply old from_bucket from_key conditions (copies_object old bucket key from_bucket from_key replaced (refusal_in only_if key b) moment) b
      ((λ f. cc), (λ f. cc), (λ f. cc)) ((λ f. cc), (λ f. cc), (λ f. cc)) ((λ f. cc), (λ f. cc), (λ f. cc))
      (λ o. unless_has IsMachineReply (is_onto_itself bucket key from_bucket from_key replaced) InvalidRequest old
      (unless_refused (refusal_in only_if key b) old (gives (Copied false o.etag moment) (adjust bucket (put_object key (copied replaced moment o)) old))) ((λ f. cc), (λ f. cc), (λ f. cc))
      (held_reply old only_if key b (gives (Copied false o.etag moment) (adjust bucket (put_object key (copied replaced moment o)) old)) ((λ f. cc), (λ f. cc), (λ f. cc))))))

  bytes_reply : (settings : Settings) (bucket id : List ℕ) (number : ℕ) (range : Option (ℕ × ℕ)) (moment : ℕ) (o : Object) → IsMachineReply (copies_bytes settings old bucket id number range moment o).reply
  bytes_reply settings bucket id number range moment o =
      unless_has IsMachineReply (not (has_last range (length o.bytes))) (bad_range None) old
      (unless (nat_lt (body_limit settings) (copied_span range (length o.bytes)).length) EntityTooLarge old (puts_copy old bucket id number (new_part moment (bytes_copied range o))))
      ((λ f. cc), (λ f. cc), (λ f. cc))
      (unless_has IsMachineReply (nat_lt (body_limit settings) (copied_span range (length o.bytes)).length) EntityTooLarge old (puts_copy old bucket id number (new_part moment (bytes_copied range o)))
      ((λ f. cc), (λ f. cc), (λ f. cc)) ((λ f. cc), (λ f. cc), (λ f. cc)))

  copies_part_reply : (settings : Settings) (v : Option Bucket) (bucket key id : List ℕ) (number : ℕ) (from_bucket from_key : List ℕ) (range : Option (ℕ × ℕ)) (conditions : Conditions) (moment : ℕ)
      → IsMachineReply (in_bucket_by v old (copies_part settings old bucket key id number from_bucket from_key range conditions moment)).reply
  copies_part_reply settings v bucket key id number from_bucket from_key range conditions moment =
      in_bucket_has IsMachineReply v old (copies_part settings old bucket key id number from_bucket from_key range conditions moment) ((λ f. cc), (λ f. cc), (λ f. cc))
      (λ b e. in_upload_has IsMachineReply (get b.uploads id) key old (λ u. in_source old from_bucket from_key conditions (copies_bytes settings old bucket id number range moment) b) ((λ f. cc), (λ f. cc), (λ f. cc))
      (λ u there. in_source_has IsMachineReply old from_bucket from_key conditions (copies_bytes settings old bucket id number range moment) b
      ((λ f. cc), (λ f. cc), (λ f. cc)) ((λ f. cc), (λ f. cc), (λ f. cc)) ((λ f. cc), (λ f. cc), (λ f. cc))
      (bytes_reply settings bucket id number range moment)))

objects_reply : (settings : Settings) (old : State) (op : ObjectsOp) (label : Label) (reply : Reply) (new : State) → S3Step settings old (OnObjects op) label reply new → IsMachineReply reply
objects_reply settings old (objects_op.CreateBucket made) label reply new s = creates_reply (get old made.bucket) old made.bucket made.acl label.moment reply s.replies
objects_reply settings old (objects_op.ListBuckets asked) label reply new s = listed_reply asked (bucket_page asked (bucket_items old)) reply s.replies
objects_reply settings old (objects_op.DeleteBucket bucket) label reply new s = drop_reply old reply (get old bucket) bucket s.replies
objects_reply settings old (objects_op.HeadBucket bucket) label reply new s = show_reply old reply (get old bucket) label s.replies
objects_reply settings old (objects_op.GetLocation bucket) label reply new s = locate_reply old reply (get old bucket) settings s.replies
objects_reply settings old (objects_op.GetBucketAcl bucket) label reply new s = acl_reply old reply (get old bucket) s.replies
objects_reply settings old (objects_op.PutBucketAcl set) label reply new s = set_reply old reply (get old set.bucket) set.bucket set.acl s.replies
objects_reply settings old (objects_op.GetObjectAcl name) label reply new s = object_acl_reply old reply (get old name.bucket) name.key s.replies
objects_reply settings old (objects_op.PutObjectAcl set) label reply new s = subst IsMachineReply (sym s.replies) (set_object_acl_reply old (get old set.bucket) set.key set.acl)
objects_reply settings old (objects_op.GetSetting read) label reply new s = subst IsMachineReply (sym s.replies) (setting_reply old (get old read.bucket) read.key read.unset)
objects_reply settings old (objects_op.PutObject put) label reply new s = put_reply old reply (get old put.bucket) put.bucket put.key put.acl (new_object label.moment put.content.content_type put.content.meta put.content.body) put.only_if put.checksum s.replies
objects_reply settings old (objects_op.HeadObject read) label reply new s = read_reply old reply (get old read.bucket) label read.key (headed read s.choice.part) (headed_reply read s.choice.part) s.replies
objects_reply settings old (objects_op.ListObjects list) label reply new s = list_reply old reply (get old list.bucket) label list.bucket list.asked s.replies
objects_reply settings old (objects_op.DeleteObject deletion) label reply new s = delete_reply old reply (get old deletion.bucket) deletion.bucket deletion.key deletion.only_if s.replies
objects_reply settings old (objects_op.DeleteObjects deletion) label reply new s = subst IsMachineReply (sym s.replies) (delete_all_reply old (get old deletion.bucket) deletion.bucket deletion.keys deletion.quiet)

uploads_reply : (settings : Settings) (old : State) (op : UploadsOp) (label : Label) (reply : Reply) (new : State) → S3Step settings old (OnUploads op) label reply new → IsMachineReply reply
uploads_reply settings old (uploads_op.ListUploads list) label reply new s = subst IsMachineReply (sym s.replies) (lists_uploads_reply old (get old list.bucket) list.bucket list.asked.prefix list.asked.key_marker list.asked.id_marker list.asked.max list.asked.url)
uploads_reply settings old (uploads_op.CreateUpload start) label reply new s = subst IsMachineReply (sym s.replies) (starts_reply old (get old start.bucket) start.bucket start.key start.acl (new_upload start.key start.described.content_type start.described.meta label.moment) s.choice.id)
uploads_reply settings old (uploads_op.UploadPart part) label reply new s = subst IsMachineReply (sym s.replies) (upload_reply old (get old part.bucket) part.key part.id (puts_part old part.bucket part.id part.number (new_part label.moment part.body) part.checksum) (λ u. ((λ f. cc), (λ f. cc), (λ f. cc))))
uploads_reply settings old (uploads_op.ListParts list) label reply new s = subst IsMachineReply (sym s.replies) (upload_reply old (get old list.bucket) list.key list.id (lists_parts old list.bucket list.key list.id list.asked.marker list.asked.max) (λ u. ((λ f. cc), (λ f. cc), (λ f. cc))))
uploads_reply settings old (uploads_op.CompleteUpload completion) label reply new s = subst IsMachineReply (sym s.replies) (completes_reply old (get old completion.bucket) settings completion.bucket completion.key completion.id completion.list completion.only_if label.moment)
uploads_reply settings old (uploads_op.AbortUpload upload) label reply new s = subst IsMachineReply (sym s.replies) (upload_reply old (get old upload.bucket) upload.key upload.id (aborts old upload.bucket upload.id) (λ u. ((λ f. cc), (λ f. cc), (λ f. cc))))

copies_op_reply : (settings : Settings) (old : State) (op : CopiesOp) (label : Label) (reply : Reply) (new : State) → S3Step settings old (OnCopies op) label reply new → IsMachineReply reply
copies_op_reply settings old (copies_op.CopyObject copy) label reply new s =
    subst IsMachineReply (sym s.replies) (copies_reply old (get old copy.bucket) copy.bucket copy.key copy.acl copy.from_bucket copy.from_key copy.replaced copy.conditions copy.only_if label.moment)
copies_op_reply settings old (copies_op.CopyPart copy) label reply new s =
    subst IsMachineReply (sym s.replies) (copies_part_reply old settings (get old copy.bucket) copy.bucket copy.key copy.id copy.number copy.from_bucket copy.from_key copy.range copy.conditions label.moment)

-- the machine itself never gives the reply of wanting memory, nor the two codes of the store below it
pub machine_reply : (settings : Settings) (old : State) (op : Op) (label : Label) (reply : Reply) (new : State) → S3Step settings old op label reply new
    → (reply ≢ Memory) × (reply ≢ Refused ServiceUnavailable) × (reply ≢ Refused InconsistentStore)
machine_reply settings old (op_as.GetObject read) label reply new s = read_reply old reply (get old read.bucket) label read.key (got read s.choice.part) (got_reply read s.choice.part) s.replies
machine_reply settings old (OnObjects op) label reply new s = objects_reply settings old op label reply new s
machine_reply settings old (OnUploads op) label reply new s = uploads_reply settings old op label reply new s
machine_reply settings old (OnCopies op) label reply new s = copies_op_reply settings old op label reply new s
