-- An object under a key stays there, whatever it becomes, as long as neither it nor its bucket is deleted.
use Rattle.std.specs.Prelude.{◌≡◌, ◌⊎◌, ℕ, Bool, true, false, not, ◌&&◌, bytes_eq, nat_lt, List, length, Option, Some, None}
use Rattle.std.proofs.Common.{refl, sym, ap, subst, ◌∙◌, inl, inr, true≢false}
use Rattle.std.proofs.lemmas.Slice.Eq.{bytes_eq-Decides}
use Rattle.std.specs.FinMap.{get, insert, remove}
use Rattle.std.specs.Option.{option_map}
use Rattle.gate_base.specs.Maps.{adjust, name_cmp}
use Rattle.gate_base.proofs.lemmas.Maps.{by_name, same_key, apart, at_adjust, off_adjust, at_insert, off_insert, off_remove}
use Rattle.std.specs.Ordering.{eq_by_cmp}
use Rattle.s3_names.specs.declared.acl.Acl.{Acl}
use Rattle.s3_machine.specs.declared.code.Code.{Code}
use Rattle.s3_machine.specs.declared.code.Code.TheVariants as code
use Rattle.s3_machine.specs.declared.operation.Label.{Label}
use Rattle.s3_machine.specs.declared.operation.Settings.{Settings}
use Rattle.s3_machine.specs.declared.operation.Op.{Op}
use Rattle.s3_machine.specs.declared.operation.Op.TheVariants.{OnObjects, OnUploads, OnCopies}
use Rattle.s3_machine.specs.declared.operation.Op.TheVariants as op_as
use Rattle.s3_machine.specs.declared.operation.ObjectsOp.{ObjectsOp}
use Rattle.s3_machine.specs.declared.operation.ObjectsOp.TheVariants as objects_op
use Rattle.s3_machine.specs.declared.operation.UploadsOp.{UploadsOp}
use Rattle.s3_machine.specs.declared.operation.UploadsOp.TheVariants as uploads_op
use Rattle.s3_machine.specs.declared.operation.CopiesOp.{CopiesOp}
use Rattle.s3_machine.specs.declared.operation.CopiesOp.TheVariants as copies_op
use Rattle.s3_machine.specs.declared.operation.Reply.{Reply}
use Rattle.s3_machine.specs.declared.reading.Conditions.{Conditions}
use Rattle.s3_machine.specs.Copies.{may_be_copied, has_last, copied_span, is_onto_itself}
use Rattle.s3_machine.specs.Holding.{Held, takes_away}
use Rattle.s3_machine.specs.Limits.{body_limit}
use Rattle.s3_machine.specs.Parts.{Choice}
use Rattle.s3_machine.specs.State.{Object, Bucket, State, Upload, Part}
use Rattle.s3_machine.specs.Uploads.{chosen, is_too_small, kept_as, rises}
use Rattle.s3_machine.specs.Step.{
  Outcome,
  S3Step,
  completes_by,
  completes_chosen,
  copied_under,
  creates,
  drop_object,
  head_of,
  in_bucket_by,
  in_object_by,
  in_source,
  in_upload_by,
  is_bare,
  is_other_acl,
  new_bucket,
  refusal_in,
  shows_setting,
  step,
  unless,
  unless_refused,
}

module _ (old : State) (bucket key : List ℕ) (held : Held old bucket key) where
  abbrev Keeps : Outcome → Type 0
  Keeps outcome = Held outcome.state bucket key

  un : (t : Bool) (c : Code) (rest : Outcome) → Keeps rest → Keeps (unless t c old rest)
  un true c rest own = held
  un false c rest own = own

  ur : (v : Option Code) (rest : Outcome) → Keeps rest → Keeps (unless_refused v old rest)
  ur None rest own = own
  ur (Some c) rest own = held

  ib : (v : Option Bucket) (f : Bucket → Outcome) → ((b : Bucket) → Keeps (f b)) → Keeps (in_bucket_by v old f)
  ib None f own = held
  ib (Some b) f own = own b

  io : (v : Option Object) (f : Object → Outcome) → ((o : Object) → Keeps (f o)) → Keeps (in_object_by v old f)
  io None f own = held
  io (Some o) f own = own o

  iu : (v : Option Upload) (k : List ℕ) (f : Upload → Outcome) → ((u : Upload) → Keeps (f u)) → Keeps (in_upload_by v k old f)
  iu None k f own = held
  iu (Some u) k f own = un _ code.NoSuchUpload (f u) (own u)

  source : (from_bucket from_key : List ℕ) (conditions : Conditions) (f : Object → Outcome) (b : Bucket) → ((o : Object) → Keeps (f o)) → Keeps (in_source old from_bucket from_key conditions f b)
  source from_bucket from_key conditions f b own =
      ib (get old from_bucket) (λ from. in_object_by (get from.objects from_key) old (copied_under conditions old f))
      (λ from. io (get from.objects from_key) (copied_under conditions old f) (λ o. un (not (may_be_copied conditions (head_of o))) code.PreconditionFailed (f o) (own o)))

  -- a change of a bucket
  changed : (name : List ℕ) (f : Bucket → Bucket) → ((o : Object) → bucket ≡ name → get held.b.objects key ≡ Some o → (x : Object) × (get (f held.b).objects key ≡ Some x)) → Held (adjust name f old) bucket key
  changed name f keeps = by (same_key by_name bucket name)
    where
      by : (bucket ≡ name) ⊎ (eq_by_cmp name_cmp bucket name ≡ false) → Held (adjust name f old) bucket key
      by (inl same) =
          let it = keeps held.o same held.taken in
          record {
            b = f held.b;
            o = it.0;
            there = ap (get (adjust name f old)) same ∙ at_adjust by_name name f old ∙ ap (option_map f) (ap (get old) (sym same) ∙ held.there);
            taken = it.1;
          }
      by (inr other) = record { b = held.b; o = held.o; there = off_adjust by_name name f old bucket other ∙ held.there; taken = held.taken }

  -- of one whose objects stay
  untouched : (name : List ℕ) (f : Bucket → Bucket) → ((b : Bucket) → (f b).objects ≡ b.objects) → Held (adjust name f old) bucket key
  untouched name f stay = changed name f (λ o same is. (o, ap (λ objects. get objects key) (stay held.b) ∙ is))

  -- of one into which an object is put
  put_at : (name k : List ℕ) (x : Object) (f : Bucket → Bucket) → ((b : Bucket) → (f b).objects ≡ insert b.objects k x) → Held (adjust name f old) bucket key
  put_at name k x f puts = changed name f (λ o same is. by o is (same_key by_name key k))
    where
      by : (o : Object) → get held.b.objects key ≡ Some o → (key ≡ k) ⊎ (eq_by_cmp name_cmp key k ≡ false) → (y : Object) × (get (f held.b).objects key ≡ Some y)
      by o is (inl same) = (x, ap (λ objects. get objects key) (puts held.b) ∙ ap (get (insert held.b.objects k x)) same ∙ at_insert by_name held.b.objects k x)
      by o is (inr other) = (o, ap (λ objects. get objects key) (puts held.b) ∙ off_insert by_name held.b.objects k x key other ∙ is)

  -- of one from which another is taken
  drop_at : (name k : List ℕ) → (bytes_eq name bucket && bytes_eq k key) ≡ false → Held (adjust name (drop_object k) old) bucket key
  drop_at name k other = changed name (drop_object k) (λ o same is. by o same is (same_key by_name key k))
    where
      by : (o : Object) → bucket ≡ name → get held.b.objects key ≡ Some o → (key ≡ k) ⊎ (eq_by_cmp name_cmp key k ≡ false) → (y : Object) × (get (drop_object k held.b).objects key ≡ Some y)
      by o same is (inl this) =
          let one : bytes_eq name bucket ≡ true = (bytes_eq-Decides name bucket).1 (sym same) in
          let two : bytes_eq k key ≡ true = (bytes_eq-Decides k key).1 (sym this) in
          absurd (true≢false (sym (ap (λ t. t && bytes_eq k key) one ∙ two) ∙ other))
      by o same is (inr off) = (o, off_remove by_name held.b.objects k key off ∙ is)

  -- a bucket that is another
  apart_from : (name : List ℕ) → bytes_eq name bucket ≡ false → eq_by_cmp name_cmp bucket name ≡ false
  apart_from name other = apart by_name bucket name (λ same. true≢false (sym ((bytes_eq-Decides name bucket).1 (sym same)) ∙ other))

  at_other : (new : State) → get new bucket ≡ get old bucket → Held new bucket key
  at_other new same = record { b = held.b; o = held.o; there = same ∙ held.there; taken = held.taken }

  make : (name : List ℕ) (acl : Acl) (moment : ℕ) (v : Option Bucket) → v ≡ get old name → Keeps (creates v old name acl moment)
  make name acl moment (Some b) is = held
  make name acl moment None is = by (same_key by_name bucket name)
    where
      by : (bucket ≡ name) ⊎ (eq_by_cmp name_cmp bucket name ≡ false) → Held (insert old name (new_bucket moment acl)) bucket key
      by (inl same) = let never : None ≡ Some held.b = is ∙ ap (get old) (sym same) ∙ held.there in cc
      by (inr other) = at_other (insert old name (new_bucket moment acl)) (off_insert by_name old name (new_bucket moment acl) bucket other)

  module _ (settings : Settings) (label : Label) (choice : Choice) where
    -- the state after each step
    after_objects : (op : ObjectsOp) → takes_away (OnObjects op) bucket key ≡ false → Keeps (step settings old (OnObjects op) label choice)
    after_objects (objects_op.ListBuckets asked) other = held
    after_objects (objects_op.CreateBucket made) other = make made.bucket made.acl label.moment (get old made.bucket) refl
    after_objects (objects_op.DeleteBucket name) other = ib (get old name) _ (λ b. un (not (is_bare b)) code.BucketNotEmpty _ (at_other (remove old name) (off_remove by_name old name bucket (apart_from name other))))
    after_objects (objects_op.HeadBucket name) other = ib (get old name) _ (λ b. un _ code.AccessDenied _ held)
    after_objects (objects_op.GetLocation name) other = ib (get old name) _ (λ b. held)
    after_objects (objects_op.GetBucketAcl name) other = ib (get old name) _ (λ b. held)
    after_objects (objects_op.PutBucketAcl set) other = ib (get old set.bucket) _ (λ b. untouched set.bucket _ (λ b. refl))
    after_objects (objects_op.ListObjects list) other = ib (get old list.bucket) _ (λ b. un _ code.AccessDenied _ held)
    after_objects (objects_op.PutObject put) other =
        ib (get old put.bucket) _ (λ b. un (is_other_acl put.acl b.acl) code.NotImplemented _ (ur (refusal_in put.only_if put.key b) _ (put_at put.bucket put.key _ _ (λ b. refl))))
    after_objects (objects_op.HeadObject read) other = ib (get old read.bucket) _ (λ b. un _ code.AccessDenied _ (io (get b.objects read.key) _ (λ o. held)))
    after_objects (objects_op.DeleteObject deletion) other = ib (get old deletion.bucket) _ (λ b. ur (refusal_in deletion.only_if deletion.key b) _ (drop_at deletion.bucket deletion.key other))
    after_objects (objects_op.DeleteObjects deletion) other = ib (get old deletion.bucket) _ (λ b. at_other _ (off_adjust by_name deletion.bucket _ old bucket (apart_from deletion.bucket other)))
    after_objects (objects_op.GetObjectAcl name) other = ib (get old name.bucket) _ (λ b. io (get b.objects name.key) _ (λ o. held))
    after_objects (objects_op.PutObjectAcl set) other =
        ib (get old set.bucket) _ (λ b. io (get b.objects set.key) _ (λ o. un (is_other_acl (Some set.acl) b.acl) code.AccessControlListNotSupported _ held))
    after_objects (objects_op.GetSetting read) other = ib (get old read.bucket) _ (λ b. setting read.key b)
      where
        setting : (key : Option (List ℕ)) (b : Bucket) → Keeps (shows_setting old key read.unset b)
        setting None b = held
        setting (Some key) b = io (get b.objects key) _ (λ o. held)

    after_uploads : (op : UploadsOp) → Keeps (step settings old (OnUploads op) label choice)
    after_uploads (uploads_op.ListUploads list) = ib (get old list.bucket) _ (λ b. held)
    after_uploads (uploads_op.CreateUpload start) = ib (get old start.bucket) _ (λ b. un (is_other_acl start.acl b.acl) code.NotImplemented _ (untouched start.bucket _ (λ b. refl)))
    after_uploads (uploads_op.UploadPart part) = ib (get old part.bucket) _ (λ b. iu (get b.uploads part.id) part.key _ (λ u. untouched part.bucket _ (λ b. refl)))
    after_uploads (uploads_op.ListParts list) = ib (get old list.bucket) _ (λ b. iu (get b.uploads list.id) list.key _ (λ u. held))
    after_uploads (uploads_op.CompleteUpload completion) = ib (get old completion.bucket) _ (λ b. kept (kept_as completion.key completion.list (get b.kept completion.id)) b)
      where
        parts_by : (v : Option (List Part)) (b : Bucket) (u : Upload)
            → Keeps (completes_chosen settings old completion.bucket completion.id completion.list (refusal_in completion.only_if completion.key b) label.moment u v)
        parts_by None b u = held
        parts_by (Some parts) b u = un (is_too_small settings.least_part parts) code.EntityTooSmall _ (ur (refusal_in completion.only_if completion.key b) _ (put_at completion.bucket u.key _ _ (λ b. refl)))

        kept : (v : Option (List ℕ)) (b : Bucket) → Keeps (completes_by v settings old completion.bucket completion.key completion.id completion.list completion.only_if label.moment b)
        kept (Some etag) b = held
        kept None b = iu (get b.uploads completion.id) completion.key _ (λ u. un (not (rises completion.list)) code.InvalidPartOrder _ (parts_by (chosen u.parts completion.list) b u))
    after_uploads (uploads_op.AbortUpload upload) = ib (get old upload.bucket) _ (λ b. iu (get b.uploads upload.id) upload.key _ (λ u. untouched upload.bucket _ (λ b. refl)))

    after_copies : (op : CopiesOp) → Keeps (step settings old (OnCopies op) label choice)
    after_copies (copies_op.CopyObject copy) =
        ib (get old copy.bucket) _ (λ b. un (is_other_acl copy.acl b.acl) code.NotImplemented _ (source copy.from_bucket copy.from_key copy.conditions _ b
        (λ o. un (is_onto_itself copy.bucket copy.key copy.from_bucket copy.from_key copy.replaced) code.InvalidRequest _ (ur (refusal_in copy.only_if copy.key b) _ (put_at copy.bucket copy.key _ _ (λ b. refl))))))
    after_copies (copies_op.CopyPart copy) =
        ib (get old copy.bucket) _ (λ b. iu (get b.uploads copy.id) copy.key _ (λ u. source copy.from_bucket copy.from_key copy.conditions _ b
        (λ o. un (not (has_last copy.range (length o.bytes))) (code.InvalidRange None) _ (un (nat_lt (body_limit settings) (copied_span copy.range (length o.bytes)).length) code.EntityTooLarge _ (untouched copy.bucket _ (λ b. refl))))))

    after : (op : Op) → takes_away op bucket key ≡ false → Keeps (step settings old op label choice)
    after (op_as.GetObject read) other = ib (get old read.bucket) _ (λ b. un _ code.AccessDenied _ (io (get b.objects read.key) _ (λ o. held)))
    after (OnObjects op) other = after_objects op other
    after (OnUploads op) other = after_uploads op
    after (OnCopies op) other = after_copies op

pub stays_held : (settings : Settings) (old new : State) (bucket key : List ℕ) (op : Op) (label : Label) (reply : Reply) → Held old bucket key → takes_away op bucket key ≡ false
    → S3Step settings old op label reply new → Held new bucket key
stays_held settings old new bucket key op label reply held other does = subst (λ s. Held s bucket key) (sym does.goes) (after old bucket key held settings label does.choice op other)
