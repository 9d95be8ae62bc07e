-- A write whose condition is met is the write without any.
use Rattle.std.specs.Prelude.{◌≡◌, ℕ, List, Option, Some, None}
use Rattle.std.proofs.Common.{refl, sym, ap, ◌∙◌}
use Rattle.std.specs.FinMap.{get}
use Rattle.gate_base.specs.Maps.{adjust}
use Rattle.gate_base.specs.declared.page.Pair.{Pair}
use Rattle.s3_names.specs.declared.acl.Acl.{Acl}
use Rattle.s3_machine.specs.declared.code.Code.{Code}
use Rattle.s3_machine.specs.declared.code.Code.TheVariants.{NotImplemented}
use Rattle.s3_machine.specs.declared.only_if.OnlyIf.{OnlyIf}
use Rattle.s3_machine.specs.declared.only_if.OnlyIf.TheVariants.{Always}
use Rattle.s3_machine.specs.declared.operation.Label.{Label}
use Rattle.s3_machine.specs.declared.operation.Listed.{Listed}
use Rattle.s3_machine.specs.declared.operation.Op.{Op}
use Rattle.s3_machine.specs.Ops.{PutObject, DeleteObject, CompleteUpload, CopyObject}
use Rattle.s3_machine.specs.declared.operation.Described.{Described}
use Rattle.s3_machine.specs.declared.operation.Reply.{Reply}
use Rattle.s3_machine.specs.declared.operation.Reply.TheVariants.{Gone}
use Rattle.s3_machine.specs.Replies.{Stored}
use Rattle.s3_machine.specs.declared.operation.Settings.{Settings}
use Rattle.s3_machine.specs.declared.reading.Conditions.{Conditions}
use Rattle.s3_machine.specs.Parts.{choice_of_id}
use Rattle.s3_machine.specs.State.{Bucket, State}
use Rattle.s3_machine.specs.Step.{
  Outcome,
  S3Step,
  completes,
  completes_by,
  completes_open,
  copies,
  copies_object,
  deletes,
  drop_object,
  gives,
  in_source,
  in_upload,
  is_other_acl,
  new_object,
  put_object,
  puts,
  refusal_in,
  step,
  unless,
  unless_refused,
}
use Rattle.s3_machine.specs.Uploads.{kept_as}
use Rattle.s3_machine.proofs.lemmas.StepLemmas.{in_found}

-- two operations that come to the same
alike : {settings : Settings} {old new : State} {one : Op} (other : Op) {label : Label} {reply : Reply} (s : S3Step settings old one label reply new)
    → step settings old other label (choice_of_id 0) ≡ step settings old one label s.choice → (reply ≡ (step settings old other label (choice_of_id 0)).reply) × (new ≡ (step settings old other label (choice_of_id 0)).state)
alike other s same = (s.replies ∙ sym (ap (λ (o : Outcome). o.reply) same), s.goes ∙ sym (ap (λ (o : Outcome). o.state) same))

module _ (settings : Settings) (old : State) (bucket key : List ℕ) (only_if : OnlyIf) (label : Label) (b : Bucket) (found : get old bucket ≡ Some b)
    (met : refusal_in only_if key b ≡ None) where
  module _ (acl : Option Acl) (content_type : List ℕ) (meta : List Pair) (body : List ℕ) (checksum : Option Pair) where
    put_rest : Option Code → Outcome
    put_rest held = unless (is_other_acl acl b.acl) NotImplemented old
        (unless_refused held old (gives (Stored (new_object label.moment content_type meta body).etag checksum) (adjust bucket (put_object key (new_object label.moment content_type meta body)) old)))

    -- PutObject
    pub put_as_always : {reply : Reply} {new : State} → S3Step settings old (PutObject bucket key acl content_type meta body Always checksum) label reply new
        → S3Step settings old (PutObject bucket key acl content_type meta body only_if checksum) label reply new
    unfolding put_rest
    put_as_always s =
        let o = new_object label.moment content_type meta body in
        let same = alike (PutObject bucket key acl content_type meta body only_if checksum) s
        (in_found old bucket b found (puts old bucket key acl o only_if checksum) ∙ ap put_rest met ∙ sym (in_found old bucket b found (puts old bucket key acl o Always checksum))) in
        record { choice = choice_of_id 0; free = tt; replies = same.0; goes = same.1 }

  -- DeleteObject
  pub delete_as_always : {reply : Reply} {new : State} → S3Step settings old (DeleteObject bucket key Always) label reply new → S3Step settings old (DeleteObject bucket key only_if) label reply new
  delete_as_always s =
      let same = alike (DeleteObject bucket key only_if) s
      (in_found old bucket b found (deletes old bucket key only_if) ∙ ap (λ held. unless_refused held old (gives Gone (adjust bucket (drop_object key) old))) met
      ∙ sym (in_found old bucket b found (deletes old bucket key Always))) in
      record { choice = choice_of_id 0; free = tt; replies = same.0; goes = same.1 }

  module _ (id : List ℕ) (list : List Listed) where
    by_kept : (v : Option (List ℕ)) → completes_by v settings old bucket key id list only_if label.moment b ≡ completes_by v settings old bucket key id list Always label.moment b
    by_kept (Some etag) = refl
    by_kept None = ap (λ held. in_upload old key id (completes_open settings old bucket id list held label.moment) b) met

    -- CompleteUpload
    pub complete_as_always : {reply : Reply} {new : State} → S3Step settings old (CompleteUpload bucket key id list Always) label reply new
        → S3Step settings old (CompleteUpload bucket key id list only_if) label reply new
    complete_as_always s =
        let same = alike (CompleteUpload bucket key id list only_if) s
        (in_found old bucket b found (completes settings old bucket key id list only_if label.moment) ∙ by_kept (kept_as key list (get b.kept id))
        ∙ sym (in_found old bucket b found (completes settings old bucket key id list Always label.moment))) in
        record { choice = choice_of_id 0; free = tt; replies = same.0; goes = same.1 }

  module _ (acl : Option Acl) (from_bucket from_key : List ℕ) (replaced : Option Described) (conditions : Conditions) where
    copy_rest : Option Code → Outcome
    copy_rest held = unless (is_other_acl acl b.acl) NotImplemented old (in_source old from_bucket from_key conditions (copies_object old bucket key from_bucket from_key replaced held label.moment) b)

    -- CopyObject
    pub copy_as_always : {reply : Reply} {new : State} → S3Step settings old (CopyObject bucket key acl from_bucket from_key replaced conditions Always) label reply new
        → S3Step settings old (CopyObject bucket key acl from_bucket from_key replaced conditions only_if) label reply new
    unfolding copy_rest
    copy_as_always s =
        let same = alike (CopyObject bucket key acl from_bucket from_key replaced conditions only_if) s
        (in_found old bucket b found (copies old bucket key acl from_bucket from_key replaced conditions only_if label.moment) ∙ ap copy_rest met
        ∙ sym (in_found old bucket b found (copies old bucket key acl from_bucket from_key replaced conditions Always label.moment))) in
        record { choice = choice_of_id 0; free = tt; replies = same.0; goes = same.1 }
