-- A copy whose source meets the conditions is the copy without any.
use Rattle.std.proofs.Common.{◌≡◌, ℕ, true, List, Option, Some, None, refl, sym, ap, ◌∙◌}
use Rattle.std.specs.FinMap.{get}
use Rattle.s3_names.specs.declared.acl.Acl.{Acl}
use Rattle.s3_machine.specs.declared.code.Code.TheVariants.{NotImplemented}
use Rattle.s3_machine.specs.declared.operation.Label.{Label}
use Rattle.s3_machine.specs.Ops.{CopyObject, CopyPart}
use Rattle.s3_machine.specs.declared.operation.Described.{Described}
use Rattle.s3_machine.specs.declared.operation.Reply.{Reply}
use Rattle.s3_machine.specs.declared.operation.Settings.{Settings}
use Rattle.s3_machine.specs.declared.reading.Conditions.{Conditions}
use Rattle.s3_machine.specs.Conditions.{no_conditions}
use Rattle.s3_machine.specs.Copies.{may_be_copied}
use Rattle.s3_machine.specs.declared.only_if.OnlyIf.{OnlyIf}
use Rattle.s3_machine.specs.State.{Object, Bucket, State}
use Rattle.s3_machine.specs.Step.{
  Outcome,
  S3Step,
  copies,
  copies_bytes,
  copies_object,
  copies_part,
  head_of,
  in_bucket_by,
  in_source,
  in_upload_by,
  is_other_acl,
  refusal_in,
  unless,
}
use Rattle.s3_machine.proofs.lemmas.StepLemmas.{HasSource, source_there}

each_bucket : (v : Option Bucket) (old : State) (f g : Bucket → Outcome) → ((b : Bucket) → f b ≡ g b) → in_bucket_by v old f ≡ in_bucket_by v old g
each_bucket None old f g same = refl
each_bucket (Some b) old f g same = same b

module _ (settings : Settings) (old : State) (bucket key from_bucket from_key : List ℕ) (conditions : Conditions) (label : Label)
    (has : HasSource old from_bucket from_key) (met : may_be_copied conditions (head_of has.o) ≡ true) where
  same_source : (f : Object → Outcome) (b : Bucket) → in_source old from_bucket from_key conditions f b ≡ in_source old from_bucket from_key no_conditions f b
  same_source f b = source_there old from_bucket from_key conditions f b has met ∙ sym (source_there old from_bucket from_key no_conditions f b has refl)

  module _ (acl : Option Acl) (replaced : Option Described) (only_if : OnlyIf) where
    same_copies : (b : Bucket) → copies old bucket key acl from_bucket from_key replaced conditions only_if label.moment b ≡ copies old bucket key acl from_bucket from_key replaced no_conditions only_if label.moment b
    same_copies b = ap (λ rest. unless (is_other_acl acl b.acl) NotImplemented old rest) (same_source (copies_object old bucket key from_bucket from_key replaced (refusal_in only_if key b) label.moment) b)

    -- CopyObject
    pub copy_as_without : {reply : Reply} {new : State} → S3Step settings old (CopyObject bucket key acl from_bucket from_key replaced no_conditions only_if) label reply new
        → S3Step settings old (CopyObject bucket key acl from_bucket from_key replaced conditions only_if) label reply new
    copy_as_without s =
        let same = each_bucket (get old bucket) old _ _ same_copies in
        record { choice = s.choice; free = tt; replies = s.replies ∙ sym (ap (λ (o : Outcome). o.reply) same); goes = s.goes ∙ sym (ap (λ (o : Outcome). o.state) same) }

  module _ (id : List ℕ) (number : ℕ) (range : Option (ℕ × ℕ)) where
    same_parts : (b : Bucket) → copies_part settings old bucket key id number from_bucket from_key range conditions label.moment b ≡ copies_part settings old bucket key id number from_bucket from_key range no_conditions label.moment b
    same_parts b = ap (λ rest. in_upload_by (get b.uploads id) key old (λ u. rest)) (same_source (copies_bytes settings old bucket id number range label.moment) b)

    -- CopyPart
    pub part_copy_as_without : {reply : Reply} {new : State} → S3Step settings old (CopyPart bucket key id number from_bucket from_key range no_conditions) label reply new
        → S3Step settings old (CopyPart bucket key id number from_bucket from_key range conditions) label reply new
    part_copy_as_without s =
        let same = each_bucket (get old bucket) old _ _ same_parts in
        record { choice = s.choice; free = tt; replies = s.replies ∙ sym (ap (λ (o : Outcome). o.reply) same); goes = s.goes ∙ sym (ap (λ (o : Outcome). o.state) same) }
