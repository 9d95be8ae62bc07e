-- The bytes that the running form chooses of a part are free, whatever stands under the key.
use Rattle.std.specs.Prelude.{◌≡◌, ◌<◌, ◌≤◌, ◌+◌, ℕ, nat_eq, true, false, cond, length, Option, None, Some, IfSome}
use Rattle.std.specs.FinMap.{get}
use Rattle.std.proofs.Common.{refl, sym, ap, subst, ◌∙◌}
use Rattle.s3_machine.specs.declared.code.Code.TheVariants.{AccessDenied, NoSuchBucket, NoSuchKey}
use Rattle.s3_machine.specs.declared.operation.Label.{Label}
use Rattle.s3_machine.specs.declared.operation.ObjectRead.{ObjectRead}
use Rattle.s3_machine.specs.declared.operation.ObjectsOp.TheVariants as objects_op
use Rattle.s3_machine.specs.declared.operation.Op.TheVariants as op_as
use Rattle.s3_machine.specs.declared.operation.Settings.{Settings}
use Rattle.s3_machine.specs.Replies.{Refused}
use Rattle.s3_machine.specs.declared.reading.Span.{Span}
use Rattle.s3_machine.specs.Parts.{IsPartOf}
use Rattle.s3_machine.specs.Reading.{all_of}
use Rattle.s3_machine.specs.State.{Object, Bucket, State}
use Rattle.s3_machine.specs.Step.{IsFreeRead, S3Step, got, headed, may_read}
use Rattle.s3_machine.proofs.lemmas.StepLemmas.{get_without_bucket, head_without_bucket, get_denied, head_denied, get_without_key, head_without_key, step_read, step_headed}
use Rattle.s3_native.specs.Reads.{chosen_part}

-- of an object that was put whole
abbrev whole_part : ℕ → Object → Option Span
whole_part n o = cond (nat_eq n 1) (Some (all_of (length o.bytes))) None

chosen_is : (n : ℕ) (o : Object) → IsPartOf o n (chosen_part (Some n) o)
chosen_is n o = record {
  whole = λ e. ap (λ t. cond t None (whole_part n o)) e;
  within = λ e. subst (λ t. IfSome (cond t None (whole_part n o)) (λ s. (0 < s.length) × (s.from + s.length ≤ length o.bytes))) (sym e) tt;
}

-- of the object that stands there
pub free_there : (old : State) (read : ObjectRead) (b : Bucket) (o : Object) → get old read.bucket ≡ Some b → get b.objects read.key ≡ Some o → IsFreeRead old read (chosen_part read.part o)
free_there old read b o found there = by read.part
  where
    same_bucket : {x y : Bucket} → Some x ≡ Some y → x ≡ y
    same_bucket e = cc

    same_object : {x y : Object} → Some x ≡ Some y → x ≡ y
    same_object e = cc

    by : (part : Option ℕ) → IfSome part (λ n. (b' : Bucket) (o' : Object) → get old read.bucket ≡ Some b' → get b'.objects read.key ≡ Some o' → IsPartOf o' n (chosen_part part o))
    by None = tt
    by (Some n) = λ b' o' is at.
        let bucket : b ≡ b' = same_bucket (sym found ∙ is) in
        let object : o ≡ o' = same_object (sym there ∙ ap (λ (x : Bucket). get x.objects read.key) bucket ∙ at) in
        subst (λ x. IsPartOf x n (chosen_part (Some n) o)) object (chosen_is n o)

-- where nothing stands there
pub free_nowhere : (old : State) (read : ObjectRead) → ((b : Bucket) (o : Object) → get old read.bucket ≡ Some b → get b.objects read.key ≡ Some o → ⊥) → IsFreeRead old read None
free_nowhere old read none = by read.part
  where
    by : (part : Option ℕ) → IfSome part (λ n. (b : Bucket) (o : Object) → get old read.bucket ≡ Some b → get b.objects read.key ≡ Some o → IsPartOf o n None)
    by None = tt
    by (Some n) = λ b o is at. absurd (none b o is at)

-- some are, always
pub free_somehow : (old : State) (read : ObjectRead) → (span : Option Span) × IsFreeRead old read span
free_somehow old read = by (get old read.bucket) refl
  where
    within : (b : Bucket) → get old read.bucket ≡ Some b → (v : Option Object) → get b.objects read.key ≡ v → (span : Option Span) × IsFreeRead old read span
    within b is None missing = (None, free_nowhere old read (λ other o found at. let bucket : Some b ≡ Some other = sym is ∙ found in let never : None ≡ Some o = sym missing ∙ (let same : b ≡ other = cc in ap (λ (x : Bucket). get x.objects read.key) same) ∙ at in cc))
    within b is (Some o) there = (chosen_part read.part o, free_there old read b o is there)

    by : (v : Option Bucket) → get old read.bucket ≡ v → (span : Option Span) × IsFreeRead old read span
    by None missing = (None, free_nowhere old read (λ b o found at. let never : None ≡ Some b = sym missing ∙ found in cc))
    by (Some b) is = within b is (get b.objects read.key) refl

-- ---- the steps of a read, by what is found one by one

module _ (settings : Settings) (old : State) (read : ObjectRead) (label : Label) where
  none_in : get old read.bucket ≡ None → IsFreeRead old read None
  none_in none = free_nowhere old read (λ b o found at. let never : None ≡ Some b = sym none ∙ found in cc)

  pub get_missing : get old read.bucket ≡ None → S3Step settings old (op_as.GetObject read) label (Refused NoSuchBucket) old
  get_missing none = get_without_bucket settings old read.bucket read.key label none read.range read.conditions read.part read.shown None (none_in none)

  pub head_missing : get old read.bucket ≡ None → S3Step settings old (op_as.OnObjects (objects_op.HeadObject read)) label (Refused NoSuchBucket) old
  head_missing none = head_without_bucket settings old read.bucket read.key label none read.range read.conditions read.part read.shown None (none_in none)

  module _ (b : Bucket) (found : get old read.bucket ≡ Some b) where
    abbrev some : (span : Option Span) × IsFreeRead old read span
    some = free_somehow old read

    pub get_refused : may_read label.caller b.acl ≡ false → S3Step settings old (op_as.GetObject read) label (Refused AccessDenied) old
    get_refused e = get_denied settings old read.bucket read.key label b found read.range read.conditions read.part read.shown some.0 some.1 e

    pub head_refused : may_read label.caller b.acl ≡ false → S3Step settings old (op_as.OnObjects (objects_op.HeadObject read)) label (Refused AccessDenied) old
    head_refused e = head_denied settings old read.bucket read.key label b found read.range read.conditions read.part read.shown some.0 some.1 e

    pub get_none : may_read label.caller b.acl ≡ true → get b.objects read.key ≡ None → S3Step settings old (op_as.GetObject read) label (Refused NoSuchKey) old
    get_none e none = get_without_key settings old read.bucket read.key label b found read.range read.conditions read.part read.shown some.0 some.1 e none

    pub head_none : may_read label.caller b.acl ≡ true → get b.objects read.key ≡ None → S3Step settings old (op_as.OnObjects (objects_op.HeadObject read)) label (Refused NoSuchKey) old
    head_none e none = head_without_key settings old read.bucket read.key label b found read.range read.conditions read.part read.shown some.0 some.1 e none

    module _ (o : Object) (there : get b.objects read.key ≡ Some o) where
      pub get_there : may_read label.caller b.acl ≡ true → S3Step settings old (op_as.GetObject read) label (got read (chosen_part read.part o) o) old
      get_there e =
          step_read settings old read.bucket read.key label b found read.range read.conditions read.part read.shown (chosen_part read.part o) (free_there old read b o found there) o e there

      pub head_there : may_read label.caller b.acl ≡ true → S3Step settings old (op_as.OnObjects (objects_op.HeadObject read)) label (headed read (chosen_part read.part o) o) old
      head_there e =
          step_headed settings old read.bucket read.key label b found read.range read.conditions read.part read.shown (chosen_part read.part o) (free_there old read b o found there) o e there
