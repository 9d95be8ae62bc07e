-- The copy of an object: its steps by what its calls told, and the bound of its plan.
use Rattle.std.specs.Prelude.{◌≡◌, ◌<◌, ◌≤◌, ◌+◌, ◌*◌, ℕ, Bool, true, false, cond, List, length, Option, None, Some, Result}
use Rattle.std.specs.Option.{option_map}
use Rattle.std.specs.FinMap.{get}
use Rattle.std.proofs.Common.{refl, sym, ap, subst, ◌∙◌, arith}
use Rattle.std.proofs.lemmas.Bool.{lt-ltb}
use Rattle.gate_base.specs.Maps.{adjust}
use Rattle.s3_names.specs.declared.acl.Acl.{Acl}
use Rattle.s3_machine.specs.declared.code.Code.TheVariants.{InvalidRequest, NoSuchBucket, NoSuchKey, NotImplemented, PreconditionFailed}
use Rattle.s3_machine.specs.declared.operation.Label.{Label}
use Rattle.s3_machine.specs.declared.operation.ObjectHead.{ObjectHead}
use Rattle.s3_machine.specs.declared.only_if.OnlyIf.{OnlyIf}
use Rattle.s3_machine.specs.declared.only_if.OnlyIf.TheVariants.{Always}
use Rattle.s3_machine.specs.Ops.{CopyObject}
use Rattle.s3_machine.specs.declared.operation.Described.{Described}
use Rattle.s3_machine.specs.declared.operation.Reply.{Reply}
use Rattle.s3_machine.specs.declared.operation.Reply.TheVariants.{Refused}
use Rattle.s3_machine.specs.Replies.{Copied}
use Rattle.s3_machine.specs.declared.operation.Settings.{Settings}
use Rattle.s3_machine.specs.declared.reading.Conditions.{Conditions}
use Rattle.s3_machine.specs.Conditions.{no_conditions}
use Rattle.s3_machine.specs.Copies.{copied, is_onto_itself, may_be_copied}
use Rattle.s3_machine.specs.ETag.{body_etag}
use Rattle.s3_machine.specs.State.{Bucket, Object, State}
use Rattle.s3_machine.specs.Step.{S3Step, etag_of_object, head_of, is_other_acl, refusal_in, new_object, put_object}
use Rattle.s3_machine.proofs.lemmas.CopyConditions.{copy_as_without}
use Rattle.s3_machine.proofs.lemmas.WriteConditions.{copy_as_always}
use Rattle.s3_machine.specs.declared.code.Code.{Code}
use Rattle.s3_machine.specs.OnlyIf.{refusal}
use Rattle.account_calls.specs.Condition.{TellsRefusal}
use Rattle.s3_machine.proofs.lemmas.StepLemmas.{HasSource, copy_held, copy_refused as copy_unmet, copy_onto_itself, copy_with_another_acl, copy_without_bucket, copy_without_source, copy_without_source_bucket, step_copied}
use Rattle.swift_calls.specs.Account.{SwiftAccount}
use Rattle.swift_calls.specs.History.{History, present}
use Rattle.upload_records.specs.Native.{object_at, s3_state}
use Rattle.account_calls.specs.Answers.{copy_calls, is_of_parts, listed_by, records_of, segments_of}
use Rattle.account_calls.specs.Calls.{acl_of_bucket, always, by_account, Given, puts_object, TellsBucket, TellsObject}
use Rattle.account_calls.specs.declared.fault.PlanFault.{PlanFault}
use Rattle.account_calls.specs.declared.state.Known.TheVariants.{Settled}
use Rattle.account_calls.specs.Plan.{Plans}
use Rattle.many_keys.specs.Copies.{IsFoundBucket, IsFoundSource, IsReadSource, content_of}
use Rattle.many_keys.proofs.Sources.{object_by_head, object_read}

-- ---- what is looked up

bucket_by : (o : Option Bucket) (acl : Acl) → option_map acl_of_bucket o ≡ Some acl → (b : Bucket) × (o ≡ Some b) × (b.acl ≡ acl)
bucket_by None acl e = cc
bucket_by (Some b) acl e = (b, refl, cc)

none_by : (o : Option Bucket) → option_map acl_of_bucket o ≡ None → o ≡ None
none_by None e = refl
none_by (Some b) e = cc

no_object : (o : Option Object) → option_map head_of o ≡ None → o ≡ None
no_object None e = refl
no_object (Some x) e = cc

source_by : (v : Option Bucket) (key : List ℕ) (o : Object) → object_at v key ≡ Some o → (b : Bucket) × (v ≡ Some b) × (get b.objects key ≡ Some o)
source_by None key o e = cc
source_by (Some b) key o e = (b, refl, e)

source_of : (state : State) (from_bucket from_key : List ℕ) (o : Object) → object_at (get state from_bucket) from_key ≡ Some o → HasSource state from_bucket from_key
source_of state from_bucket from_key o e =
    let it = source_by (get state from_bucket) from_key o e in
    record { b = it.0; o = o; in_bucket = it.1; in_objects = it.2 }

-- ---- the copy

-- the copy of an object that was put in one piece is what is put with its bytes
copied_is : (replaced : Option Described) (moment : ℕ) (o : Object) → o.etag ≡ body_etag o.bytes
    → copied replaced moment o ≡ new_object moment (content_of replaced o.content_type o.meta).content_type (content_of replaced o.content_type o.meta).meta o.bytes
copied_is None moment o is = ap (λ etag. record { bytes = o.bytes; etag = etag; content_type = o.content_type; meta = o.meta; modified = moment }) is
copied_is (Some r) moment o is = ap (λ etag. record { bytes = o.bytes; etag = etag; content_type = r.content_type; meta = r.meta; modified = moment }) is

-- ---- the steps

-- the access control list of a bucket that is there
other_by : (o : Option Bucket) (acl : Option Acl) (list : Acl) (told : option_map acl_of_bucket o ≡ Some list) (t : Bool) → is_other_acl acl list ≡ t → is_other_acl acl (bucket_by o list told).0.acl ≡ t
other_by o acl list told t e = ap (is_other_acl acl) (bucket_by o list told).2 ∙ e

module _ (settings : Settings) (state : State) (bucket key : List ℕ) (acl : Option Acl) (from_bucket from_key : List ℕ) (replaced : Option Described) (conditions : Conditions) (only_if : OnlyIf) (label : Label) where
  abbrev CopiesUnder : Reply → State → Type 0
  CopiesUnder reply new = S3Step settings state (CopyObject bucket key acl from_bucket from_key replaced conditions only_if) label reply new

  pub copy_missing : TellsBucket bucket state None → CopiesUnder (Refused NoSuchBucket) state
  copy_missing told = copy_without_bucket settings state bucket key acl from_bucket from_key replaced conditions only_if label (none_by (get state bucket) told)

  pub copy_other : (list : Acl) → TellsBucket bucket state (Some list) → is_other_acl acl list ≡ true → CopiesUnder (Refused NotImplemented) state
  copy_other list told e =
      let b = bucket_by (get state bucket) list told in
      copy_with_another_acl settings state bucket key acl from_bucket from_key replaced conditions only_if label b.0 b.1 (other_by (get state bucket) acl list told true e)

  pub copy_from_missing : (list : Acl) → TellsBucket bucket state (Some list) → is_other_acl acl list ≡ false → TellsBucket from_bucket state None → CopiesUnder (Refused NoSuchBucket) state
  copy_from_missing list told same none =
      let b = bucket_by (get state bucket) list told in
      copy_without_source_bucket settings state bucket key acl from_bucket from_key replaced conditions only_if label b.0 b.1 (other_by (get state bucket) acl list told false same) (none_by (get state from_bucket) none)

  module _ (list : Acl) (same : is_other_acl acl list ≡ false) where
    pub copy_source_missing : IsFoundBucket bucket list from_bucket state → TellsObject from_bucket from_key state None → CopiesUnder (Refused NoSuchKey) state
    copy_source_missing found none =
        let b = bucket_by (get state bucket) list found.listed in
        let from = bucket_by (get state from_bucket) found.from.0 found.from.1 in
        copy_without_source settings state bucket key acl from_bucket from_key replaced conditions only_if label b.0 b.1 (other_by (get state bucket) acl list found.listed false same) from.0 from.1
        (sym (ap (λ v. object_at v from_key) from.1) ∙ no_object (object_at (get state from_bucket) from_key) none)

    -- the source was found, but doesn't meet the conditions
    pub copy_refused : {head : ObjectHead} → IsFoundSource bucket list from_bucket from_key head state → may_be_copied conditions head ≡ false → CopiesUnder (Refused PreconditionFailed) state
    unfolding source_of
    copy_refused {head = head} found held =
        let b = bucket_by (get state bucket) list found.listed in
        let x = object_by_head (object_at (get state from_bucket) from_key) head found.source in
        copy_held settings state bucket key acl from_bucket from_key replaced conditions only_if label b.0 b.1 (other_by (get state bucket) acl list found.listed false same)
        (source_of state from_bucket from_key x.0 x.1) (ap (may_be_copied conditions) x.2 ∙ held)

-- it meets them, so the copy is the one without any
pub copied_under : {settings : Settings} {state : State} {bucket key : List ℕ} {acl : Option Acl} {list : Acl} {from_bucket from_key : List ℕ} {replaced : Option Described} {conditions : Conditions} {only_if : OnlyIf} {label : Label} {head : ObjectHead}
    → IsFoundSource bucket list from_bucket from_key head state → may_be_copied conditions head ≡ true → (reply : Reply) (new : State)
    → S3Step settings state (CopyObject bucket key acl from_bucket from_key replaced no_conditions only_if) label reply new
    → S3Step settings state (CopyObject bucket key acl from_bucket from_key replaced conditions only_if) label reply new
unfolding source_of
copied_under {settings = settings} {state = state} {bucket = bucket} {key = key} {acl = acl} {from_bucket = from_bucket} {from_key = from_key} {replaced = replaced} {conditions = conditions} {only_if = only_if} {label = label} {head = head} found met reply new s =
    let x = object_by_head (object_at (get state from_bucket) from_key) head found.source in
    copy_as_without settings state bucket key from_bucket from_key conditions label (source_of state from_bucket from_key x.0 x.1) (ap (may_be_copied conditions) x.2 ∙ met) acl replaced only_if s

module _ (settings : Settings) (state : State) (bucket key : List ℕ) (acl : Option Acl) (from_bucket from_key : List ℕ) (replaced : Option Described) (label : Label) where
  abbrev Copies : Reply → State → Type 0
  Copies reply new = S3Step settings state (CopyObject bucket key acl from_bucket from_key replaced no_conditions Always) label reply new

  abbrev CopiesIf : OnlyIf → Reply → State → Type 0
  CopiesIf only_if reply new = S3Step settings state (CopyObject bucket key acl from_bucket from_key replaced no_conditions only_if) label reply new

  module _ (list : Acl) (told : TellsBucket bucket state (Some list)) (same : is_other_acl acl list ≡ false) where
    abbrev it : (b : Bucket) × (get state bucket ≡ Some b) × (b.acl ≡ list)
    it = bucket_by (get state bucket) list told

    pub of_source : (o : Object) → object_at (get state from_bucket) from_key ≡ Some o → is_onto_itself bucket key from_bucket from_key replaced ≡ false
        → Copies (Copied false o.etag label.moment) (adjust bucket (put_object key (copied replaced label.moment o)) state)
    unfolding source_of
    of_source o e other =
        step_copied settings state bucket key acl from_bucket from_key replaced no_conditions Always label it.0 it.1 (other_by (get state bucket) acl list told false same) (source_of state from_bucket from_key o e) refl other refl

    itself : (only_if : OnlyIf) (o : Object) → object_at (get state from_bucket) from_key ≡ Some o → is_onto_itself bucket key from_bucket from_key replaced ≡ true → CopiesIf only_if (Refused InvalidRequest) state
    itself only_if o e onto =
        copy_onto_itself settings state bucket key acl from_bucket from_key replaced no_conditions only_if label it.0 it.1 (other_by (get state bucket) acl list told false same) (source_of state from_bucket from_key o e) refl onto

    -- what its own condition comes to
    held_by : (only_if : OnlyIf) (refused : Option Code) → TellsRefusal bucket key only_if state refused → refusal_in only_if key it.0 ≡ refused
    held_by only_if refused is = sym (ap (λ v. refusal only_if (option_map etag_of_object (object_at v key))) it.1) ∙ is

    unmet : (only_if : OnlyIf) (o : Object) → object_at (get state from_bucket) from_key ≡ Some o → is_onto_itself bucket key from_bucket from_key replaced ≡ false → (code : Code)
        → TellsRefusal bucket key only_if state (Some code) → CopiesIf only_if (Refused code) state
    unfolding held_by
    unmet only_if o e other code is =
        copy_unmet settings state bucket key acl from_bucket from_key replaced no_conditions only_if label it.0 it.1 (other_by (get state bucket) acl list told false same) (source_of state from_bucket from_key o e) refl other code (held_by only_if (Some code) is)

    -- where it is met, the copy is the one without any
    pub copy_met : (only_if : OnlyIf) → TellsRefusal bucket key only_if state None → (reply : Reply) (new : State) → Copies reply new → CopiesIf only_if reply new
    unfolding held_by
    copy_met only_if is reply new does = copy_as_always settings state bucket key only_if label it.0 it.1 (held_by only_if None is) acl from_bucket from_key replaced no_conditions does

  module _ (list : Acl) (same : is_other_acl acl list ≡ false) (only_if : OnlyIf) where
    pub copy_itself : {head : ObjectHead} → IsFoundSource bucket list from_bucket from_key head state → is_onto_itself bucket key from_bucket from_key replaced ≡ true
        → CopiesIf only_if (Refused InvalidRequest) state
    copy_itself {head = head} found onto =
        let x = object_by_head (object_at (get state from_bucket) from_key) head found.source in
        itself list found.listed same only_if x.0 x.1 onto

    pub copy_held_back : {head : ObjectHead} → IsFoundSource bucket list from_bucket from_key head state → is_onto_itself bucket key from_bucket from_key replaced ≡ false → (code : Code)
        → TellsRefusal bucket key only_if state (Some code) → CopiesIf only_if (Refused code) state
    copy_held_back {head = head} found other code is =
        let x = object_by_head (object_at (get state from_bucket) from_key) head found.source in
        unmet list found.listed same only_if x.0 x.1 other code is

  module _ (list : Acl) (same : is_other_acl acl list ≡ false) where
    -- the bytes that were read are put
    pub copy_put : {head : ObjectHead} {body : List ℕ} → IsReadSource bucket list from_bucket from_key head body state → is_onto_itself bucket key from_bucket from_key replaced ≡ false
        → head.etag ≡ body_etag body → (content : Described) → content ≡ content_of replaced head.content_type head.meta
        → Copies (Copied false head.etag label.moment) (puts_object bucket key content.content_type content.meta body label.moment state)
    copy_put {head = head} {body = body} read other etag content is =
        let it = object_read from_bucket from_key head state read.source body read.read in
        let o = it.object in
        let own : o.etag ≡ body_etag o.bytes = ap (λ (h : ObjectHead). h.etag) it.has_head ∙ etag ∙ ap body_etag (sym it.has_bytes) in
        let put : Copies (Copied false o.etag label.moment) (puts_object bucket key (content_of replaced o.content_type o.meta).content_type (content_of replaced o.content_type o.meta).meta o.bytes label.moment state) =
        subst (λ x. Copies (Copied false o.etag label.moment) (adjust bucket (put_object key x) state)) (copied_is replaced label.moment o own) (of_source list read.listed same o it.there other) in
        let with_body : Copies (Copied false o.etag label.moment) (puts_object bucket key (content_of replaced o.content_type o.meta).content_type (content_of replaced o.content_type o.meta).meta body label.moment state) =
        subst (λ bytes. Copies (Copied false o.etag label.moment) (puts_object bucket key (content_of replaced o.content_type o.meta).content_type (content_of replaced o.content_type o.meta).meta bytes label.moment state)) it.has_bytes put in
        let with_head : Copies (Copied false head.etag label.moment) (puts_object bucket key (content_of replaced head.content_type head.meta).content_type (content_of replaced head.content_type head.meta).meta body label.moment state) =
        subst (λ (h : ObjectHead). Copies (Copied false h.etag label.moment) (puts_object bucket key (content_of replaced h.content_type h.meta).content_type (content_of replaced h.content_type h.meta).meta body label.moment state)) it.has_head with_body in
        subst (λ (c : Described). Copies (Copied false head.etag label.moment) (puts_object bucket key c.content_type c.meta body label.moment state)) (sym is) with_head

-- ---- the bound of its plan

wide_by : (t : Bool) (k n x y : ℕ) → k ≤ n → k ≤ cond t (n + 2 + 2 * x + 2 * y) n
wide_by true k n x y near = omega (arith, near)
wide_by false k n x y near = near

more_by : (t : Bool) (m n x y : ℕ) → m + cond t (n + 2 + 2 * x + 2 * y) n ≤ cond t (n + m + 2 + 2 * x + 2 * y) (n + m)
more_by true m n x y = omega arith
more_by false m n x y = omega arith

parts_by : (o : Option Object) (head : ObjectHead) → option_map head_of o ≡ Some head → 32 < length head.etag → is_of_parts o ≡ true
parts_by None head told long = cc
parts_by (Some x) head told long = let same : head_of x ≡ head = cc in lt-ltb 32 (length x.etag) (subst (λ (h : ObjectHead). 32 < length h.etag) (sym same) long)

module _ (bucket from_bucket from_key : List ℕ) where
  -- so many calls may be made of each source
  pub as_few : (k n : ℕ) (tree : SwiftAccount) → k ≤ n → k ≤ copy_calls n tree bucket from_bucket from_key
  as_few k n tree near =
      wide_by (is_of_parts (object_at (get (s3_state tree) from_bucket) from_key)) k n (records_of tree bucket + segments_of tree bucket) (listed_by tree from_bucket from_key) near

  -- and so many more, where the account stayed
  pub more_calls : (m n most : ℕ) {old new : SwiftAccount} → most ≡ n + m → new ≡ old → m + copy_calls n new bucket from_bucket from_key ≤ copy_calls most old bucket from_bucket from_key
  more_calls m n most {old = old} is same =
      subst {A = ℕ × SwiftAccount} (λ x. m + copy_calls n x.1 bucket from_bucket from_key ≤ copy_calls x.0 old bucket from_bucket from_key) (λ i. (sym is i, sym same i))
      (more_by (is_of_parts (object_at (get (s3_state old) from_bucket) from_key)) m n (records_of old bucket + segments_of old bucket) (listed_by old from_bucket from_key))

  -- of a source with an ETag of parts
  pub calls_of_parts : (n : ℕ) (tree : SwiftAccount) {head : ObjectHead} → TellsObject from_bucket from_key (s3_state tree) (Some head) → 32 < length head.etag
      → copy_calls n tree bucket from_bucket from_key ≡ n + 2 + 2 * (records_of tree bucket + segments_of tree bucket) + 2 * listed_by tree from_bucket from_key
  calls_of_parts n tree {head = head} told long =
      ap (λ t. cond t (n + 2 + 2 * (records_of tree bucket + segments_of tree bucket) + 2 * listed_by tree from_bucket from_key) n)
      (parts_by (object_at (get (s3_state tree) from_bucket) from_key) head told long)

module _ {settings : Settings} {bucket key : List ℕ} {acl : Option Acl} {from_bucket from_key : List ℕ} {replaced : Option Described} {label : Label} where
  -- more calls are allowed than are made
  pub plans_wider : {given : SwiftAccount → Type 0} (n most : ℕ) {a b : History} {end : Result Reply PlanFault} → n ≤ most → Plans (always n) a b settings given (CopyObject bucket key acl from_bucket from_key replaced no_conditions Always) label Settled end
      → Plans (by_account most) a b settings given (CopyObject bucket key acl from_bucket from_key replaced no_conditions Always) label Settled end
  plans_wider n most within plans = record {
    grows = record { on = plans.grows.on; calls = λ met. let near = plans.grows.calls in omega (arith, near) };
    cause = plans.cause;
    own = plans.own;
    effect = plans.effect;
    knows = plans.knows;
  }

  -- of a source whose head has an ETag of parts
  pub plans_of_parts : {list : Acl} {head : ObjectHead} {a b : History} {end : Result Reply PlanFault} → 32 < length head.etag
      → Plans (by_account (4 + 2 * (records_of (present a) bucket + segments_of (present a) bucket) + 2 * listed_by (present a) from_bucket from_key)) a b settings
      (Given (IsFoundSource bucket list from_bucket from_key head)) (CopyObject bucket key acl from_bucket from_key replaced no_conditions Always) label Settled end
      → Plans (by_account (copy_calls 2 (present a) bucket from_bucket from_key)) a b settings
      (Given (IsFoundSource bucket list from_bucket from_key head)) (CopyObject bucket key acl from_bucket from_key replaced no_conditions Always) label Settled end
  plans_of_parts {a = a} {b = b} long plans = record {
    grows = record {
      on = plans.grows.on;
      calls = λ met. subst (λ n. b.called ≤ a.called + n) (sym (calls_of_parts bucket from_bucket from_key 2 (present a) met.has.is.source long)) (plans.grows.calls met);
    };
    cause = plans.cause;
    own = plans.own;
    effect = plans.effect;
    knows = plans.knows;
  }
