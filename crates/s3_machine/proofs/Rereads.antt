-- A GetObject after a change of the key.
use Rattle.std.specs.Prelude.{◌≡◌, ℕ, Bool, true, false, List, length, Option, Some, None}
use Rattle.std.proofs.Common.{refl, ap, ◌∙◌}
use Rattle.std.proofs.Math.Seq.{take-length}
use Rattle.std.specs.Option.{option_map}
use Rattle.std.specs.FinMap.{get}
use Rattle.gate_base.specs.Maps.{adjust}
use Rattle.gate_base.proofs.lemmas.Maps.{by_name, at_adjust, at_insert, at_remove}
use Rattle.gate_base.specs.declared.caller.Caller.{Caller}
use Rattle.gate_base.specs.declared.caller.Caller.TheVariants.{Owner}
use Rattle.gate_base.specs.declared.page.Pair.{Pair}
use Rattle.s3_names.specs.declared.acl.Acl.{Acl}
use Rattle.s3_machine.specs.declared.code.Code.TheVariants.{NoSuchKey, NotImplemented}
use Rattle.s3_machine.specs.declared.operation.Label.{Label}
use Rattle.s3_machine.specs.declared.operation.ObjectRead.{ObjectRead}
use Rattle.s3_machine.specs.declared.operation.Settings.{Settings}
use Rattle.s3_machine.specs.Ops.{PutObject, GetObject, DeleteObject}
use Rattle.s3_machine.specs.declared.operation.Reply.{Reply}
use Rattle.s3_machine.specs.Replies as reply
use Rattle.s3_machine.specs.declared.operation.Reply.TheVariants.{Refused, Gone}
use Rattle.s3_machine.specs.Replies.{Stored}
use Rattle.s3_machine.specs.declared.reading.Conditions.{Conditions}
use Rattle.s3_machine.specs.declared.reading.Range.{Range}
use Rattle.s3_machine.specs.declared.reading.Span.{Span}
use Rattle.s3_machine.specs.Conditions.{no_conditions}
use Rattle.s3_machine.specs.declared.code.Code.{Code}
use Rattle.s3_machine.specs.declared.only_if.OnlyIf.{OnlyIf}
use Rattle.s3_machine.specs.State.{Object, Bucket, State}
use Rattle.s3_machine.specs.Step.{Outcome, S3Step, unless, unless_refused, refusal_in, gives, in_bucket_by, in_object_by, in_readable, is_other_acl, puts, deletes, reads, head_of, got, whole, new_object, put_object, drop_object}

-- a change of a bucket that is there
changed : (old : State) (bucket : List ℕ) (f : Bucket → Bucket) (b : Bucket) → get old bucket ≡ Some b → get (adjust bucket f old) bucket ≡ Some (f b)
changed old bucket f b is = at_adjust by_name bucket f old ∙ ap (option_map f) is

-- a put as it ends where nothing else refuses it
abbrev put_end : State → List ℕ → List ℕ → Object → Option Pair → Bool → Option Code → Outcome
put_end old bucket key o checksum t held = unless t NotImplemented old (unless_refused held old (gives (Stored o.etag checksum) (adjust bucket (put_object key o) old)))

stored_in : (old new : State) (bucket key : List ℕ) (o : Object) (checksum : Option Pair) (etag : List ℕ) (compared : Option Pair) (t : Bool) (held : Option Code)
    → Stored etag compared ≡ (put_end old bucket key o checksum t held).reply → new ≡ (put_end old bucket key o checksum t held).state → new ≡ adjust bucket (put_object key o) old
stored_in old new bucket key o checksum etag compared true held e f = cc
stored_in old new bucket key o checksum etag compared false None e f = f
stored_in old new bucket key o checksum etag compared false (Some code) e f = cc

gone_in : (old new : State) (bucket key : List ℕ) (held : Option Code) → Gone ≡ (unless_refused held old (gives Gone (adjust bucket (drop_object key) old))).reply
    → new ≡ (unless_refused held old (gives Gone (adjust bucket (drop_object key) old))).state → new ≡ adjust bucket (drop_object key) old
gone_in old new bucket key None e f = f
gone_in old new bucket key (Some code) e f = cc

-- what a put that was stored leaves in its bucket
pub left_by_put : (old new : State) (bucket key : List ℕ) (acl : Option Acl) (o : Object) (etag : List ℕ) (only_if : OnlyIf) (checksum compared : Option Pair) (v : Option Bucket) → get old bucket ≡ v
    → Stored etag compared ≡ (in_bucket_by v old (puts old bucket key acl o only_if checksum)).reply
    → new ≡ (in_bucket_by v old (puts old bucket key acl o only_if checksum)).state
    → (b : Bucket) × (get new bucket ≡ Some b) × (get b.objects key ≡ Some o)
left_by_put old new bucket key acl o etag only_if checksum compared None is e f = cc
left_by_put old new bucket key acl o etag only_if checksum compared (Some b) is e f =
    let goes = stored_in old new bucket key o checksum etag compared (is_other_acl acl b.acl) (refusal_in only_if key b) e f in
    (put_object key o b, ap (λ s. get s bucket) goes ∙ changed old bucket (put_object key o) b is, at_insert by_name b.objects key o)

left_by_delete : (old new : State) (bucket key : List ℕ) (only_if : OnlyIf) (v : Option Bucket) → get old bucket ≡ v
    → Gone ≡ (in_bucket_by v old (deletes old bucket key only_if)).reply → new ≡ (in_bucket_by v old (deletes old bucket key only_if)).state
    → (b : Bucket) × (get new bucket ≡ Some b) × (get b.objects key ≡ None)
left_by_delete old new bucket key only_if None is e f = cc
left_by_delete old new bucket key only_if (Some b) is e f =
    let goes = gone_in old new bucket key (refusal_in only_if key b) e f in
    (drop_object key b, ap (λ s. get s bucket) goes ∙ changed old bucket (drop_object key) b is, at_remove by_name b.objects key)

-- what an owner is answered
owner_reads : (old : State) (bucket key : List ℕ) (caller : Caller) (answer : Object → Reply) (b : Bucket) (v : Option Object) → caller ≡ Owner
    → get old bucket ≡ Some b → get b.objects key ≡ v → in_bucket_by (get old bucket) old (in_readable old caller key (reads old answer)) ≡ in_object_by v old (reads old answer)
owner_reads old bucket key caller answer b v owner found is =
    ap (λ w. in_bucket_by w old (in_readable old caller key (reads old answer))) found ∙ ap (λ c. in_readable old c key (reads old answer) b) owner
    ∙ ap (λ w. in_object_by w old (reads old answer)) is

-- a read that asks for nothing else than all of the object
abbrev all_read : List ℕ → List ℕ → List Pair → ObjectRead
all_read bucket key shown = record { bucket = bucket; key = key; range = None; conditions = no_conditions; part = None; shown = shown }

-- all of an object is got where nothing else is asked
got_whole : (bucket key : List ℕ) (shown : List Pair) (chosen : Option Span) (o : Object) → got (all_read bucket key shown) chosen o ≡ whole shown o
got_whole bucket key shown chosen o = ap (λ bytes. reply.Object (head_of o) 0 (length o.bytes) false bytes shown None) (take-length o.bytes)

pub get_after_put : (settings : Settings) (old new after : State) (bucket key content_type body etag : List ℕ) (acl : Option Acl) (meta : List Pair) (only_if : OnlyIf) (checksum : Option Pair) (shown : List Pair) (first second : Label) (reply : Reply)
    → S3Step settings old (PutObject bucket key acl content_type meta body only_if checksum) first (Stored etag checksum) new
    → second.caller ≡ Owner → S3Step settings new (GetObject bucket key None no_conditions None shown) second reply after
    → reply ≡ whole shown (new_object first.moment content_type meta body)
get_after_put settings old new after bucket key content_type body etag acl meta only_if checksum shown first second reply put owner goes =
    let o : Object = new_object first.moment content_type meta body in
    let left = left_by_put old new bucket key acl o etag only_if checksum checksum (get old bucket) refl put.replies put.goes in
    goes.replies ∙ ap (λ (w : Outcome). w.reply) (owner_reads new bucket key second.caller (got (all_read bucket key shown) goes.choice.part) left.0 (Some o) owner left.1 left.2) ∙ got_whole bucket key shown goes.choice.part o

pub get_after_delete : (settings : Settings) (old new after : State) (bucket key : List ℕ) (range : Option Range) (conditions : Conditions) (only_if : OnlyIf) (part : Option ℕ) (shown : List Pair)
    (first second : Label) (reply : Reply)
    → S3Step settings old (DeleteObject bucket key only_if) first Gone new
    → second.caller ≡ Owner → S3Step settings new (GetObject bucket key range conditions part shown) second reply after
    → reply ≡ Refused NoSuchKey
get_after_delete settings old new after bucket key range conditions only_if part shown first second reply deleted owner goes =
    let left = left_by_delete old new bucket key only_if (get old bucket) refl deleted.replies deleted.goes in
    goes.replies ∙ ap (λ (w : Outcome). w.reply) (owner_reads new bucket key second.caller (got (record { bucket = bucket; key = key; range = range; conditions = conditions; part = part; shown = shown }) goes.choice.part) left.0 None owner left.1 left.2)
