-- What the calls on the source of a copy told: a head with which an object may be put, and the bytes of it.
use Rattle.std.specs.Prelude.{◌≡◌, ◌<◌, ◌≤◌, ◌==◌, ◌^◌, ◌&&◌, ℕ, Bool, true, false, cond, nat_le, bytes_eq, List, length, Option, None, Some, Result, Ok, Err}
use Rattle.std.specs.Option.{option_and_then, option_map}
use Rattle.std.specs.FinMap.{get}
use Rattle.std.specs.Result.{IsErrAnd}
use Rattle.std.proofs.Common.{refl, sym, ap, subst, ◌∙◌, arith, true≢false}
use Rattle.std.proofs.lemmas.Bool.{and_from, and_parts, eq-eqb}
use Rattle.std.proofs.lemmas.Bool.Decides.{nat_tests}
use Rattle.std.proofs.lemmas.Slice.Eq.{bytes_eq-Decides}
use Rattle.s3_names.specs.Bucket.{is_bucket}
use Rattle.s3_machine.specs.declared.operation.ObjectHead.{ObjectHead}
use Rattle.s3_machine.specs.ETag.{body_etag}
use Rattle.s3_machine.specs.Limits.{is_content_type, is_proper_meta, most_body_bytes}
use Rattle.s3_machine.specs.State.{Object, State}
use Rattle.s3_machine.specs.Step.{head_of}
use Rattle.swift_calls.specs.Account.{SwiftAccount}
use Rattle.swift_calls.specs.History.{History, present}
use Rattle.swift_marks.specs.Tag.{is_etag}
use Rattle.upload_records.specs.Consistent.{IsConsistent}
use Rattle.upload_records.specs.Laws.{IsProperStored, ObjectProper}
use Rattle.upload_records.specs.Native.{IsSettled, object_at, s3_state}
use Rattle.account_calls.specs.Calls.{always, Asks, Given, Grows, HasObject, Met, Tells, TellsBytes, TellsObject, bytes_in}
use Rattle.account_calls.specs.declared.fault.PlanFault.{PlanFault}
use Rattle.account_calls.specs.declared.fault.PlanFault.TheVariants.{Failed, Memory, Inconsistent}
use Rattle.account_calls.proofs.lemmas.Ends.{met_within}
use Rattle.account_calls.proofs.lemmas.Faults.{err_is}
use Rattle.many_keys.specs.Copies.{IsProperHead, body_due, is_head_to_copy, is_body_to_copy, proper_due}

-- ---- the head

pub object_by_head : (o : Option Object) (head : ObjectHead) → option_map head_of o ≡ Some head → (x : Object) × (o ≡ Some x) × (head_of x ≡ head)
object_by_head None head e = cc
object_by_head (Some x) head e = (x, refl, cc)

-- an object that may be put again has a head that says so
stored_head : (o : Object) → IsProperStored o → is_head_to_copy (head_of o) ≡ true
stored_head o stored = and_from (is_content_type o.content_type && is_proper_meta o.meta) (is_etag o.etag)
    (and_from (is_content_type o.content_type) (is_proper_meta o.meta) stored.typed stored.described) stored.etag

-- a head with the marks of one, and with a size that numbers hold
pub proper_head : (head : ObjectHead) → is_head_to_copy head ≡ true → head.size < 2 ^ 63 → IsProperHead head
proper_head head e sized =
    let parts = and_parts (is_content_type head.content_type && is_proper_meta head.meta) (is_etag head.etag) e in
    let first = and_parts (is_content_type head.content_type) (is_proper_meta head.meta) parts.0 in
    record { typed = first.0; described = first.1; etag = parts.1; sized = sized }

module _ (law : ObjectProper) (bucket key : List ℕ) (named : is_bucket bucket ≡ true) where
  -- so has each object of a state
  told_head : (head : ObjectHead) (tree : SwiftAccount) → IsConsistent tree → IsSettled tree → TellsObject bucket key (s3_state tree) (Some head) → is_head_to_copy head ≡ true
  told_head head tree sound settled told =
      let it = object_by_head (object_at (get (s3_state tree) bucket) key) head told in
      ap is_head_to_copy (sym it.2) ∙ stored_head it.0 (law tree bucket key it.0 named sound settled.none it.1)

  -- what HEAD told is a head that an object has
  module _ {a b : History} where
    by_test : (head : ObjectHead) (t : Bool) → is_head_to_copy head ≡ t → Asks (always 1) a b IsSettled (Tells (TellsObject bucket key)) (Ok (Some head))
        → Asks (always 1) a b IsSettled (Tells (TellsObject bucket key)) (cond t (Ok (Some head)) (Err Inconsistent))
    by_test head true e asks = asks
    by_test head false e asks = record {
      grows = asks.grows;
      cause = asks.cause;
      effect = λ met.
          let told = asks.effect met in
          let from : b.account_at a.called ≡ present a = (asks.grows.on.kept met.observable).accounts a.called (omega arith) in
          absurd (true≢false (sym (told_head head (present a) met.sound met.has (subst (λ tree. TellsObject bucket key (s3_state tree) (Some head)) from told.2.of_state)) ∙ e));
      settled = asks.settled;
    }

    by_head : (told : Option ObjectHead) → Asks (always 1) a b IsSettled (Tells (TellsObject bucket key)) (Ok told)
        → Asks (always 1) a b IsSettled (Tells (TellsObject bucket key)) (proper_due told)
    by_head None asks = asks
    by_head (Some head) asks = by_test head (is_head_to_copy head) refl asks

    pub asks_proper : {told : Option ObjectHead} {result : Result (Option ObjectHead) PlanFault} → Asks (always 1) a b IsSettled (Tells (TellsObject bucket key)) (Ok told)
        → result ≡ proper_due told → Asks (always 1) a b IsSettled (Tells (TellsObject bucket key)) result
    asks_proper {told = told} asks is = subst (Asks (always 1) a b IsSettled (Tells (TellsObject bucket key))) (sym is) (by_head told asks)

-- ---- the bytes

-- the object that was there has the ETag and the size of its head
has_source : (from_bucket from_key etag : List ℕ) (head : ObjectHead) (state : State) → etag ≡ head.etag → TellsObject from_bucket from_key state (Some head)
    → HasObject from_bucket from_key etag head.size state
has_source from_bucket from_key etag head state is told = (head, told, sym is, refl)

some_same : {x y : List ℕ} → Some x ≡ Some y → x ≡ y
some_same e = cc

some_none : {x : List ℕ} → Some x ≡ None → ⊥
some_none e = cc

-- an object with this head and these bytes
pub record IsReadObject (from_bucket from_key : List ℕ) (head : ObjectHead) (bytes : List ℕ) (state : State) : Type 0 where
  pub object : Object
  pub there : object_at (get state from_bucket) from_key ≡ Some object
  pub has_head : head_of object ≡ head
  pub has_bytes : object.bytes ≡ bytes

module _ (from_bucket from_key : List ℕ) (head : ObjectHead) (state : State) (source : TellsObject from_bucket from_key state (Some head)) where
  it : (x : Object) × (object_at (get state from_bucket) from_key ≡ Some x) × (head_of x ≡ head)
  it = object_by_head (object_at (get state from_bucket) from_key) head source

  told_bytes : option_and_then (λ bytes. Some bytes) (option_map bytes_in (object_at (get state from_bucket) from_key)) ≡ Some it.0.bytes
  told_bytes = ap (λ o. option_and_then (λ bytes. Some bytes) (option_map bytes_in o)) it.1

  -- its bytes are told
  not_gone : TellsBytes from_bucket from_key None state None → ⊥
  not_gone none = some_none (sym told_bytes ∙ none)

  pub object_read : (bytes : List ℕ) → TellsBytes from_bucket from_key None state (Some bytes) → IsReadObject from_bucket from_key head bytes state
  object_read bytes read = record { object = it.0; there = it.1; has_head = it.2; has_bytes = some_same (sym told_bytes ∙ read) }

-- an object that was put in one piece has a body with its ETag
stored_body : (o : Object) → IsProperStored o → length o.etag ≤ 32 → is_body_to_copy (head_of o) o.bytes ≡ true
stored_body o stored short =
    let whole = stored.whole short in
    let least : nat_le (length o.bytes) most_body_bytes ≡ true = let few = whole.1 in grind (arith, nat_tests) in
    and_from (length o.bytes == length o.bytes && nat_le (length o.bytes) most_body_bytes) (bytes_eq o.etag (body_etag o.bytes))
    (and_from (length o.bytes == length o.bytes) (nat_le (length o.bytes) most_body_bytes) (eq-eqb (length o.bytes) (length o.bytes) refl) least)
    ((bytes_eq-Decides o.etag (body_etag o.bytes)).1 whole.0)

module _ (law : ObjectProper) (from_bucket from_key : List ℕ) (named : is_bucket from_bucket ≡ true) (head : ObjectHead) (short : length head.etag ≤ 32) where
  -- so it is of a source that was read
  body_is : (bytes : List ℕ) (tree : SwiftAccount) → IsConsistent tree → IsSettled tree → IsReadObject from_bucket from_key head bytes (s3_state tree) → is_body_to_copy head bytes ≡ true
  body_is bytes tree sound settled read =
      let o = read.object in
      subst (λ (h : ObjectHead). is_body_to_copy h bytes ≡ true) read.has_head (subst (λ body. is_body_to_copy (head_of o) body ≡ true) read.has_bytes
      (stored_body o (law tree from_bucket from_key o named sound settled.none read.there) (subst (λ (h : ObjectHead). length h.etag ≤ 32) (sym read.has_head) short)))

  abbrev TellsBody : SwiftAccount → SwiftAccount → List ℕ → Type 0
  TellsBody = Tells (λ state body. TellsBytes from_bucket from_key None state (Some body))

  abbrev HasHead : SwiftAccount → Type 0
  HasHead = Given (λ state. TellsObject from_bucket from_key state (Some head))

  module _ (etag : List ℕ) (is : etag ≡ head.etag) (a b : History) where
    abbrev Read : Option (List ℕ) → Type 0
    Read told = Asks (always 1) a b (Given (HasObject from_bucket from_key etag head.size)) (Tells (TellsBytes from_bucket from_key None)) (Ok told)

    under : Met HasHead a → Met (Given (HasObject from_bucket from_key etag head.size)) a
    under = met_within (λ tree told. has_source from_bucket from_key etag head (s3_state tree) is told)

    grows_under : (told : Option (List ℕ)) → Read told → Grows (always 1) HasHead a b
    grows_under told asks = record { on = asks.grows.on; calls = asks.grows.calls }

    -- what was told of the account as it began
    told_of : (told : Option (List ℕ)) → Read told → Met HasHead a → TellsBytes from_bucket from_key None (s3_state (present a)) told
    told_of told asks met =
        let from : b.account_at a.called ≡ present a = (asks.grows.on.kept met.observable).accounts a.called (omega arith) in
        subst (λ tree. TellsBytes from_bucket from_key None (s3_state tree) told) from (asks.effect (under met)).2.of_state

    -- they can't be what no object has
    never_read : (told : Option (List ℕ)) → Read told → (Met HasHead a → ⊥) → Asks (always 1) a b HasHead TellsBody (Err Inconsistent)
    never_read told asks never = record { grows = grows_under told asks; cause = asks.cause; effect = λ met. absurd (never met); settled = asks.settled }

    by_body : (body : List ℕ) (t : Bool) → is_body_to_copy head body ≡ t → Read (Some body) → Asks (always 1) a b HasHead TellsBody (cond t (Ok body) (Err Inconsistent))
    by_body body true e asks = record {
      grows = grows_under (Some body) asks;
      cause = asks.cause;
      effect = λ met. let keeps = asks.effect (under met) in (keeps.0, keeps.1, record { of_state = keeps.2.of_state; same = keeps.2.same });
      settled = asks.settled;
    }
    by_body body false e asks =
        never_read (Some body) asks
        (λ met. true≢false (sym (body_is body (present a) met.sound met.has.settled (object_read from_bucket from_key head (s3_state (present a)) met.has.is body (told_of (Some body) asks met))) ∙ e))

    by_bytes : (told : Option (List ℕ)) → Read told → Asks (always 1) a b HasHead TellsBody (body_due head told)
    by_bytes None asks = never_read None asks (λ met. not_gone from_bucket from_key head (s3_state (present a)) met.has.is (told_of None asks met))
    by_bytes (Some body) asks = by_body body (is_body_to_copy head body) refl asks

    pub asks_body : (told : Option (List ℕ)) (result : Result (List ℕ) PlanFault) → Read told → result ≡ body_due head told → Asks (always 1) a b HasHead TellsBody result
    asks_body told result asks due = subst (Asks (always 1) a b HasHead TellsBody) (sym due) (by_bytes told asks)

    -- GET told nothing
    by_fault : (f : PlanFault) → Asks (always 1) a b (Given (HasObject from_bucket from_key etag head.size)) (Tells (TellsBytes from_bucket from_key None)) (Err f)
        → Asks (always 1) a b HasHead TellsBody (Err f)
    by_fault Failed asks = record { grows = record { on = asks.grows.on; calls = asks.grows.calls }; cause = asks.cause; effect = λ met. asks.effect (under met); settled = asks.settled }
    by_fault Memory asks = record { grows = record { on = asks.grows.on; calls = asks.grows.calls }; cause = asks.cause; effect = λ met. asks.effect (under met); settled = asks.settled }
    by_fault Inconsistent asks = record { grows = record { on = asks.grows.on; calls = asks.grows.calls }; cause = asks.cause; effect = λ met. asks.effect (under met); settled = asks.settled }

    pub asks_no_body : (f : PlanFault) (result : Result (List ℕ) PlanFault) → Asks (always 1) a b (Given (HasObject from_bucket from_key etag head.size)) (Tells (TellsBytes from_bucket from_key None)) (Err f)
        → IsErrAnd result (λ e. e ≡ f) → Asks (always 1) a b HasHead TellsBody result
    asks_no_body f result asks is = subst (Asks (always 1) a b HasHead TellsBody) (sym (err_is result f is)) (by_fault f asks)

-- what is known of a body that is the source's
pub record IsSourceBody (head : ObjectHead) (body : List ℕ) : Type 0 where
  pub sized : length body ≤ most_body_bytes
  pub same : head.etag ≡ body_etag body

pub source_body : (head : ObjectHead) (body : List ℕ) → is_body_to_copy head body ≡ true → IsSourceBody head body
source_body head body e =
    let parts = and_parts (length body == head.size && nat_le (length body) most_body_bytes) (bytes_eq head.etag (body_etag body)) e in
    let few = (and_parts (length body == head.size) (nat_le (length body) most_body_bytes) parts.0).1 in
    record { sized = grind (arith, nat_tests); same = (bytes_eq-Decides head.etag (body_etag body)).0 parts.1 }
