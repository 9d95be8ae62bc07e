-- An object is found that a read asks for, and a piece of it is got.
use Rattle.std.specs.Prelude.{◌≡◌, ◌≢◌, ◌≤◌, ◌<◌, ◌+◌, ◌-◌, ℕ, Bool, true, cond, nat_lt, min, List, length, take, drop, Option, Some, None, Result, Ok, Err, IfOk}
use Rattle.std.specs.Option.{option_and_then, option_map}
use Rattle.std.specs.FinMap.{get}
use Rattle.std.specs.Result.{IsErrAnd}
use Rattle.std.proofs.Common.{refl, sym, ap, subst, ◌∙◌, arith, lit≤}
use Rattle.std.proofs.lemmas.Bool.{cond-true, eq-eqb}
use Rattle.std.proofs.lemmas.Bool.Decides.{nat_tests}
use Rattle.std.proofs.lemmas.List.{length-drop, length-take-le}
use Rattle.gate_base.specs.declared.page.Pair.{Pair}
use Rattle.s3_names.specs.declared.acl.Acl.{Acl}
use Rattle.s3_machine.specs.declared.operation.Label.{Label}
use Rattle.s3_machine.specs.declared.operation.ObjectHead.{ObjectHead}
use Rattle.s3_machine.specs.declared.operation.Settings.{Settings}
use Rattle.s3_machine.specs.declared.operation.Op.{Op}
use Rattle.s3_machine.specs.Ops.{GetObject}
use Rattle.s3_machine.specs.declared.reading.Conditions.{Conditions}
use Rattle.s3_machine.specs.declared.reading.Judged.{Judged}
use Rattle.s3_machine.specs.declared.reading.Judged.TheVariants.{PreconditionFailed, NotModified, InvalidRange, Bytes}
use Rattle.s3_machine.specs.declared.reading.Range.{Range}
use Rattle.s3_machine.specs.declared.reading.Span.{Span}
use Rattle.s3_machine.specs.Reading.{judged, taken}
use Rattle.s3_machine.specs.State.{Object, State}
use Rattle.s3_machine.specs.Step.{may_read}
use Rattle.s3_machine.proofs.lemmas.Reading.{IsWithin}
use Rattle.swift_calls.specs.Account.{SwiftAccount}
use Rattle.swift_calls.specs.Bodies.{ranged}
use Rattle.swift_calls.specs.History.{History, present}
use Rattle.upload_records.specs.Native.{IsSettled, object_at, s3_state}
use Rattle.account_calls.specs.declared.fault.PlanFault.{PlanFault}
use Rattle.account_calls.specs.declared.fault.PlanFault.TheVariants.{Failed, Memory, Inconsistent}
use Rattle.account_calls.specs.Answers.{judged_length, read_length, beside_of, nothing_beside, pieces}
use Rattle.account_calls.specs.Calls.{Bound, always, Any, Given, GivenOf, Met, HasObject, TellsBucket, TellsObject, TellsBytes, Tells, Asks, Keeps, bytes_in}
use Rattle.account_calls.specs.Fault.{CausesFault}
use Rattle.account_calls.specs.Interpret.{IsShownHead}
use Rattle.account_calls.specs.Refusals.{shows, Stops}
use Rattle.account_calls.specs.Shows.{alone}
use Rattle.account_calls.specs.Told.{Told}
use Rattle.account_calls.proofs.lemmas.Causes.{due_cause}
use Rattle.account_calls.proofs.lemmas.Ends.{IsOneMore, IsWider, answers, answered_by, goes_on, met_settled, told_nothing}
use Rattle.account_calls.proofs.lemmas.Faults.{err_is}
use Rattle.account_calls.proofs.lemmas.Told.{told_by, told_trans}
use Rattle.planner.specs.declared.reading.Found.{Found}
use Rattle.planner.specs.declared.reading.Reading.{Reading}
use Rattle.planner.specs.declared.reading.Reading.TheVariants.{Whole, Pieces}
use Rattle.planner.specs.Objects.{TellsReadable}
use Rattle.planner.specs.Reading.{StopsOrFinds, IsFound, HasFound, HasBody, EndsOrFinds, AnsweredOrFound, reading_of, reading_end, piece_range, piece_end, TellsPiece, LeavesBytes}
use Rattle.planner.proofs.Readings.{found, get_judged, size_is, fits, judged_found, not_modified_is_own, failed_is_own, beyond_is_own}
use Rattle.planner.proofs.Steps.{object_by_head}

same_object : {x y : Object} → Some x ≡ Some y → x ≡ y
same_object e = cc

-- the object that a read asks for is there, with the bytes of the span
module _ (settings : Settings) (tree : SwiftAccount) (bucket key : List ℕ) (range : Option Range) (conditions : Conditions) (part : Option ℕ) (headers : List Pair) (none : part ≡ None) (label : Label) (list : Acl) (head : ObjectHead)
    (readable : TellsReadable bucket key label.caller list head (s3_state tree)) (span : Span) (partial : Bool) (is : judged range conditions head ≡ Bytes span partial) where
  abbrev span_found : Found
  span_found = record { bucket = bucket; key = key; head = head; from = span.from; length = span.length; partial = partial; shown = headers; parts = None }

  body_of : HasBody settings (GetObject bucket key range conditions part headers) label span_found tree
  body_of =
      let here = found settings (s3_state tree) bucket key range conditions part headers none label list head readable in
      let size = size_is settings (s3_state tree) bucket key range conditions part headers none label list head readable in
      let within : IsWithin head.size partial span = fits settings (s3_state tree) bucket key range conditions part headers none label list head readable span partial is in
      let ends = within.ends in
      let sized : length (taken span here.0.bytes) ≡ span.length = length-take-le span.length (drop span.from here.0.bytes) (omega (arith, ends, size, length-drop span.from here.0.bytes)) in
      record {
        body = taken span here.0.bytes;
        sized = sized;
        has = (head, readable.there, refl, refl);
        first = λ o there. (let same : here.0 ≡ o = same_object (sym here.1 ∙ there) in ap (λ (x : Object). taken span x.bytes) same ∙ ap (λ n. take n (drop span.from o.bytes)) (sym sized));
        step = get_judged settings (s3_state tree) bucket key range conditions part headers none label list head readable (Bytes span partial) is;
        most = ap (λ n. 2 + pieces n) (ap (λ o. read_length o range conditions) here.1 ∙ ap (λ h. judged_length (judged range conditions h)) here.2 ∙ ap judged_length is);
      }

-- by the head of the object
module _ {a b : History} (settings : Settings) (bucket key : List ℕ) (range : Option Range) (conditions : Conditions) (part : Option ℕ) (headers : List Pair) (none : part ≡ None) (label : Label) (list : Acl) (head : ObjectHead) (value : Option ObjectHead) (told : value ≡ Some head)
    (allowed : may_read label.caller list ≡ true) (shown : IsShownHead (Some head)) (asks : Asks (always 1) a b IsSettled (Tells (TellsObject bucket key)) (Ok value)) where
  readable_of : (tree : SwiftAccount) → TellsBucket bucket (s3_state tree) (Some list) → TellsObject bucket key (s3_state tree) (Some head) → TellsReadable bucket key label.caller list head (s3_state tree)
  readable_of tree there object = record { in_bucket = there; allowed = allowed; there = object }

  pub found_ends : (j : Judged) → judged range conditions head ≡ j → EndsOrFinds (always 1) 1 a b settings (λ s. TellsBucket bucket s (Some list)) (GetObject bucket key range conditions part headers) label (Ok (reading_of bucket key headers head j))
  found_ends PreconditionFailed is = answers (lit≤ tt) (Some head) told _ asks failed_is_own (λ tree there object. get_judged settings (s3_state tree) bucket key range conditions part headers none label list head (readable_of tree there object) PreconditionFailed is)
  found_ends NotModified is = answers (lit≤ tt) (Some head) told _ asks (not_modified_is_own head shown) (λ tree there object. get_judged settings (s3_state tree) bucket key range conditions part headers none label list head (readable_of tree there object) NotModified is)
  found_ends InvalidRange is = answers (lit≤ tt) (Some head) told _ asks (beyond_is_own head.size) (λ tree there object. get_judged settings (s3_state tree) bucket key range conditions part headers none label list head (readable_of tree there object) InvalidRange is)
  found_ends (Bytes span partial) is = record {
    told = told_by 1 asks met_settled (λ tree sound given object.
        body_of settings tree bucket key range conditions part headers none label list head (readable_of tree given.is (subst (TellsObject bucket key (s3_state tree)) told object)) span partial is);
    is = judged_found bucket key headers range conditions head span partial shown is;
    reads = (range, conditions, part, refl);
  }

-- a call that told nothing
pub found_nothing : (most : Bound) (count : ℕ) (a b : History) (settings : Settings) (given : State → Type 0) (op : Op) (label : Label) {T : Type 0} {P : State → T → Type 0} {fault : PlanFault} → IsWider (always 1) most → Asks (always 1) a b IsSettled (Tells P) (Err fault)
    → (result : Result Reading PlanFault) → IsErrAnd result (λ e. e ≡ fault) → EndsOrFinds most count a b settings given op label result
found_nothing most count a b settings given op label {fault = fault} within asks result is =
    subst (EndsOrFinds most count a b settings given op label) (sym (err_is result fault is)) (told_nothing within asks (Err fault) refl)

-- a call told of the state, and then the object was found
pub finds_on : (most m : Bound) (count : ℕ) (a b c : History) (settings now : Settings) (given rest : State → Type 0) (op : Op) (label : Label) {T : Type 0} {P : State → T → Type 0} {value : T}
    → IsOneMore m most → (told : T) → value ≡ told → now ≡ settings → Asks (always 1) a b IsSettled (Tells P) (Ok value) → ((tree : SwiftAccount) → given (s3_state tree) → P (s3_state tree) told → rest (s3_state tree))
    → (end : Result Reading PlanFault) → EndsOrFinds m count b c now rest op label end → EndsOrFinds most (1 + count) a c settings given op label end
finds_on most m count a b c settings now given rest op label within told is same asks gives (Ok (Whole reply)) plans = goes_on within told is same asks plans gives
finds_on most m count a b c settings now given rest op label within told is same asks gives (Err fault) plans = goes_on within told is same asks plans gives
finds_on most m count a b c settings now given rest op label {P = P} within told is same asks gives (Ok (Pieces it)) finds =
    let first : Told a b (Given given) (λ tree. GivenOf (λ t. rest (s3_state t)) tree) 1 =
    told_by 1 asks met_settled (λ tree sound has told'. record { settled = has.settled; is = gives tree has.is (subst (P (s3_state tree)) is told') }) in
    let then : Told b c (Given rest) (HasBody settings op label it) count = subst (λ s. Told b c (Given rest) (HasBody s op label it) count) same finds.told in
    record { told = told_trans 1 count first then (λ tree has so. so) (λ tree so is. is); is = finds.is; reads = finds.reads }

-- the whole
pub answered_or_found : (most : Bound) (a b : History) (settings : Settings) (op : Op) (label : Label) → beside_of op ≡ nothing_beside → shows op ≡ alone → (end : Result Reading PlanFault) → StopsOrFinds 0 a b end
    → EndsOrFinds most 2 a b settings Any op label end → AnsweredOrFound most a b settings op label (reading_end end)
answered_or_found most a b settings op label none alike (Ok (Whole reply)) stops plans = answered_by none (subst (λ s. Stops s 0 a b (Ok reply)) (sym alike) stops) plans
answered_or_found most a b settings op label none alike (Err fault) stops plans = answered_by none (record { so = tt }) plans
answered_or_found most a b settings op label none alike (Ok (Pieces it)) stops finds = finds

-- no bytes were got with it
pub leaves_by : (bucket key : List ℕ) (headers : List Pair) (head : ObjectHead) (j : Judged) → LeavesBytes (reading_of bucket key headers head j)
leaves_by bucket key headers head PreconditionFailed = refl
leaves_by bucket key headers head NotModified = refl
leaves_by bucket key headers head InvalidRange = refl
leaves_by bucket key headers head (Bytes span partial) = tt

pub leaves_end : (end : Result Reading PlanFault) → IfOk end LeavesBytes → LeavesBytes (reading_end end)
leaves_end (Ok reading) leaves = leaves
leaves_end (Err Failed) leaves = refl
leaves_end (Err Memory) leaves = refl
leaves_end (Err Inconsistent) leaves = refl

-- ---- a piece

-- what a store has of so many bytes from one on
piece_by : (bytes : List ℕ) (from size : ℕ) → 0 < size → from + size ≤ length bytes → ranged (Some (piece_range from size)) bytes ≡ Some (take size (drop from bytes))
piece_by bytes from size filled ends =
    let first : nat_lt from (length bytes) ≡ true = grind (arith, nat_tests) in
    let last : min (from + (size - 1) + 1) (length bytes) - from ≡ size = omega (arith, ends, filled) in
    cond-true _ _ _ first ∙ ap (λ n. Some (take n (drop from bytes))) last

module _ (it : Found) (at size : ℕ) (is : IsFound it) (filled : 0 < size) (within : at + size ≤ it.length) where
  -- what the store tells of a piece of the object that is there is the piece
  ended : (state : State) → HasFound it state → (told : Option (List ℕ)) → TellsBytes it.bucket it.key (Some (piece_range (it.from + at) size)) state told
      → (bytes : List ℕ) × (piece_end told size ≡ Ok bytes) × TellsPiece it at size state bytes
  ended state has told tells =
      let here = object_by_head (object_at (get state it.bucket) it.key) has.0 has.1 in
      let long : length here.0.bytes ≡ it.head.size = ap (λ (h : ObjectHead). h.size) here.2 ∙ has.3 in
      let ends = is.within in
      let near : it.from + at + size ≤ length here.0.bytes = omega (arith, ends, long, within) in
      let bytes : List ℕ = take size (drop (it.from + at) here.0.bytes) in
      let is_told : told ≡ Some bytes =
      sym tells ∙ ap (λ o. option_and_then (ranged (Some (piece_range (it.from + at) size))) (option_map bytes_in o)) here.1 ∙ piece_by here.0.bytes (it.from + at) size filled near in
      let sized : length bytes ≡ size = length-take-le size (drop (it.from + at) here.0.bytes) (omega (arith, near, length-drop (it.from + at) here.0.bytes)) in (
        bytes,
        ap (λ t. piece_end t size) is_told ∙ ap (λ t. cond t (Ok bytes) (Err Inconsistent)) (eq-eqb (length bytes) size sized),
        λ o there. ap (λ (x : Object). take size (drop (it.from + at) x.bytes)) (same_object (sym here.1 ∙ there)),
      )

  under : {a : History} {bucket key etag : List ℕ} → bucket ≡ it.bucket → key ≡ it.key → etag ≡ it.head.etag → Met (Given (HasFound it)) a → Met (Given (HasObject bucket key etag it.head.size)) a
  under {a = a} same_bucket same_key same_etag met = record {
    observable = met.observable;
    sound = met.sound;
    has = record { settled = met.has.settled; is = subst {A = List ℕ × List ℕ × List ℕ} (λ x. HasObject x.0 x.1 x.2 it.head.size (s3_state (present a))) (λ i. (sym same_bucket i, sym same_key i, sym same_etag i)) met.has.is };
  }

  -- the call told nothing
  pub piece_lost : {a b : History} {bucket key etag : List ℕ} {f : PlanFault} → bucket ≡ it.bucket → key ≡ it.key → etag ≡ it.head.etag
      → Asks (always 1) a b (Given (HasObject bucket key etag it.head.size)) (Tells (TellsBytes bucket key (Some (piece_range (it.from + at) size)))) (Err f)
      → (result : Result (List ℕ) PlanFault) → IsErrAnd result (λ e. e ≡ f) → Asks (always 1) a b (Given (HasFound it)) (Tells (TellsPiece it at size)) result
  piece_lost {a = a} {b = b} {bucket = bucket} {key = key} {f = f} same_bucket same_key same_etag asks result gives = subst (Asks (always 1) a b (Given (HasFound it)) (Tells (TellsPiece it at size))) (sym (err_is result f gives)) (record {
    grows = record { on = asks.grows.on; calls = asks.grows.calls };
    cause = cause_by f asks.cause;
    effect = λ met. keeps_by f (asks.effect (under same_bucket same_key same_etag met));
    settled = asks.settled;
  })
    where
      cause_by : (f : PlanFault) → CausesFault {T = Option (List ℕ)} a.faults b.faults (Err f) → CausesFault {T = List ℕ} a.faults b.faults (Err f)
      cause_by Failed cause = cause
      cause_by Memory cause = cause
      cause_by Inconsistent cause = cause

      keeps_by : (f : PlanFault) → Keeps b a.called b.called (Tells (TellsBytes bucket key (Some (piece_range (it.from + at) size)))) (Err f) → Keeps b a.called b.called (Tells (TellsPiece it at size)) (Err f)
      keeps_by Failed keeps = keeps
      keeps_by Memory keeps = keeps
      keeps_by Inconsistent never = never

  pub piece_asked : {a b : History} {bucket key etag : List ℕ} → bucket ≡ it.bucket → key ≡ it.key → etag ≡ it.head.etag → (told : Option (List ℕ))
      → Asks (always 1) a b (Given (HasObject bucket key etag it.head.size)) (Tells (TellsBytes bucket key (Some (piece_range (it.from + at) size)))) (Ok told)
      → (result : Result (List ℕ) PlanFault) → result ≡ piece_end told size → result ≢ Err Failed → Asks (always 1) a b (Given (HasFound it)) (Tells (TellsPiece it at size)) result
  piece_asked {a = a} {b = b} {bucket = bucket} {key = key} {etag = etag} same_bucket same_key same_etag told asks result end own = record {
    grows = record { on = asks.grows.on; calls = asks.grows.calls };
    cause = due_cause a.faults b.faults result asks.cause own;
    effect = λ met.
        let from : b.account_at a.called ≡ present a = (asks.grows.on.kept met.observable).accounts a.called (omega arith) in
        let keeps = asks.effect (under same_bucket same_key same_etag met) in
        let has : HasFound it (s3_state (b.account_at a.called)) = subst (λ tree. HasFound it (s3_state tree)) (sym from) met.has.is in
        let tells = subst {A = List ℕ × List ℕ} (λ x. TellsBytes x.0 x.1 (Some (piece_range (it.from + at) size)) (s3_state (b.account_at a.called)) told) (λ i. (same_bucket i, same_key i)) keeps.2.of_state in
        let ends = ended (s3_state (b.account_at a.called)) has told tells in
        subst (Keeps b a.called b.called (Tells (TellsPiece it at size))) (sym (end ∙ ends.1)) (keeps.0, keeps.1, record { of_state = ends.2; same = keeps.2.same });
    settled = asks.settled;
  }
