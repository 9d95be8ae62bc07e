-- The plan of the copy of an object that was completed from parts: what each stretch of its calls gives the next.
use Rattle.std.specs.Prelude.{◌≡◌, ◌<◌, ◌≤◌, ◌+◌, ◌*◌, ◌/◌, ◌^◌, ◌&&◌, ℕ, suc, Bool, true, false, cond, nat_le, nat_lt, List, [], ◌∷◌, length, map, Option, None, Some, Result, Ok, Err}
use Rattle.std.specs.Result.{IsErrAnd}
use Rattle.std.specs.List.{list_all}
use Rattle.std.specs.FinMap.{get}
use Rattle.std.proofs.Common.{refl, sym, ap, subst, ◌∙◌, arith, true≢false}
use Rattle.std.proofs.lemmas.Bool.{le-leb, leb-true}
use Rattle.std.proofs.lemmas.List.{length-map}
use Rattle.gate_base.specs.Maps.{Names}
use Rattle.gate_base.specs.Told.{moment_limit}
use Rattle.s3_names.specs.declared.acl.Acl.{Acl}
use Rattle.s3_names.specs.Bucket.{is_bucket}
use Rattle.s3_names.specs.Id.{id_digits}
use Rattle.s3_names.specs.Meta.{names_ascend}
use Rattle.s3_machine.specs.Conditions.{no_conditions}
use Rattle.s3_machine.specs.Copies.{copied, is_onto_itself}
use Rattle.s3_machine.specs.State.{Object}
use Rattle.s3_machine.specs.Step.{head_of, is_other_acl}
use Rattle.s3_machine.specs.Proper.{IsPlace, IsProperDescribed}
use Rattle.s3_machine.specs.Uploads.{most_parts, rises_from}
use Rattle.s3_machine.specs.declared.operation.Label.{Label}
use Rattle.s3_machine.specs.declared.operation.ObjectHead.{ObjectHead}
use Rattle.s3_machine.specs.declared.operation.Op.{Op}
use Rattle.s3_machine.specs.declared.only_if.OnlyIf.TheVariants.{Always}
use Rattle.s3_machine.specs.Ops.{CopyObject}
use Rattle.s3_machine.specs.declared.operation.Described.{Described}
use Rattle.s3_machine.specs.declared.operation.Reply.{Reply}
use Rattle.s3_machine.specs.declared.operation.Settings.{Settings}
use Rattle.slo_manifest.specs.declared.manifest.TheConstants.{MOST_SEGMENTS}
use Rattle.slo_manifest.specs.declared.Segment.{Segment}
use Rattle.swift_calls.specs.Account.{SwiftAccount, SwiftObject, files, find_object}
use Rattle.swift_calls.specs.History.{History, present}
use Rattle.swift_marks.specs.Tag.{is_etag}
use Rattle.upload_texts.specs.Sealed.{has_sealed_text, part_fits_sealed_text}
use Rattle.upload_texts.specs.declared.sealed.Sealed.{Sealed}
use Rattle.upload_texts.specs.declared.sealed.SealedPart.{SealedPart}
use Rattle.upload_records.specs.Consistent.{AreSealedParts}
use Rattle.upload_records.specs.Laws.{IsUnused, UnusedIsAbandoned}
use Rattle.upload_records.specs.Layout.{segment_name, segments_name}
use Rattle.upload_records.specs.Native.{filled_parts, listed_of, object_at, part_segment, part_segments, s3_state, sealed_bytes, sealed_segments, sealed_sub_manifests, sub_manifests}
use Rattle.account_calls.specs.Answers.{listed_by, listed_in, listed_twice, records_of, segments_of}
use Rattle.account_calls.specs.Calls.{Bound, always, by_account, Asks, Given, GivenOf, HasObject, Met, TellsBucket}
use Rattle.account_calls.specs.Listing.{TellsOf}
use Rattle.account_calls.specs.Plan.{Plans}
use Rattle.account_calls.specs.declared.fault.PlanFault.{PlanFault}
use Rattle.account_calls.specs.declared.fault.PlanFault.TheVariants as fault
use Rattle.account_calls.specs.declared.state.Known.TheVariants.{Settled}
use Rattle.account_calls.proofs.lemmas.Ask.{asks_told}
use Rattle.account_calls.proofs.lemmas.Ends.{IsWider, calls_in_vain, goes_on_from, met_within}
use Rattle.account_calls.proofs.lemmas.Quiet.{asks_same_state}
use Rattle.upload_calls.specs.Records.{InBucket, TellsFree}
use Rattle.upload_calls.proofs.lemmas.Free.{unused}
use Rattle.many_keys.specs.Copies.{IsFoundSource, IsProperHead, content_of}
use Rattle.many_keys.specs.CopiedLists.{
  AreOfCut,
  ArePiecesHere,
  CopiesFirst,
  HasCopied,
  HasCut,
  IsApart,
  IsCopy,
  IsUnnamed,
  LeavesCopied,
  MayCopy,
  MayFill,
  MayFillCut,
  MayPut,
  TellsCut,
  is_cut,
  lists_subs,
  piece_in,
  pieces_ascend_from,
  sealed_copy,
  size_of_cut,
  subs_in,
  subs_listed,
}
use Rattle.many_keys.specs.declared.cut.Cut.{Cut}
use Rattle.many_keys.specs.declared.cut.Piece.{Piece}
use Rattle.many_keys.proofs.CutCalls.{object_of_head}
use Rattle.many_keys.proofs.Copying.{keeps_cut}
use Rattle.many_keys.proofs.PutsCopy.{copy_has_text}
use Rattle.many_keys.proofs.SideFiles.{bucket_there}

-- ---- what is put

rises_as : (above : ℕ) (list : List SealedPart) → rises_from above (map listed_of list) ≡ pieces_ascend_from above (map piece_in list)
rises_as above [] = refl
rises_as above (p ∷ list) = ap (λ t. nat_lt above p.number && t) (rises_as p.number list)

-- a list that a copy may have
pub record IsListWell (list : List SealedPart) : Type 0 where
  pub few : length list ≤ most_parts
  pub proper : list_all part_fits_sealed_text list ≡ true
  pub ascends : rises_from 0 (map listed_of list) ≡ true

pub cut_is_well : (size : ℕ) {cut walked : List Piece} {list : List SealedPart} → walked ≡ cut → is_cut size cut ≡ true → AreOfCut walked list → IsListWell list
cut_is_well size {cut = cut} {list = list} same is are =
    let keeps = keeps_cut size cut is in
    let few = keeps.few in
    let long : length list ≡ length cut = sym (length-map list piece_in) ∙ ap length (are.pieces ∙ same) in
    record { few = omega (arith, few, long); proper = are.proper; ascends = rises_as 0 list ∙ ap (pieces_ascend_from 0) (are.pieces ∙ same) ∙ keeps.ascends }

-- the pieces make as many bytes as they do
pub sized_cut : (size : ℕ) (cut walked : List Piece) → walked ≡ cut → is_cut size cut ≡ true → is_cut (size_of_cut walked) walked ≡ true
sized_cut size cut walked same is = subst (λ (l : List Piece). is_cut (size_of_cut l) l ≡ true) (sym same) (ap (λ n. is_cut n cut) (keeps_cut size cut is).whole ∙ is)

pub none_is_well : (list : List SealedPart) → list ≡ [] → IsListWell list
none_is_well list none = subst IsListWell (sym none) (record { few = omega arith; proper = refl; ascends = refl })

pub is_copy : {s : Sealed} {bucket key : List ℕ} {id : ℕ} (replaced : Option Described) {head : ObjectHead} {list : List SealedPart} {moment : ℕ} → s ≡ sealed_copy bucket key id replaced head list moment → IsPlace bucket key → s.id < 2 ^ 128
    → IsProperDescribed (record { content_type = s.content_type; meta = s.meta }) → names_ascend s.meta ≡ true → IsProperHead head → 32 < length head.etag → IsListWell list → moment < moment_limit → IsCopy s
is_copy replaced e place fits content ordered head of_parts well below = record {
  place = subst (λ (t : Sealed). IsPlace t.bucket t.key) (sym e) place;
  fits = fits;
  typed = content.typed;
  described = content.described;
  ordered = ordered;
  etag = subst (λ (t : Sealed). is_etag t.etag ≡ true) (sym e) head.etag;
  of_parts = subst (λ (t : Sealed). 32 < length t.etag) (sym e) of_parts;
  few = subst (λ (t : Sealed). length t.list ≤ most_parts) (sym e) well.few;
  proper = subst (λ (t : Sealed). list_all part_fits_sealed_text t.list ≡ true) (sym e) well.proper;
  ascends = subst (λ (t : Sealed). rises_from 0 (map listed_of t.list) ≡ true) (sym e) well.ascends;
  started = subst (λ (t : Sealed). t.started < moment_limit) (sym e) below;
  dated = subst (λ (t : Sealed). t.moment < moment_limit) (sym e) below;
}

-- it lists a part, so it has a text as a completion has
pub lists_parts : (size : ℕ) {s : Sealed} {list : List SealedPart} {cut walked : List Piece} → s.list ≡ list → IsCopy s
    → walked ≡ cut → is_cut size cut ≡ true → AreOfCut walked list → has_sealed_text s ≡ true
lists_parts size {s = s} {list = list} {cut = cut} e copy same is are =
    let some = (keeps_cut size cut is).some in
    let long : length list ≡ length cut = sym (length-map list piece_in) ∙ ap length (are.pieces ∙ same) in
    copy_has_text s copy (λ none. let empty = ap length none in let of_list : length s.list ≡ length list = ap length e in omega (arith, empty, of_list, long, some))

-- it is the copy of the source, where its parts have the source's bytes
abbrev object_as : Option Described → ObjectHead → List ℕ → ℕ → Object
object_as replaced head bytes moment = record {
  bytes = bytes;
  etag = head.etag;
  content_type = (content_of replaced head.content_type head.meta).content_type;
  meta = (content_of replaced head.content_type head.meta).meta;
  modified = moment;
}

copy_is : (replaced : Option Described) (o : Object) (head : ObjectHead) (bytes : List ℕ) (moment : ℕ) → head_of o ≡ head → bytes ≡ o.bytes → object_as replaced head bytes moment ≡ copied replaced moment o
copy_is None o head bytes moment e same = λ i. object_as None (sym e i) (same i) moment
copy_is (Some r) o head bytes moment e same = λ i. object_as (Some r) (sym e i) (same i) moment

module _ (bucket key : List ℕ) (acl : Acl) (id : ℕ) (from_bucket from_key : List ℕ) (replaced : Option Described) (head : ObjectHead) (list : List SealedPart) (moment : ℕ) where
  abbrev as_put : Sealed
  as_put = sealed_copy bucket key id replaced head list moment

  -- all bytes of the source stand beside the bucket
  filled_may_put : (cut : Cut) (old new : SwiftAccount) → s3_state new ≡ s3_state old → MayFillCut bucket acl id from_bucket from_key head cut old → CopiesFirst bucket id from_bucket cut.id cut.pieces moment old new list
      → MayPut acl from_bucket from_key replaced as_put 0 new
  filled_may_put cut old new same has told =
      let object = object_of_head (object_at (get (s3_state old) from_bucket) from_key) head has.has.found.source in
      let o = object.0 in
      record {
        listed = subst (λ s. TellsBucket bucket s (Some acl)) (sym same) has.has.found.listed;
        copy = record {
          stands = record { unnamed = told.unnamed; parts = told.parts; subs = λ n below. absurd (omega (arith, below)) };
          object = o;
          found = ap (λ s. object_at (get s from_bucket) from_key) same ∙ object.1;
          same = copy_is replaced o head (sealed_bytes (files new (segments_name bucket)) (id_digits id) list) moment object.2 (told.bytes ∙ has.has.told.bytes o object.1);
        };
      }

  -- the source has none
  empty_may_put : (new : SwiftAccount) → head.size ≡ 0 → list ≡ [] → MayFill bucket acl id from_bucket from_key head new → MayPut acl from_bucket from_key replaced as_put (sealed_sub_manifests as_put) new
  empty_may_put new zero_is none has =
      let object = object_of_head (object_at (get (s3_state new) from_bucket) from_key) head has.found.source in
      let o = object.0 in
      let size : length o.bytes ≡ 0 = ap (λ (h : ObjectHead). h.size) object.2 ∙ zero_is in
      record {
        listed = has.found.listed;
        copy = record {
          stands = record {
            unnamed = has.unnamed;
            parts = subst (λ l. AreSealedParts (files new (segments_name bucket)) (id_digits id) l) (sym none) tt;
            subs = λ n below. absurd (let no_subs : sealed_sub_manifests as_put ≡ 0 = ap (λ l. sub_manifests (length (part_segments (segments_name bucket) (id_digits id) (filled_parts l)))) none in omega (arith, below, no_subs));
          };
          object = o;
          found = object.1;
          same = copy_is replaced o head (sealed_bytes (files new (segments_name bucket)) (id_digits id) list) moment object.2 (ap (sealed_bytes (files new (segments_name bucket)) (id_digits id)) none ∙ sym (no_bytes o.bytes size));
        };
      }
    where
      no_bytes : (xs : List ℕ) → length xs ≡ 0 → xs ≡ []
      no_bytes [] e = refl
      no_bytes (x ∷ xs) e = absurd (omega (arith, e))

-- ---- the id

-- the source and its bucket's list are given, and a free id is told
pub asks_unnamed : {bucket from_bucket from_key : List ℕ} {acl : Acl} {head : ObjectHead} {draw : ℕ} → UnusedIsAbandoned → is_bucket bucket ≡ true → {n : Bound} {a b : History} {id : ℕ} → Asks n a b (GivenOf (InBucket bucket)) (TellsOf (TellsFree bucket draw)) (Ok id)
    → Asks n a b (Given (IsFoundSource bucket acl from_bucket from_key head)) (TellsOf (λ tree id. IsUnnamed bucket id tree)) (Ok id)
asks_unnamed {bucket = bucket} {acl = acl} law is {id = id} asks =
    asks_told {Q = λ tree id. IsUnnamed bucket id tree} (λ tree has. record { settled = has.settled; is = bucket_there tree bucket acl is has.settled has.is.listed }) id
    (λ tree sound has first. record { there = bucket_there tree bucket acl is has.settled has.is.listed; abandoned = law tree bucket (id_digits id) is (unused tree bucket (id_digits id) first.free) sound }) asks

pub fill_after : {bucket from_bucket from_key : List ℕ} {acl : Acl} {head : ObjectHead} {id : ℕ} {old new : SwiftAccount} → IsFoundSource bucket acl from_bucket from_key head (s3_state old) → TellsOf (λ tree id. IsUnnamed bucket id tree) old new id
    → MayFill bucket acl id from_bucket from_key head new
fill_after {bucket = bucket} {from_bucket = from_bucket} {from_key = from_key} {acl = acl} {head = head} {id = id} found tells =
    subst (MayFill bucket acl id from_bucket from_key head) (sym tells.same) (record { unnamed = tells.of_account; found = found })

-- nothing stands under a free id, so it isn't that of a source whose segments are there
none_here : (o : Option SwiftObject) (file : SwiftObject) → o ≡ Some file → o ≡ None → ⊥
none_here o file some none = let no_file : Some file ≡ None = sym some ∙ none in cc

apart_by : (tree : SwiftAccount) (bucket : List ℕ) (id : ℕ) (from_bucket : List ℕ) (from_id : ℕ) (cut : List Piece) → 1 ≤ length cut → ArePiecesHere (files tree (segments_name from_bucket)) (id_digits from_id) cut → IsUnused tree bucket (id_digits id)
    → IsApart bucket id from_bucket from_id
apart_by tree bucket id from_bucket from_id [] some here free same text = omega (arith, some)
apart_by tree bucket id from_bucket from_id (p ∷ cut) some here free same text =
    none_here (get (files tree (segments_name bucket)) (segment_name (id_digits id) p.number)) here.0.file
    ((λ i. get (files tree (sym same i)) (segment_name (sym text i) p.number)) ∙ here.0.there) (free.bare p.number)

abbrev IsFree : List ℕ → List ℕ → Cut → SwiftAccount → ℕ → Type 0
IsFree bucket from_bucket cut tree id = IsUnnamed bucket id tree × IsApart bucket id from_bucket cut.id

-- the same, where its bytes are cut so
asks_apart : {bucket from_bucket from_key : List ℕ} {acl : Acl} {head : ObjectHead} {cut : Cut} {draw : ℕ} → UnusedIsAbandoned → is_bucket bucket ≡ true → is_cut head.size cut.pieces ≡ true → {n : Bound} {a b : History} {id : ℕ}
    → Asks n a b (GivenOf (InBucket bucket)) (TellsOf (TellsFree bucket draw)) (Ok id) → Asks n a b (GivenOf (HasCut bucket acl from_bucket from_key head cut)) (TellsOf (IsFree bucket from_bucket cut)) (Ok id)
asks_apart {bucket = bucket} {from_bucket = from_bucket} {acl = acl} {head = head} {cut = cut} law is proper {id = id} asks =
    asks_told {Q = IsFree bucket from_bucket cut} (λ tree has. record { settled = has.settled; is = bucket_there tree bucket acl is has.settled has.is.found.listed }) id
    (λ tree sound has first.
    let free = unused tree bucket (id_digits id) first.free in (
      record { there = bucket_there tree bucket acl is has.settled has.is.found.listed; abandoned = law tree bucket (id_digits id) is free sound },
      apart_by tree bucket id from_bucket cut.id cut.pieces (keeps_cut head.size cut.pieces proper).some has.is.told.here free,
    ))
    asks

fill_cut : {bucket from_bucket from_key : List ℕ} {acl : Acl} {head : ObjectHead} {cut : Cut} {id : ℕ} {old new : SwiftAccount} → HasCut bucket acl from_bucket from_key head cut old → TellsOf (IsFree bucket from_bucket cut) old new id
    → MayFillCut bucket acl id from_bucket from_key head cut new
fill_cut {bucket = bucket} {from_bucket = from_bucket} {from_key = from_key} {acl = acl} {head = head} {cut = cut} {id = id} has tells =
    subst (MayFillCut bucket acl id from_bucket from_key head cut) (sym tells.same) (record { unnamed = tells.of_account.0; apart = tells.of_account.1; has = has })

-- ---- the plans

-- calls that failed told nothing, whatever they would have
untold : {T : Type 0} {m : Bound} {a b : History} {asked : SwiftAccount → Type 0} {P Q : SwiftAccount → SwiftAccount → T → Type 0} (f : PlanFault) → Asks m a b asked P (Err f) → Asks m a b asked Q (Err f)
untold fault.Failed asks = record { grows = asks.grows; cause = asks.cause; effect = asks.effect; settled = asks.settled }
untold fault.Memory asks = record { grows = asks.grows; cause = asks.cause; effect = asks.effect; settled = asks.settled }
untold fault.Inconsistent asks = record { grows = asks.grows; cause = asks.cause; effect = asks.effect; settled = asks.settled }

-- and their fault is handed on
asked_in_vain : {T : Type 0} {settings : Settings} {given asked : SwiftAccount → Type 0} {op : Op} {label : Label} {most : Bound} {a b : History} (m : Bound) → IsWider m most → {Q : SwiftAccount → SwiftAccount → T → Type 0} {f : PlanFault}
    → (Met (GivenOf given) a → Met asked a) → Asks m a b asked Q (Err f) → (end : Result Reply PlanFault) → IsErrAnd end (λ e. e ≡ f) → Plans most a b settings (GivenOf given) op label Settled end
asked_in_vain {T = T} m within {f = f} under asks end is = calls_in_vain {P = λ state (told : T). Unit {0}} m within under (untold f asks) end is

-- what the last call amounts to, for any copy that it may be
abbrev pub PutsListed : History → History → Settings → Result Reply PlanFault → Sealed → Type 0
PutsListed b c now end s = (acl : Option Acl) (list : Acl) (from_bucket from_key : List ℕ) (replaced : Option Described) (label : Label) → is_other_acl acl list ≡ false
    → is_onto_itself s.bucket s.key from_bucket from_key replaced ≡ false → s.moment ≡ label.moment
    → Plans (always 1) b c now (GivenOf (MayPut list from_bucket from_key replaced s (sealed_sub_manifests s))) (CopyObject s.bucket s.key acl from_bucket from_key replaced no_conditions Always) label Settled end

-- and that with the sub-manifests before it
abbrev pub PutsParts : History → History → Settings → Result Reply PlanFault → Sealed → Type 0
PutsParts b c now end s = (acl : Option Acl) (list : Acl) (from_bucket from_key : List ℕ) (replaced : Option Described) (label : Label) → is_other_acl acl list ≡ false
    → is_onto_itself s.bucket s.key from_bucket from_key replaced ≡ false → s.moment ≡ label.moment
    → Plans (always (sealed_sub_manifests s + 1)) b c now (GivenOf (MayPut list from_bucket from_key replaced s 0)) (CopyObject s.bucket s.key acl from_bucket from_key replaced no_conditions Always) label Settled end

abbrev Found : List ℕ → Acl → List ℕ → List ℕ → ObjectHead → SwiftAccount → Type 0
Found bucket list from_bucket from_key head tree = IsFoundSource bucket list from_bucket from_key head (s3_state tree)

may_copy : {bucket from_bucket from_key : List ℕ} {list : Acl} {head : ObjectHead} {cut : Cut} {id : ℕ} (tree : SwiftAccount) → MayFillCut bucket list id from_bucket from_key head cut tree → MayCopy bucket id from_bucket cut.id cut.pieces tree
may_copy tree fill = record { unnamed = fill.unnamed; apart = fill.apart; here = fill.has.told.here }

has_object : {bucket from_bucket from_key : List ℕ} {list : Acl} {head : ObjectHead} {h : History} → Met (Given (IsFoundSource bucket list from_bucket from_key head)) h → Met (Given (HasObject from_bucket from_key head.etag head.size)) h
has_object {head = head} met = record { observable = met.observable; sound = met.sound; has = record { settled = met.has.settled; is = (head, met.has.is.source, refl, refl) } }

-- more calls are allowed than are made
pub plans_wider : {settings : Settings} {op : Op} {label : Label} {n most : ℕ} {a b : History} {given : SwiftAccount → Type 0} {end : Result Reply PlanFault} → n ≤ most → Plans (by_account n) a b settings given op label Settled end
    → Plans (by_account most) a b settings given op label Settled end
plans_wider wider plans = record {
  grows = record { on = plans.grows.on; calls = λ met. let near = plans.grows.calls met in omega (arith, near, wider) };
  cause = plans.cause;
  own = plans.own;
  effect = plans.effect;
  knows = plans.knows;
}

-- sub-manifests are listed too
all_counted : (S : Names SwiftObject) (list : List Segment) → length list ≤ listed_twice S list
unfolding listed_twice
all_counted S [] = omega arith
all_counted S (s ∷ list) =
    let later = all_counted S list in
    let first : listed_twice S (s ∷ list) ≡ 1 + length (listed_in (get S s.name)) + listed_twice S list = refl in
    omega (arith, later, first)

subs_counted : (S : Names SwiftObject) (list : List Segment) → subs_in list ≤ listed_twice S list
subs_counted S list = by (lists_subs list) (all_counted S list)
  where
    by : (t : Bool) → length list ≤ listed_twice S list → cond t (length list) 0 ≤ listed_twice S list
    by true few = few
    by false few = omega arith

module _ {bucket from_bucket from_key : List ℕ} {list : Acl} {head : ObjectHead} {op : Op} {label : Label} {settings : Settings} where
  -- the segments weren't copied
  pub copy_in_vain : {id moment : ℕ} (cut : Cut) {walked : List Piece} {a b : History} {f : PlanFault} → walked ≡ cut.pieces
      → Asks (always (2 * length walked)) a b (GivenOf (MayCopy bucket id from_bucket cut.id walked)) (CopiesFirst bucket id from_bucket cut.id walked moment) (Err f) → (end : Result Reply PlanFault) → IsErrAnd end (λ e. e ≡ f)
      → Plans (always (2 * length cut.pieces + (sub_manifests (length cut.pieces) + 1))) a b settings (GivenOf (MayFillCut bucket list id from_bucket from_key head cut)) op label Settled end
  copy_in_vain {id = id} {moment = moment} cut {a = a} {b = b} {f = f} same asks end is =
      asked_in_vain (always (2 * length cut.pieces)) (omega arith) (met_within may_copy)
      (subst (λ l. Asks (always (2 * length l)) a b (GivenOf (MayCopy bucket id from_bucket cut.id l)) (CopiesFirst bucket id from_bucket cut.id l moment) (Err f)) same asks) end is

  -- no id was found for them
  pub cut_id_in_vain : {cut : Cut} {draw most : ℕ} {n : ℕ} {a b : History} {f : PlanFault} → is_bucket bucket ≡ true → n ≤ most → Asks (by_account n) a b (GivenOf (InBucket bucket)) (TellsOf (TellsFree bucket draw)) (Err f)
      → (end : Result Reply PlanFault) → IsErrAnd end (λ e. e ≡ f) → Plans (by_account most) a b settings (GivenOf (HasCut bucket list from_bucket from_key head cut)) op label Settled end
  cut_id_in_vain {n = n} is within asks end same =
      asked_in_vain (by_account n) within (λ met. record { observable = met.observable; sound = met.sound; has = record { settled = met.has.settled; is = bucket_there _ bucket list is met.has.settled met.has.is.found.listed } }) asks end same

  -- no id was found
  pub id_in_vain : {draw most : ℕ} {n : ℕ} {a b : History} {f : PlanFault} → is_bucket bucket ≡ true → n ≤ most → Asks (by_account n) a b (GivenOf (InBucket bucket)) (TellsOf (TellsFree bucket draw)) (Err f)
      → (end : Result Reply PlanFault) → IsErrAnd end (λ e. e ≡ f) → Plans (by_account most) a b settings (Given (IsFoundSource bucket list from_bucket from_key head)) op label Settled end
  id_in_vain {n = n} is within asks end same =
      asked_in_vain (by_account n) within (λ met. record { observable = met.observable; sound = met.sound; has = record { settled = met.has.settled; is = bucket_there _ bucket list is met.has.settled met.has.is.listed } }) asks end same

  -- the segments are to be copied under it
  pub id_goes_on : {cut : Cut} {draw n m id : ℕ} {a b c : History} {now : Settings} {end : Result Reply PlanFault} → UnusedIsAbandoned → is_bucket bucket ≡ true → is_cut head.size cut.pieces ≡ true → now ≡ settings
      → Asks (by_account n) a b (GivenOf (InBucket bucket)) (TellsOf (TellsFree bucket draw)) (Ok id) → Plans (always m) b c now (GivenOf (MayFillCut bucket list id from_bucket from_key head cut)) op label Settled end
      → Plans (by_account (n + m)) a c settings (GivenOf (HasCut bucket list from_bucket from_key head cut)) op label Settled end
  id_goes_on {cut = cut} law is proper kept asks plans =
      goes_on_from {given = HasCut bucket list from_bucket from_key head cut} (λ met. met) kept (asks_apart law is proper asks) plans (λ has told. fill_cut has told) (λ told. omega arith)

  -- the lists of the segments weren't read
  pub cut_in_vain : {a b : History} {f : PlanFault} → Asks (by_account (1 + subs_listed (present a) from_bucket from_key)) a b (Given (HasObject from_bucket from_key head.etag head.size)) (TellsOf (TellsCut from_bucket from_key)) (Err f)
      → (end : Result Reply PlanFault) → IsErrAnd end (λ e. e ≡ f)
      → Plans (by_account (4 + 2 * (records_of (present a) bucket + segments_of (present a) bucket) + 2 * listed_by (present a) from_bucket from_key)) a b settings (Given (IsFoundSource bucket list from_bucket from_key head)) op label Settled end
  cut_in_vain {a = a} asks end is =
      asked_in_vain (by_account (1 + subs_listed (present a) from_bucket from_key))
      (let few = subs_counted (files (present a) (segments_name from_bucket)) (listed_in (find_object (present a) from_bucket from_key)) in omega (arith, few)) has_object asks end is

  -- they were, and the copy goes on
  pub cut_goes_on : (cut : Cut) {a b c : History} {now : Settings} {end : Result Reply PlanFault} → now ≡ settings
      → Asks (by_account (1 + subs_listed (present a) from_bucket from_key)) a b (Given (HasObject from_bucket from_key head.etag head.size)) (TellsOf (TellsCut from_bucket from_key)) (Ok cut)
      → Plans (by_account (2 * (records_of (present b) bucket + segments_of (present b) bucket + 1) + (2 * length cut.pieces + (sub_manifests (length cut.pieces) + 1)))) b c now (GivenOf (HasCut bucket list from_bucket from_key head cut)) op label Settled end
      → Plans (by_account (4 + 2 * (records_of (present a) bucket + segments_of (present a) bucket) + 2 * listed_by (present a) from_bucket from_key)) a c settings (Given (IsFoundSource bucket list from_bucket from_key head)) op label Settled end
  cut_goes_on cut {a = a} {b = b} kept asks plans =
      goes_on_from {given = Found bucket list from_bucket from_key head} has_object kept asks plans
      (λ found told. subst (HasCut bucket list from_bucket from_key head cut) (sym told.same) (record { found = found; told = told.of_account }))
      (λ told. omega (arith, ap (λ t. records_of t bucket) told.1.same, ap (λ t. segments_of t bucket) told.1.same, told.1.of_account.counted, told.1.of_account.asked))

-- ---- the sub-manifests of the copy

-- how many parts of a list aren't empty
few_filled : (list : List SealedPart) → length (filled_parts list) ≤ length list
few_filled [] = omega arith
few_filled (p ∷ list) = by (nat_lt 0 p.size) (few_filled list)
  where
    by : (t : Bool) → length (filled_parts list) ≤ length list → length (cond t (p ∷ filled_parts list) (filled_parts list)) ≤ suc (length list)
    by true few = omega (arith, few)
    by false few = omega (arith, few)

more_runs : (n k : ℕ) (t u : Bool) → nat_le n MOST_SEGMENTS ≡ t → nat_le k MOST_SEGMENTS ≡ u → n ≤ k → cond t 0 ((n + 999) / MOST_SEGMENTS) ≤ cond u 0 ((k + 999) / MOST_SEGMENTS)
more_runs n k true u few most less = omega arith
more_runs n k false true few most less = absurd (let far : nat_le n MOST_SEGMENTS ≡ true = le-leb n MOST_SEGMENTS (let near = leb-true k MOST_SEGMENTS most in omega (arith, near, less)) in true≢false (sym far ∙ few))
more_runs n k false false few most less = omega (arith, less)

-- it has no more than its source
few_subs : (s : Sealed) (n : ℕ) → length s.list ≡ n → sealed_sub_manifests s ≤ sub_manifests n
few_subs s n as_many =
    let counted : length (sealed_segments s) ≡ length (filled_parts s.list) = length-map (filled_parts s.list) (part_segment (segments_name s.bucket) (id_digits s.id)) in
    let filled = few_filled s.list in
    more_runs (length (sealed_segments s)) n (nat_le (length (sealed_segments s)) MOST_SEGMENTS) (nat_le n MOST_SEGMENTS) refl refl (omega (arith, counted, filled, as_many))

-- the object of these bytes
with_bytes : Sealed → List ℕ → Object
with_bytes s bytes = record { bytes = bytes; etag = s.etag; content_type = s.content_type; meta = s.meta; modified = s.moment }

may_put_of : {list : Acl} {from_bucket from_key : List ℕ} {replaced : Option Described} {s : Sealed} {n : ℕ} (tree : SwiftAccount) → MayPut list from_bucket from_key replaced s n tree → HasCopied s n tree
may_put_of tree may = may.copy.stands

module _ (s : Sealed) {settings : Settings} (acl : Option Acl) (list : Acl) (from_bucket from_key : List ℕ) (replaced : Option Described) (label : Label) where
  -- they were put, and the copy's file is
  pub subs_go_on : {a b c : History} {now : Settings} {end : Result Reply PlanFault} → now ≡ settings → Asks (always (sealed_sub_manifests s)) a b (GivenOf (HasCopied s 0)) (LeavesCopied s (sealed_sub_manifests s)) (Ok tt)
      → Plans (always 1) b c now (GivenOf (MayPut list from_bucket from_key replaced s (sealed_sub_manifests s))) (CopyObject s.bucket s.key acl from_bucket from_key replaced no_conditions Always) label Settled end
      → Plans (always (sealed_sub_manifests s + 1)) a c settings (GivenOf (MayPut list from_bucket from_key replaced s 0)) (CopyObject s.bucket s.key acl from_bucket from_key replaced no_conditions Always) label Settled end
  unfolding with_bytes
  subs_go_on kept asks plans =
      goes_on_from {given = MayPut list from_bucket from_key replaced s 0} (met_within may_put_of) kept (asks_same_state asks) plans
      (λ may told. record {
        listed = subst (λ state. TellsBucket s.bucket state (Some list)) (sym told.1) may.listed;
        copy = record {
          stands = told.0.copied;
          object = may.copy.object;
          found = ap (λ state. object_at (get state from_bucket) from_key) told.1 ∙ may.copy.found;
          same = ap (with_bytes s) told.0.same ∙ may.copy.same;
        };
      })
      (omega arith)

  -- they weren't
  pub subs_in_vain : {a b : History} {f : PlanFault} → Asks (always (sealed_sub_manifests s)) a b (GivenOf (HasCopied s 0)) (LeavesCopied s (sealed_sub_manifests s)) (Err f) → (end : Result Reply PlanFault) → IsErrAnd end (λ e. e ≡ f)
      → Plans (always (sealed_sub_manifests s + 1)) a b settings (GivenOf (MayPut list from_bucket from_key replaced s 0)) (CopyObject s.bucket s.key acl from_bucket from_key replaced no_conditions Always) label Settled end
  subs_in_vain asks end is = asked_in_vain (always (sealed_sub_manifests s)) (omega arith) (met_within may_put_of) asks end is

-- ---- the last call

module _ (bucket key from_bucket from_key : List ℕ) (acl : Option Acl) (list : Acl) (replaced : Option Described) (head : ObjectHead) (label : Label) (other : is_other_acl acl list ≡ false)
    (onto : is_onto_itself bucket key from_bucket from_key replaced ≡ false) {settings : Settings} where
  -- the segments were copied, and the copy is put
  pub copy_goes_on : {id : ℕ} (cut : Cut) {walked : List Piece} {a b c : History} {now : Settings} {s : Sealed} (parts : List SealedPart) {end : Result Reply PlanFault} → walked ≡ cut.pieces → now ≡ settings
      → AreOfCut walked parts
      → Asks (always (2 * length walked)) a b (GivenOf (MayCopy bucket id from_bucket cut.id walked)) (CopiesFirst bucket id from_bucket cut.id walked label.moment) (Ok parts)
      → s ≡ sealed_copy bucket key id replaced head parts label.moment → PutsParts b c now end s
      → Plans (always (2 * length cut.pieces + (sub_manifests (length cut.pieces) + 1))) a c settings (GivenOf (MayFillCut bucket list id from_bucket from_key head cut)) (CopyObject bucket key acl from_bucket from_key replaced no_conditions Always) label Settled end
  copy_goes_on {id = id} cut {walked = walked} {a = a} {b = b} {c = c} {now = now} parts {end = end} same kept are asks e puts =
      let here : Asks (always (2 * length cut.pieces)) a b (GivenOf (MayCopy bucket id from_bucket cut.id cut.pieces)) (CopiesFirst bucket id from_bucket cut.id cut.pieces label.moment) (Ok parts)
      = subst (λ l. Asks (always (2 * length l)) a b (GivenOf (MayCopy bucket id from_bucket cut.id l)) (CopiesFirst bucket id from_bucket cut.id l label.moment) (Ok parts)) same asks in
      let few = few_subs (sealed_copy bucket key id replaced head parts label.moment) (length cut.pieces) (sym (length-map parts piece_in) ∙ ap length (are.pieces ∙ same)) in
      goes_on_from {given = MayFillCut bucket list id from_bucket from_key head cut} (met_within may_copy) kept (asks_same_state here) (subst (PutsParts b c now end) e puts acl list from_bucket from_key replaced label other onto refl)
      (λ fill told. filled_may_put bucket key list id from_bucket from_key replaced head parts label.moment cut _ _ told.1 fill told.0) (omega (arith, few))

  -- an empty copy is put under the id
  pub id_puts : {draw n id : ℕ} {a b c : History} {now : Settings} {s : Sealed} (parts : List SealedPart) {end : Result Reply PlanFault} → UnusedIsAbandoned → is_bucket bucket ≡ true → now ≡ settings
      → Asks (by_account n) a b (GivenOf (InBucket bucket)) (TellsOf (TellsFree bucket draw)) (Ok id) → head.size ≡ 0 → parts ≡ []
      → s ≡ sealed_copy bucket key id replaced head parts label.moment → PutsListed b c now end s
      → Plans (by_account (n + 1)) a c settings (Given (IsFoundSource bucket list from_bucket from_key head)) (CopyObject bucket key acl from_bucket from_key replaced no_conditions Always) label Settled end
  id_puts {id = id} {b = b} {c = c} {now = now} parts {end = end} law is kept asks empty none e puts =
      goes_on_from {given = Found bucket list from_bucket from_key head} (λ met. met) kept (asks_unnamed law is asks) (subst (PutsListed b c now end) e puts acl list from_bucket from_key replaced label other onto refl)
      (λ found told. empty_may_put bucket key list id from_bucket from_key replaced head parts label.moment _ empty none (fill_after found told)) (λ told. omega arith)
