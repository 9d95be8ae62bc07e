-- A bucket that is missing is made: both containers beside it, and then what stands in them is deleted.
use Rattle.std.specs.Prelude.{◌≡◌, ◌≤◌, ◌+◌, ℕ, true, false, bytes_eq, List, [], ◌∷◌, map, length, is_some, Option, None, Result, Ok, Err}
use Rattle.std.specs.Result.{IsErrAnd}
use Rattle.std.specs.FinMap.{empty, empty_of_len, entries, get, len, len-entries}
use Rattle.std.proofs.Common.{refl, sym, ap, subst, ◌∙◌, inl, inr, arith}
use Rattle.std.proofs.lemmas.List.{length-map}
use Rattle.std.proofs.lemmas.Map.Text.{is_eq-slice_cmp}
use Rattle.gate_base.specs.Maps.{Names}
use Rattle.gate_base.proofs.lemmas.Maps.{by_name, apart_back}
use Rattle.s3_names.specs.declared.acl.Acl.{Acl}
use Rattle.s3_names.specs.Bucket.{is_bucket}
use Rattle.s3_machine.specs.Items.{with_prefix}
use Rattle.s3_machine.specs.declared.operation.Label.{Label}
use Rattle.s3_machine.specs.declared.operation.Settings.{Settings}
use Rattle.s3_machine.specs.declared.operation.Op.{Op}
use Rattle.s3_machine.specs.Ops.{CreateBucket}
use Rattle.s3_machine.specs.declared.operation.Reply.{Reply}
use Rattle.swift_calls.specs.Account.{SwiftAccount, files, files_of}
use Rattle.swift_calls.specs.History.{History, present}
use Rattle.upload_records.specs.Layout.{uploads_name, segments_name}
use Rattle.upload_records.specs.Native.{IsSettled, s3_state}
use Rattle.upload_records.specs.Consistent.{IsBeside}
use Rattle.upload_records.proofs.lemmas.SideCalls.{sides_apart}
use Rattle.account_calls.specs.declared.fault.PlanFault.{PlanFault}
use Rattle.account_calls.specs.declared.state.Known.TheVariants.{Settled}
use Rattle.account_calls.specs.Answers.{pages, most_calls}
use Rattle.account_calls.specs.Calls.{Bound, always, by_account, Any, Met, Given, GivenOf, Asks, LacksBucket, Tells, TellsBucket}
use Rattle.account_calls.specs.Plan.{Plans}
use Rattle.account_calls.specs.Purging.{is_beside_none, under, MakesContainer, MayMake, MayPurge, Purges, TellsAllGone, purge_calls}
use Rattle.account_calls.proofs.lemmas.Ends.{IsWider, calls_in_vain, goes_on_from, met_settled}
use Rattle.account_calls.proofs.lemmas.Quiet.{asks_same_state, asks_untold}
use Rattle.account_calls.proofs.lemmas.Removal.{all_after_none}
use Rattle.planner.specs.Buckets.{emptying, HasUploads, HasSides, HasBareUploads}
use Rattle.planner.proofs.CreateBucket.{missing_of}

-- ---- the names

pub uploads_beside : (name bucket : List ℕ) → name ≡ uploads_name bucket → is_bucket bucket ≡ true → IsBeside name bucket
uploads_beside name bucket named is = record { of_bucket = is; is = inl named }

pub segments_beside : (name bucket : List ℕ) → name ≡ segments_name bucket → is_bucket bucket ≡ true → IsBeside name bucket
segments_beside name bucket named is = record { of_bucket = is; is = inr named }

-- ---- how many calls it takes

all_begin : {X : Type 0} (es : List (List ℕ × X)) → with_prefix [] es ≡ es
all_begin [] = refl
all_begin (e ∷ es) = ap (λ l. e ∷ l) (all_begin es)

-- all files are under the empty prefix
pub all_purged : (tree : SwiftAccount) (folder : List ℕ) → purge_calls tree folder [] ≡ pages (len (files tree folder)) + len (files tree folder)
all_purged tree folder = ap (λ n. pages n + n) (ap length (all_begin (entries (files tree folder))) ∙ sym (len-entries (files tree folder)))

-- accounts with the same files take as many
pub same_emptying : (bucket : List ℕ) (old new : SwiftAccount) → ((folder : List ℕ) → files new folder ≡ files old folder) → emptying bucket new ≡ emptying bucket old
same_emptying bucket old new same = λ i.
    pages (length (under [] (same (uploads_name bucket) i))) + length (under [] (same (uploads_name bucket) i))
    + (pages (length (under [] (same (segments_name bucket) i))) + length (under [] (same (segments_name bucket) i)))

-- ---- what is left of a container

none_left : {X : Type 0} (fs : Names X) → map (λ e. e.0) (with_prefix [] (entries fs)) ≡ [] → fs ≡ empty
none_left fs none = empty_of_len fs (len-entries fs ∙ sym (length-map (entries fs) (λ e. e.0)) ∙ ap (λ es. length (map (λ e. e.0) es)) (sym (all_begin (entries fs))) ∙ ap length none)

-- ---- what stands on the way

module _ (bucket : List ℕ) (is : is_bucket bucket ≡ true) where
  apart : bytes_eq (segments_name bucket) (uploads_name bucket) ≡ false
  apart = sym (is_eq-slice_cmp (segments_name bucket) (uploads_name bucket)) ∙ sides_apart bucket is

  apart_too : bytes_eq (uploads_name bucket) (segments_name bucket) ≡ false
  apart_too = sym (is_eq-slice_cmp (uploads_name bucket) (segments_name bucket)) ∙ apart_back by_name (segments_name bucket) (uploads_name bucket) (sides_apart bucket is)

  module _ (old new : SwiftAccount) (same : s3_state new ≡ s3_state old) where
    still_lacks : LacksBucket bucket (s3_state old) → LacksBucket bucket (s3_state new)
    still_lacks lacks = ap (λ s. get s bucket) same ∙ lacks

    has_uploads : LacksBucket bucket (s3_state old) → MakesContainer (uploads_name bucket) old new tt → HasUploads bucket new
    has_uploads lacks made = record { lacks = still_lacks lacks; uploads = made.there }

    has_sides : HasUploads bucket old → MakesContainer (segments_name bucket) old new tt → HasSides bucket new
    has_sides has made = record { lacks = still_lacks has.lacks; uploads = made.stays (uploads_name bucket) has.uploads; segments = made.there }

    has_bare : HasSides bucket old → Purges (uploads_name bucket) [] old new → HasBareUploads bucket new
    has_bare has purged = record {
      lacks = still_lacks has.lacks;
      uploads = record { there = purged.touches.stays ∙ has.uploads; holds = none_left (files new (uploads_name bucket)) purged.none };
      segments = ap is_some (purged.touches.others (segments_name bucket) apart) ∙ has.segments;
    }

    may_make : HasBareUploads bucket old → Purges (segments_name bucket) [] old new → MayMake bucket new
    may_make has purged =
        let stays = purged.touches.others (uploads_name bucket) apart_too in
        record {
          lacks = still_lacks has.lacks;
          bare = record {
            records = record { there = ap is_some stays ∙ has.uploads.there; holds = ap files_of stays ∙ has.uploads.holds };
            segments = record { there = purged.touches.stays ∙ has.segments; holds = none_left (files new (segments_name bucket)) purged.none };
          };
        }

  -- what stands in both may be deleted
  may_purge_uploads : {h : History} → Met (GivenOf (HasSides bucket)) h → Met (MayPurge (uploads_name bucket) bucket [] []) h
  may_purge_uploads {h = h} met = record {
    observable = met.observable;
    sound = met.sound;
    has = record {
      settled = met.has.settled;
      there = met.has.is.uploads;
      may = is_beside_none (record { of_bucket = is; is = inl refl }) met.has.is.lacks;
      behind = all_after_none (present h) (uploads_name bucket) [] met.sound;
    };
  }

  may_purge_segments : {h : History} → Met (GivenOf (HasBareUploads bucket)) h → Met (MayPurge (segments_name bucket) bucket [] []) h
  may_purge_segments {h = h} met = record {
    observable = met.observable;
    sound = met.sound;
    has = record {
      settled = met.has.settled;
      there = met.has.is.segments;
      may = is_beside_none (record { of_bucket = is; is = inr refl }) met.has.is.lacks;
      behind = all_after_none (present h) (segments_name bucket) [] met.sound;
    };
  }

  -- as one is emptied, the calls that empty the other stay
  segments_stay : (old new : SwiftAccount) → Purges (uploads_name bucket) [] old new → purge_calls new (segments_name bucket) [] ≡ purge_calls old (segments_name bucket) []
  segments_stay old new purged =
      let same = ap files_of (purged.touches.others (segments_name bucket) apart) in
      λ i. pages (length (under [] (same i))) + length (under [] (same i))

-- ---- the calls, by the names that were handed on

as_made : {a b : History} {folder name : List ℕ} {result : Result (Unit {0}) PlanFault} → folder ≡ name → Asks (always 1) a b IsSettled (MakesContainer folder) result → Asks (always 1) a b IsSettled (MakesContainer name) result
as_made {a = a} {b = b} {result = result} is asks = subst (λ n. Asks (always 1) a b IsSettled (MakesContainer n) result) is asks

-- the calls of a purge
abbrev pub AsksPurge : History → History → List ℕ → List ℕ → List ℕ → Result (Unit {0}) PlanFault → Type 0
AsksPurge a b folder bucket prefix result = Asks (by_account (purge_calls (present a) folder prefix)) a b (MayPurge folder bucket prefix []) (TellsAllGone folder prefix) result

as_purged : {a b : History} {folder name bucket prefix : List ℕ} {result : Result (Unit {0}) PlanFault} → folder ≡ name → prefix ≡ [] → AsksPurge a b folder bucket prefix result → AsksPurge a b name bucket [] result
as_purged {a = a} {b = b} {bucket = bucket} {result = result} is none asks = subst {A = List ℕ × List ℕ} (λ x. AsksPurge a b x.0 bucket x.1 result) (λ i. (is i, none i)) asks

-- ---- one after the other

module _ {settings : Settings} {op : Op} {label : Label} {a b : History} where
  -- calls that weren't answered end the plan
  broke_off : {T : Type 0} {given asked : SwiftAccount → Type 0} {Q : SwiftAccount → SwiftAccount → T → Type 0} {f : PlanFault} {n : Bound} (most : Bound) → IsWider n most → (Met (GivenOf given) a → Met asked a)
      → Asks n a b asked Q (Err f) → (end : Result Reply PlanFault) → IsErrAnd end (λ e. e ≡ f) → Plans most a b settings (GivenOf given) op label Settled end
  broke_off {T = T} {asked = asked} {f = f} {n = n} most wider under asks end is = calls_in_vain {T = T} {P = λ s told. Unit {0}} n wider under (asks_untold f asks) end is

  pub not_made : {given : SwiftAccount → Type 0} {folder : List ℕ} {f : PlanFault} {most : ℕ} → 1 ≤ most → Asks (always 1) a b IsSettled (MakesContainer folder) (Err f) → (end : Result Reply PlanFault) → IsErrAnd end (λ e. e ≡ f)
      → Plans (by_account most) a b settings (GivenOf given) op label Settled end
  not_made {most = most} wider asks end is = broke_off (by_account most) wider met_settled asks end is

  module _ (bucket : List ℕ) (is : is_bucket bucket ≡ true) where
    pub not_emptied_uploads : {folder prefix : List ℕ} {f : PlanFault} → folder ≡ uploads_name bucket → prefix ≡ [] → AsksPurge a b folder bucket prefix (Err f) → (end : Result Reply PlanFault) → IsErrAnd end (λ e. e ≡ f)
        → Plans (by_account (1 + emptying bucket (present a))) a b settings (GivenOf (HasSides bucket)) op label Settled end
    not_emptied_uploads named none asks end gives = broke_off (by_account (1 + emptying bucket (present a))) (omega arith) (may_purge_uploads bucket is) (as_purged named none asks) end gives

    pub not_emptied_segments : {folder prefix : List ℕ} {f : PlanFault} → folder ≡ segments_name bucket → prefix ≡ [] → AsksPurge a b folder bucket prefix (Err f) → (end : Result Reply PlanFault) → IsErrAnd end (λ e. e ≡ f)
        → Plans (by_account (1 + purge_calls (present a) (segments_name bucket) [])) a b settings (GivenOf (HasBareUploads bucket)) op label Settled end
    not_emptied_segments named none asks end gives =
        broke_off (by_account (1 + purge_calls (present a) (segments_name bucket) [])) (omega arith) (may_purge_segments bucket is) (as_purged named none asks) end gives

    module _ {c : History} {now : Settings} {end : Result Reply PlanFault} (same : now ≡ settings) where
      pub made_uploads : {folder : List ℕ} → folder ≡ uploads_name bucket → Asks (always 1) a b IsSettled (MakesContainer folder) (Ok tt)
          → Plans (by_account (2 + emptying bucket (present b))) b c now (GivenOf (HasUploads bucket)) op label Settled end
          → Plans (by_account (3 + emptying bucket (present a))) a c settings (GivenOf (λ tree. LacksBucket bucket (s3_state tree))) op label Settled end
      made_uploads named asks plans =
          goes_on_from met_settled same (asks_same_state (as_made named asks)) plans
          (λ lacks told. has_uploads bucket is (present a) (present b) told.1 lacks told.0)
          (λ told. omega (arith, same_emptying bucket (present a) (present b) told.1.0.holds))

      pub made_segments : {folder : List ℕ} → folder ≡ segments_name bucket → Asks (always 1) a b IsSettled (MakesContainer folder) (Ok tt)
          → Plans (by_account (1 + emptying bucket (present b))) b c now (GivenOf (HasSides bucket)) op label Settled end
          → Plans (by_account (2 + emptying bucket (present a))) a c settings (GivenOf (HasUploads bucket)) op label Settled end
      made_segments named asks plans =
          goes_on_from met_settled same (asks_same_state (as_made named asks)) plans
          (λ has told. has_sides bucket is (present a) (present b) told.1 has told.0)
          (λ told. omega (arith, same_emptying bucket (present a) (present b) told.1.0.holds))

      pub emptied_uploads : {folder prefix : List ℕ} → folder ≡ uploads_name bucket → prefix ≡ [] → AsksPurge a b folder bucket prefix (Ok tt)
          → Plans (by_account (1 + purge_calls (present b) (segments_name bucket) [])) b c now (GivenOf (HasBareUploads bucket)) op label Settled end
          → Plans (by_account (1 + emptying bucket (present a))) a c settings (GivenOf (HasSides bucket)) op label Settled end
      emptied_uploads named none asks plans =
          goes_on_from (may_purge_uploads bucket is) same (asks_same_state (as_purged named none asks)) plans
          (λ has told. has_bare bucket is (present a) (present b) told.1 has told.0)
          (λ told. omega (arith, segments_stay bucket is (present a) (present b) told.1.0))

      pub emptied_segments : {folder prefix : List ℕ} → folder ≡ segments_name bucket → prefix ≡ [] → AsksPurge a b folder bucket prefix (Ok tt)
          → Plans (always 1) b c now (GivenOf (MayMake bucket)) op label Settled end
          → Plans (by_account (1 + purge_calls (present a) (segments_name bucket) [])) a c settings (GivenOf (HasBareUploads bucket)) op label Settled end
      emptied_segments named none asks plans =
          goes_on_from (may_purge_segments bucket is) same (asks_same_state (as_purged named none asks)) plans
          (λ has told. may_make bucket is (present a) (present b) told.1 has told.0)
          (λ told. omega arith)

      -- the bucket is missing
      pub missing_goes_on : (acl : Acl) {value : Option Acl} → value ≡ None → Asks (always 1) a b IsSettled (Tells (TellsBucket bucket)) (Ok value)
          → Plans (by_account (3 + emptying bucket (present b))) b c now (GivenOf (λ tree. LacksBucket bucket (s3_state tree))) op label Settled end
          → Plans (most_calls (CreateBucket bucket acl) (present a)) a c settings (Given Any) op label Settled end
      missing_goes_on acl none asks plans =
          goes_on_from met_settled same asks plans
          (λ any told. ap (λ x. get (s3_state x) bucket) told.same ∙ missing_of bucket (s3_state (present a)) (told.of_state ∙ none))
          (λ told. omega (arith, ap (emptying bucket) told.1.same, all_purged (present a) (uploads_name bucket), all_purged (present a) (segments_name bucket)))
