-- A container is surveyed by its name, and what it has is added to what others have.
use Rattle.std.specs.Prelude.{◌≡◌, ◌≤◌, ◌<◌, ◌+◌, ℕ, true, false, is_some, List, [], length, take, get_or, sum_by, Option, None, Some, Result, Ok, Err}
use Rattle.std.specs.List.{AllByRecursion}
use Rattle.std.specs.Result.{IsErrAnd}
use Rattle.std.proofs.Common.{refl, sym, ap, subst, ◌∙◌, arith}
use Rattle.std.proofs.lemmas.List.{take_all}
use Rattle.std.proofs.lemmas.List.Sums.{sum_by-take-le, sum_by_more}
use Rattle.s3_names.specs.Bucket.{is_bucket}
use Rattle.swift_calls.specs.Account.{SwiftAccount}
use Rattle.swift_calls.specs.History.{History, present}
use Rattle.upload_texts.specs.declared.sealed.Sealed.{Sealed}
use Rattle.account_calls.specs.declared.fault.PlanFault.{PlanFault}
use Rattle.account_calls.specs.Calls.{Bound, by_account, Any, Asks}
use Rattle.account_calls.specs.Listing.{TellsOf}
use Rattle.account_calls.proofs.lemmas.Ask.{asks_fault, asks_told}
use Rattle.account_calls.proofs.lemmas.Markers.{IsKey, keys_are}
use Rattle.leftovers.specs.declared.sides.Kind.TheVariants.{Segments}
use Rattle.sweep.specs.declared.counting.Surveyed.{Surveyed}
use Rattle.leftovers.specs.Sides.{bucket_beside}
use Rattle.sweep.specs.Surveying.{calls_by, calls_of_side, plus, share_by, share_calls, share_of, share_of_side, shares_calls, shares_of, stray_calls, HasName, HasAllNames, TellsBucketShare, TellsShare, TellsShares, TellsStrayShare, TellsSum, bucket_calls}
use Rattle.leftovers.proofs.lemmas.Lists.{at_place, take_zero}
use Rattle.leftovers.proofs.lemmas.Readings.{asks_idle}
use Rattle.sweep.proofs.Steps.{asks_wider, reads_then_fault, reads_then_told}

-- ---- by the name

module _ (name : List ℕ) where
  -- that of a bucket
  pub bucket_share : {a b : History} {sealed : Option Sealed} {result : Result Surveyed PlanFault} → is_bucket name ≡ true → Asks (by_account (bucket_calls (present a) name)) a b (HasName sealed name) (TellsOf (TellsBucketShare name)) result
      → Asks (by_account (share_calls (present a) name)) a b (HasName sealed name) (TellsOf (TellsShare name)) result
  bucket_share {a = a} {b = b} {sealed = sealed} {result = result} is asks =
      subst (λ t. Asks (by_account (calls_by t (present a) name)) a b (HasName sealed name) (TellsOf (λ tree told. told ≡ share_by t tree name)) result) (sym is) asks

  -- another one
  module _ (isnt : is_bucket name ≡ false) where
    side_told : (o : Option (List ℕ)) → bucket_beside Segments name ≡ o → (tree : SwiftAccount) → share_of_side tree o ≡ share_of tree name
    side_told o is tree = ap (share_of_side tree) (sym is) ∙ (λ i. share_by (sym isnt i) tree name)

    side_paid : (o : Option (List ℕ)) → bucket_beside Segments name ≡ o → (tree : SwiftAccount) → calls_of_side tree o ≡ share_calls tree name
    side_paid o is tree = ap (calls_of_side tree) (sym is) ∙ (λ i. calls_by (sym isnt i) tree name)

    pub side_share : {a b : History} {bucket : List ℕ} → bucket_beside Segments name ≡ Some bucket → (result : Result Surveyed PlanFault)
        → Asks (by_account (stray_calls (present a) bucket)) a b Any (TellsOf (TellsStrayShare bucket)) result
        → Asks (by_account (share_calls (present a) name)) a b Any (TellsOf (TellsShare name)) result
    side_share {a = a} {b = b} {bucket = bucket} is result asks = by result (asks_wider (λ tree has. has) (omega (arith, side_paid (Some bucket) is (present a))) asks)
      where
        by : (result : Result Surveyed PlanFault) → Asks (by_account (share_calls (present a) name)) a b Any (TellsOf (TellsStrayShare bucket)) result → Asks (by_account (share_calls (present a) name)) a b Any (TellsOf (TellsShare name)) result
        by (Ok told) asks = asks_told {given' = Any} {Q = TellsShare name} (λ tree has. has) told (λ tree sound has stray. stray ∙ side_told (Some bucket) is tree) asks
        by (Err f) asks = asks_fault (λ tree has. has) asks (Err f) refl

    pub side_none : (h : History) → bucket_beside Segments name ≡ None → Asks (by_account (share_calls (present h) name)) h h Any (TellsOf (TellsShare name)) (Ok (record { buckets = 0; objects = 0; uploads = 0; kept = 0; orphans = 0; sealed = false }))
    side_none h is = asks_idle (by_account (share_calls (present h) name)) h (record { buckets = 0; objects = 0; uploads = 0; kept = 0; orphans = 0; sealed = false }) (λ tree sound has. side_told None is tree)

-- ---- added to others

module _ (name : List ℕ) (total : Surveyed) {a b : History} {sealed : Option Sealed} {most : Bound} where
  pub sum_told : {share sum : Surveyed} → sum ≡ plus total share → Asks most a b (HasName sealed name) (TellsOf (TellsShare name)) (Ok share) → Asks most a b (HasName sealed name) (TellsOf (TellsSum total name)) (Ok sum)
  sum_told {sum = sum} made asks = asks_told {given' = HasName sealed name} {Q = TellsSum total name} (λ tree has. has) sum (λ tree sound has told. made ∙ ap (plus total) told) asks

-- ---- one after the other

names_zero : (names : List (List ℕ)) → take 0 names ≡ []
names_zero names = take_zero names

module _ (sealed : Option Sealed) (names : List (List ℕ)) where
  -- what the first containers have was added
  abbrev pub Sharing : History → History → ℕ → Surveyed → Type 0
  Sharing a b i total = Asks (by_account (shares_calls (present a) (take i names))) a b (HasAllNames sealed names) (TellsOf (TellsShares (take i names))) (Ok total)

  abbrev pub nothing : Surveyed
  nothing = record { buckets = 0; objects = 0; uploads = 0; kept = 0; orphans = 0; sealed = false }

  pub sharing_none : (a : History) → Sharing a a 0 nothing
  sharing_none a = asks_idle (by_account (shares_calls (present a) (take 0 names))) a nothing (λ tree sound has. ap (shares_of tree) (sym (names_zero names)))

  module _ {a b : History} {i : ℕ} {total : Surveyed} (sharing : Sharing a b i total) (name : List ℕ) (within : i < length names) (is : name ≡ get_or names i name) where
    here : (tree : SwiftAccount) → HasAllNames sealed names tree → HasName sealed name tree
    here tree has = record {
      there = let key = at_place (IsKey tree) names i name within is (subst (AllByRecursion (IsKey tree)) (sym has.all) (keys_are tree)) in ap is_some key.1;
      seals = has.seals;
    }

    more : (f : List ℕ → ℕ) → sum_by f (take (i + 1) names) ≡ sum_by f (take i names) + f name
    more f = sum_by_more f names i name within ∙ ap (λ n. sum_by f (take i names) + f n) (sym is)

    sum_is : (tree : SwiftAccount) → plus (shares_of tree (take i names)) (share_of tree name) ≡ shares_of tree (take (i + 1) names)
    sum_is tree = λ j. record {
      buckets = sym (more (λ n. (share_of tree n).buckets)) j;
      objects = sym (more (λ n. (share_of tree n).objects)) j;
      uploads = sym (more (λ n. (share_of tree n).uploads)) j;
      kept = sym (more (λ n. (share_of tree n).kept)) j;
      orphans = sym (more (λ n. (share_of tree n).orphans)) j;
      sealed = false;
    }

    pub sharing_more : {c : History} {sum : Surveyed} → Asks (by_account (share_calls (present b) name)) b c (HasName sealed name) (TellsOf (TellsSum total name)) (Ok sum) → Sharing a c (i + 1) sum
    sharing_more {sum = sum} then =
        reads_then_told sharing (λ tree sound has p. here tree has) (λ met p same. omega (arith, ap (λ tree. share_calls tree name) same, more (share_calls (present a)))) sum then
        (λ tree sound has p q. q ∙ ap (λ t. plus t (share_of tree name)) p ∙ sum_is tree)

    pub sharing_fault : {c : History} {f : PlanFault} → Asks (by_account (share_calls (present b) name)) b c (HasName sealed name) (TellsOf (TellsSum total name)) (Err f) → (result : Result Surveyed PlanFault) → IsErrAnd result (λ e. e ≡ f)
        → Asks (by_account (shares_calls (present a) names)) a c (HasAllNames sealed names) (TellsOf (TellsShares names)) result
    sharing_fault then result gives =
        reads_then_fault sharing (λ tree sound has p. here tree has)
        (λ met p same. omega (arith, ap (λ tree. share_calls tree name) same, more (share_calls (present a)), fewer)) then result gives
      where
        fewer : sum_by (share_calls (present a)) (take (i + 1) names) ≤ sum_by (share_calls (present a)) names
        fewer = sum_by-take-le (share_calls (present a)) names (i + 1)

  pub sharing_all : {a b : History} {i : ℕ} {total : Surveyed} → length names ≤ i → Sharing a b i total → Asks (by_account (shares_calls (present a) names)) a b (HasAllNames sealed names) (TellsOf (TellsShares names)) (Ok total)
  sharing_all {a = a} {b = b} {i = i} {total = total} far sharing =
      subst (λ l. Asks (by_account (shares_calls (present a) l)) a b (HasAllNames sealed names) (TellsOf (TellsShares l)) (Ok total)) (take_all i names far) sharing
