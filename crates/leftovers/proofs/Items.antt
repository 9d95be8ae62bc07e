-- The files of a page are deleted one after the other, where they pass a test.
use Rattle.std.specs.Prelude.{◌≡◌, ◌≤◌, ◌<◌, ◌+◌, ℕ, zero, suc, Bool, true, false, cond, List, [], ◌∷◌, ◌++◌, map, length, take, get_or, Result, Ok, Err}
use Rattle.std.specs.Result.{IsErrAnd}
use Rattle.std.specs.List.{filter}
use Rattle.std.specs.FinMap.{remove}
use Rattle.std.proofs.Common.{refl, sym, ap, subst, ◌∙◌, arith}
use Rattle.std.proofs.lemmas.List.{append-nil, length-append, map-append, take_all, take_more}
use Rattle.swift_calls.specs.Account.{SwiftAccount}
use Rattle.swift_calls.specs.History.{History}
use Rattle.swift_calls.specs.declared.heads.NameItem.{NameItem}
use Rattle.list_pages.specs.Listing.{name_in}
use Rattle.account_calls.specs.declared.fault.PlanFault.{PlanFault}
use Rattle.account_calls.specs.Calls.{always, Asks}
use Rattle.account_calls.specs.Purging.{Deletes}
use Rattle.leftovers.proofs.lemmas.Touched.{touches_none, touches_trans}
use Rattle.account_calls.proofs.lemmas.Faults.{err_is}
use Rattle.account_calls.proofs.lemmas.Idle.{grows_none, none_made}
use Rattle.account_calls.proofs.lemmas.Quiet.{asks_failed, asks_left, asks_then}
use Rattle.account_calls.proofs.lemmas.Removal.{without_more}
use Rattle.leftovers.specs.Sweeping.{MayDelete, TellsDeleted, TellsSwept}
use Rattle.leftovers.proofs.Removals.{filter_append}

-- ---- those of some items that pass

abbrev pub going : (List ℕ → Bool) → List NameItem → List (List ℕ)
going test items = filter test (map name_in items)

going_more : (test : List ℕ → Bool) (items : List NameItem) (item : NameItem) (t : Bool) → test item.name ≡ t → going test (items ++ item ∷ []) ≡ going test items ++ cond t (item.name ∷ []) []
going_more test items item t is =
    ap (filter test) (map-append name_in items (item ∷ [])) ∙ filter_append test (map name_in items) (item.name ∷ []) ∙ ap (λ s. going test items ++ cond s (item.name ∷ []) []) is

take_zero : (items : List NameItem) → take 0 items ≡ []
take_zero [] = refl
take_zero (item ∷ items) = refl

going_front : (test : List ℕ → Bool) (i : ℕ) (items : List NameItem) → length (going test (take i items)) ≤ length (going test items)
going_front test zero items = subst (λ l. length (going test l) ≤ length (going test items)) (sym (take_zero items)) (omega arith)
going_front test (suc i) [] = omega arith
going_front test (suc i) (x ∷ items) =
    let rest = going_front test i items in
    elim (test x.name) as (λ t. length (cond t (x.name ∷ going test (take i items)) (going test (take i items))) ≤ length (cond t (x.name ∷ going test items) (going test items))) [
      | true ↦ omega (arith, rest)
      | false ↦ rest
    ]

-- before one that passes there are fewer
going_before : (test : List ℕ → Bool) (i : ℕ) (items : List NameItem) (item : NameItem) → i < length items → item ≡ get_or items i item → test item.name ≡ true → length (going test (take i items)) + 1 ≤ length (going test items)
going_before test i [] item within is passes = absurd (omega (arith, within))
going_before test zero (x ∷ items) item within is passes =
    subst (λ t. 1 ≤ length (cond t (x.name ∷ going test items) (going test items))) (sym (ap (λ (y : NameItem). test y.name) (sym is) ∙ passes)) (omega arith)
going_before test (suc i) (x ∷ items) item within is passes =
    let rest = going_before test i items item (omega (arith, within)) is passes in
    elim (test x.name) as (λ t. length (cond t (x.name ∷ going test (take i items)) (going test (take i items))) + 1 ≤ length (cond t (x.name ∷ going test items) (going test items))) [
      | true ↦ omega (arith, rest)
      | false ↦ rest
    ]

-- ---- so far

-- those of these items were deleted that pass
pub record Sweeping (a b : History) (folder : List ℕ) (test : List ℕ → Bool) (done : List NameItem) (count : ℕ) : Type 0 where
  pub asks : (bucket : List ℕ) → Asks (always (length (going test done))) a b (MayDelete folder bucket test) (TellsSwept folder bucket test (map name_in done)) (Ok count)
  pub counted : a.called + count ≤ b.called
  pub few : count ≤ length done
  pub tally : count ≡ length (going test done)

sweeping_no : (a : History) (folder : List ℕ) (test : List ℕ → Bool) → Sweeping a a folder test [] 0
sweeping_no a folder test = record {
  asks = λ bucket. record {
    grows = grows_none (always 0) (MayDelete folder bucket test) a;
    cause = refl;
    effect = λ met. (
      none_made refl met.sound,
      refl,
      record { deletes = record { touches = touches_none folder _; left = refl }; settled = met.has.settled; may = met.has.may },
    );
    settled = λ observable settled. settled;
  };
  counted = omega arith;
  few = omega arith;
  tally = refl;
}

pub sweeping_none : (a : History) (folder : List ℕ) (test : List ℕ → Bool) (items : List NameItem) → Sweeping a a folder test (take 0 items) 0
sweeping_none a folder test items = subst (λ l. Sweeping a a folder test l 0) (sym (take_zero items)) (sweeping_no a folder test)

-- what the DELETE of one item tells
abbrev pub AsksOne : History → History → List ℕ → (List ℕ → Bool) → NameItem → Result (Unit {0}) PlanFault → Type 0
AsksOne b c folder test item result = (bucket : List ℕ) → Asks (always 1) b c (MayDelete folder bucket test) (TellsDeleted folder bucket test (item.name ∷ [])) result

swept_more : {folder bucket : List ℕ} {test : List ℕ → Bool} (done : List NameItem) (item : NameItem) {count : ℕ} {old new last : SwiftAccount} → test item.name ≡ true
    → TellsSwept folder bucket test (map name_in done) old new count → TellsDeleted folder bucket test (item.name ∷ []) new last tt
    → TellsSwept folder bucket test (map name_in (done ++ item ∷ [])) old last (count + 1)
swept_more {folder = folder} {test = test} done item {count = count} {old = old} {last = last} passes first then =
    let names : going test (done ++ item ∷ []) ≡ going test done ++ item.name ∷ [] = going_more test done item true passes in
    record {
      deletes = subst (λ ns. Deletes folder ns old last) (sym names) (record {
        touches = touches_trans first.deletes.touches then.deletes.touches;
        left = then.deletes.left ∙ ap (λ fs. remove fs item.name) first.deletes.left ∙ sym (without_more (going test done) item.name _);
      });
      settled = then.settled;
      may = then.may;
    }

module _ {a b : History} {folder : List ℕ} {test : List ℕ → Bool} (items : List NameItem) (i : ℕ) {count : ℕ} (sweeping : Sweeping a b folder test (take i items) count) where
  module _ (item : NameItem) (within : i < length items) (is : item ≡ get_or items i item) where
    more : take (i + 1) items ≡ take i items ++ item ∷ []
    more = take_more items i item within ∙ ap (λ x. take i items ++ x ∷ []) (sym is)

    -- one more was
    pub sweeping_more : {c : History} → test item.name ≡ true → b.called + 1 ≤ c.called → AsksOne b c folder test item (Ok tt) → Sweeping a c folder test (take (i + 1) items) (count + 1)
    sweeping_more {c = c} passes called one = subst (λ l. Sweeping a c folder test l (count + 1)) (sym more) (record {
      asks = λ bucket.
          asks_left {n = length (going test (take i items ++ item ∷ []))} {P = λ old new done. TellsSwept folder bucket test (map name_in (take i items ++ item ∷ [])) old new (count + 1)} (count + 1) (omega arith)
          (asks_then (omega (arith, ap length (going_more test (take i items) item true passes), length-append (going test (take i items)) (item.name ∷ []))) (sweeping.asks bucket) (one bucket)
          (λ old new sound same has told. record { settled = told.settled; may = told.may })
          (λ old new last done sound has first then. swept_more (take i items) item passes first then))
          (λ old new sound same has told. told);
      counted = let before = sweeping.counted in omega (arith, before, called);
      few = let before = sweeping.few in omega (arith, before, length-append (take i items) (item ∷ []));
      tally = omega (arith, sweeping.tally, ap length (going_more test (take i items) item true passes), length-append (going test (take i items)) (item.name ∷ []));
    })

    -- one stays
    pub sweeping_past : test item.name ≡ false → Sweeping a b folder test (take (i + 1) items) count
    sweeping_past stays =
        let names : going test (take i items ++ item ∷ []) ≡ going test (take i items) = going_more test (take i items) item false stays ∙ append-nil (going test (take i items)) in
        subst (λ l. Sweeping a b folder test l count) (sym more) (record {
          asks = λ bucket.
              asks_left count (omega (arith, ap length names)) (sweeping.asks bucket)
              (λ old new sound same has told. record { deletes = subst (λ ns. Deletes folder ns old new) (sym names) told.deletes; settled = told.settled; may = told.may });
          counted = sweeping.counted;
          few = let before = sweeping.few in omega (arith, before, length-append (take i items) (item ∷ []));
          tally = sweeping.tally ∙ ap length (sym names);
        })

    -- one wasn't told
    pub sweeping_fault : {c : History} {f : PlanFault} → test item.name ≡ true → AsksOne b c folder test item (Err f) → (result : Result ℕ PlanFault) → IsErrAnd result (λ e. e ≡ f) → (bucket : List ℕ)
        → Asks (always (length (going test items))) a c (MayDelete folder bucket test) (TellsSwept folder bucket test (map name_in items)) result
    sweeping_fault {c = c} {f = f} passes one result gives bucket =
        subst (Asks (always (length (going test items))) a c (MayDelete folder bucket test) (TellsSwept folder bucket test (map name_in items))) (sym (err_is result f gives))
        (asks_then (going_before test i items item within is passes) (sweeping.asks bucket)
        (asks_failed {R = λ old new done. ⊥} (omega arith) (one bucket) (Err f) refl)
        (λ old new sound same has told. record { settled = told.settled; may = told.may })
        (λ old new last done sound has first never. absurd never))

  -- all were
  pub sweeping_all : length items ≤ i → (bucket : List ℕ) → Asks (always (length (going test items))) a b (MayDelete folder bucket test) (TellsSwept folder bucket test (map name_in items)) (Ok count)
  sweeping_all far bucket = (subst (λ l. Sweeping a b folder test l count) (take_all i items far) sweeping).asks bucket

  pub sweeping_tally : length items ≤ i → count ≡ length (going test items)
  sweeping_tally far = (subst (λ l. Sweeping a b folder test l count) (take_all i items far) sweeping).tally

  pub sweeping_few : length items ≤ 1000 → length items ≤ i → count ≤ 1000
  sweeping_few near far = let few = (subst (λ l. Sweeping a b folder test l count) (take_all i items far) sweeping).few in omega (arith, near, few)
