-- The records of a page, one after the other.
use Rattle.std.specs.Prelude.{◌≡◌, ◌≤◌, ◌<◌, ◌+◌, ◌*◌, ℕ, zero, suc, Bool, true, false, is_some, List, [], ◌∷◌, ◌++◌, map, length, take, drop, get_or, Option, Result, Ok, Err}
use Rattle.std.specs.Result.{IsErrAnd}
use Rattle.std.specs.List.{AllByRecursion}
use Rattle.std.specs.FinMap.{get}
use Rattle.std.proofs.Common.{refl, sym, ap, subst, ◌∙◌, arith}
use Rattle.std.proofs.lemmas.List.{map-append, take-append-drop, take_all, take_more}
use Rattle.std.proofs.lemmas.Map.Text.{is_eq-slice_cmp}
use Rattle.s3_names.specs.Bucket.{is_bucket}
use Rattle.swift_calls.specs.Account.{SwiftAccount, SwiftContainer, files}
use Rattle.swift_calls.specs.History.{History, budget}
use Rattle.swift_calls.specs.declared.heads.NameItem.{NameItem}
use Rattle.list_pages.specs.Listing.{name_in}
use Rattle.upload_records.specs.Layout.{uploads_name}
use Rattle.upload_records.specs.Native.{IsSettled}
use Rattle.upload_records.proofs.lemmas.Sides.{bucket_uploads}
use Rattle.account_calls.specs.declared.fault.PlanFault.{PlanFault}
use Rattle.sweep.specs.declared.forget.Aged.{Aged}
use Rattle.sweep.specs.Aging.{Ages, AreDistinct, Forgetting, HasFile, HasFiles, TellsAged, is_in, old_among}
use Rattle.leftovers.specs.Segments.{HasSettled}
use Rattle.sweep.proofs.AgesMany.{ages_none, apart_one, distinct_at, olds_append, olds_join, tells_then}
use Rattle.sweep.proofs.ForgetCalls.{forgetting_failed, forgetting_idle, forgetting_then, forgetting_told}

-- the bucket is there still
pub settled_after : {before : ℕ} {bucket : List ℕ} {ids : List (List ℕ)} {old new : SwiftAccount} → is_bucket bucket ≡ true → Ages before bucket ids old new → IsSettled new → HasSettled bucket old → HasSettled bucket new
settled_after {bucket = bucket} {old = old} {new = new} is ages settled has = record {
  settled = settled;
  there = subst (λ (o : Option SwiftContainer). is_some o ≡ true) (sym (ages.touches.others bucket (sym (is_eq-slice_cmp bucket (uploads_name bucket)) ∙ bucket_uploads bucket bucket is))) has.there;
}

take_zero : (items : List NameItem) → take 0 items ≡ []
take_zero [] = refl
take_zero (item ∷ items) = refl

-- the names of the first items
abbrev pub first_names : List NameItem → ℕ → List (List ℕ)
first_names items i = map name_in (take i items)

pub record Aging (a b : History) (before : ℕ) (bucket : List ℕ) (items : List NameItem) (i f m : ℕ) : Type 0 where
  pub forgets : AreDistinct (map name_in items) → Forgetting a b (HasFiles bucket (map name_in items)) (old_among before bucket (first_names items i)) (TellsAged before bucket (first_names items i)) (Ok (record { forgotten = f; migrated = m }))
  pub counted : a.called + (f + m) ≤ b.called
  pub within : a.called ≤ budget → b.called ≤ budget
  pub near : b.called ≤ a.called + 2 * i

pub aging_none : (a : History) (before : ℕ) (bucket : List ℕ) (items : List NameItem) → Aging a a before bucket items 0 0 0
aging_none a before bucket items = record {
  forgets = λ d. subst (λ l. Forgetting a a (HasFiles bucket (map name_in items)) (old_among before bucket (map name_in l)) (TellsAged before bucket (map name_in l)) (Ok (record { forgotten = 0; migrated = 0 }))) (sym (take_zero items))
      (forgetting_idle a (record { forgotten = 0; migrated = 0 }) (λ tree sound has. refl) (λ tree sound has. record { ages = ages_none before bucket tree; settled = has.has.settled; forgotten = refl; migrated = refl }));
  counted = omega arith;
  within = λ few. few;
  near = omega arith;
}

names_more : (items : List NameItem) (i : ℕ) (item : NameItem) → i < length items → item ≡ get_or items i item → first_names items (i + 1) ≡ first_names items i ++ item.name ∷ []
names_more items i item within is = ap (map name_in) (take_more items i item within ∙ ap (λ x. take i items ++ x ∷ []) (sym is)) ∙ map-append name_in (take i items) (item ∷ [])

name_at : (items : List NameItem) (i : ℕ) (item : NameItem) → i < length items → item ≡ get_or items i item → item.name ≡ get_or (map name_in items) i item.name
name_at [] i item within is = absurd (omega (arith, within))
name_at (x ∷ items) zero item within is = ap name_in is
name_at (x ∷ items) (suc i) item within is = name_at items i item (omega (arith, within)) is

take_names : (items : List NameItem) (i : ℕ) → take i (map name_in items) ≡ map name_in (take i items)
take_names [] zero = refl
take_names [] (suc i) = refl
take_names (x ∷ items) zero = refl
take_names (x ∷ items) (suc i) = ap (λ l. x.name ∷ l) (take_names items i)

-- what holds of each name holds of the one at a place
there_at : (p : List ℕ → Bool) (items : List NameItem) (i : ℕ) (item : NameItem) → i < length items → item ≡ get_or items i item → AllByRecursion (λ id. p id ≡ true) (map name_in items) → p item.name ≡ true
there_at p [] i item within is all = absurd (omega (arith, within))
there_at p (x ∷ items) zero item within is all = ap (λ (y : NameItem). p y.name) is ∙ all.0
there_at p (x ∷ items) (suc i) item within is all = there_at p items i item (omega (arith, within)) is all.1

length_names : (items : List NameItem) → length (map name_in items) ≡ length items
length_names [] = refl
length_names (x ∷ items) = ap suc (length_names items)

module _ {a b : History} {before : ℕ} {bucket : List ℕ} (is_b : is_bucket bucket ≡ true) (items : List NameItem) {i f m : ℕ} (aging : Aging a b before bucket items i f m) (item : NameItem) (within : i < length items) (is : item ≡ get_or items i item) where
  out : AreDistinct (map name_in items) → is_in item.name (first_names items i) ≡ false
  out d = subst (λ l. is_in item.name l ≡ false) (take_names items i) (distinct_at (map name_in items) i item.name d (omega (arith, within, length_names items)) (name_at items i item within is))

  rest_of : (tree : SwiftAccount) → old_among before bucket (map name_in items) tree ≡ old_among before bucket (first_names items (i + 1)) tree ++ old_among before bucket (map name_in (drop (i + 1) items)) tree
  rest_of tree =
      ap (λ l. old_among before bucket (map name_in l) tree) (sym (take-append-drop (i + 1) items))
      ∙ ap (λ l. old_among before bucket l tree) (map-append name_in (take (i + 1) items) (drop (i + 1) items))
      ∙ olds_append before bucket (first_names items (i + 1)) (map name_in (drop (i + 1) items)) tree

  -- one more
  module _ {c : History} where
    aged_more : (result : Result Aged PlanFault) → AreDistinct (map name_in items) → Forgetting b c (HasFile bucket item.name) (old_among before bucket (item.name ∷ [])) (TellsAged before bucket (item.name ∷ [])) result
        → Forgetting a c (HasFiles bucket (map name_in items)) (old_among before bucket (first_names items (i + 1))) (λ old last (told : Aged). TellsAged before bucket (first_names items (i + 1)) old last (record { forgotten = f + told.forgotten; migrated = m + told.migrated })) result
    aged_more result d one =
        forgetting_then {given = HasFiles bucket (map name_in items)} {rest = HasFile bucket item.name} {xs = old_among before bucket (first_names items i)} {ys = old_among before bucket (item.name ∷ [])} {zs = old_among before bucket (first_names items (i + 1))}
        (aging.forgets d) one
        (λ old new sound has told. record {
          has = settled_after is_b told.ages told.settled has.has;
          there = ap is_some (told.ages.others item.name (out d)) ∙ there_at (λ id. is_some (get (files old (uploads_name bucket)) id)) items i item within is has.there;
        })
        (λ old new sound after has told. ap (λ l. old_among before bucket l old) (names_more items i item within is) ∙ olds_join (first_names items i) told.ages (item.name ∷ []) (apart_one (first_names items i) item.name (out d)))
        (λ old new last y sound has told next. subst (λ l. TellsAged before bucket l old last (record { forgotten = f + y.forgotten; migrated = m + y.migrated })) (sym (names_more items i item within is))
        (tells_then (first_names items i) (item.name ∷ []) (apart_one (first_names items i) item.name (out d)) told next))

    pub aging_more : (told : Aged) → Forgetting b c (HasFile bucket item.name) (old_among before bucket (item.name ∷ [])) (TellsAged before bucket (item.name ∷ [])) (Ok told)
        → b.called + (told.forgotten + told.migrated) < c.called → c.called ≤ budget → c.called ≤ b.called + 2 → Aging a c before bucket items (i + 1) (f + told.forgotten) (m + told.migrated)
    aging_more told one counted few near = record {
      forgets = λ d. forgetting_told {given = HasFiles bucket (map name_in items)} {given' = HasFiles bucket (map name_in items)} {xs = old_among before bucket (first_names items (i + 1))} {zs = old_among before bucket (first_names items (i + 1))}
          (record { forgotten = f + told.forgotten; migrated = m + told.migrated }) (λ tree has. has) (aged_more (Ok told) d one) (λ old new sound has tells. refl) (λ old new sound has tells. tells);
      counted = let before_it = aging.counted in omega (arith, before_it, counted);
      within = λ fits. few;
      near = let before_it = aging.near in omega (arith, before_it, near);
    }

    pub aging_fault : {fault : PlanFault} → Forgetting b c (HasFile bucket item.name) (old_among before bucket (item.name ∷ [])) (TellsAged before bucket (item.name ∷ [])) (Err fault)
        → (result : Result Aged PlanFault) → IsErrAnd result (λ e. e ≡ fault) → AreDistinct (map name_in items)
        → Forgetting a c (HasFiles bucket (map name_in items)) (old_among before bucket (map name_in items)) (TellsAged before bucket (map name_in items)) result
    aging_fault {fault = fault} one result gives d =
        forgetting_failed {given = HasFiles bucket (map name_in items)} {given' = HasFiles bucket (map name_in items)} {xs = old_among before bucket (first_names items (i + 1))} {zs = old_among before bucket (map name_in items)}
        (λ tree has. has) (aged_more (Err fault) d one) (λ tree sound has. (old_among before bucket (map name_in (drop (i + 1) items)) tree, rest_of tree)) result gives

    pub fault_near : {fault : PlanFault} → Forgetting b c (HasFile bucket item.name) (old_among before bucket (item.name ∷ [])) (TellsAged before bucket (item.name ∷ [])) (Err fault) → c.called ≤ b.called + 2 → c.called ≤ a.called + 2 * length items
    fault_near one near = let before_it = aging.near in omega (arith, before_it, near, within)

pub aging_all : {a b : History} {before : ℕ} {bucket : List ℕ} (items : List NameItem) {i f m : ℕ} → length items ≤ i → Aging a b before bucket items i f m → AreDistinct (map name_in items)
    → Forgetting a b (HasFiles bucket (map name_in items)) (old_among before bucket (map name_in items)) (TellsAged before bucket (map name_in items)) (Ok (record { forgotten = f; migrated = m }))
aging_all {a = a} {b = b} {before = before} {bucket = bucket} items {i = i} {f = f} {m = m} far aging d =
    subst (λ l. Forgetting a b (HasFiles bucket (map name_in items)) (old_among before bucket (map name_in l)) (TellsAged before bucket (map name_in l)) (Ok (record { forgotten = f; migrated = m }))) (take_all i items far) (aging.forgets d)
