-- The DELETE of the files beside a bucket, by why they may be deleted.
use Rattle.std.specs.Prelude.{◌≡◌, ◌≤◌, ◌<◌, ◌+◌, ℕ, zero, suc, Bool, true, false, bytes_eq, List, [], ◌∷◌, ◌++◌, map, length, take, get_or, is_some, Option, None, Some, Result, Ok, Err}
use Rattle.std.specs.Result.{IsErrAnd}
use Rattle.std.specs.List.{list_all}
use Rattle.std.specs.Option.{option_map}
use Rattle.std.specs.FinMap.{get, remove}
use Rattle.std.proofs.Common.{refl, sym, ap, subst, ◌∙◌, inl, inr, arith}
use Rattle.std.proofs.lemmas.Bool.{and_from, and_parts}
use Rattle.std.proofs.lemmas.List.{length-append, map-append, take_all, take_more}
use Rattle.std.proofs.lemmas.List.Folds.{list_all-append}
use Rattle.std.proofs.lemmas.Map.Text.{is_eq-slice_cmp}
use Rattle.gate_base.specs.Maps.{Names}
use Rattle.gate_base.proofs.lemmas.Maps.{by_name, get_empty, same_key, at_adjust, off_adjust, remove_missing}
use Rattle.s3_names.specs.Id.{id_digits}
use Rattle.s3_machine.specs.Items.{begins}
use Rattle.swift_calls.specs.Account.{SwiftObject, SwiftContainer, SwiftAccount, files_of, find_object, on_files, remove_file}
use Rattle.swift_calls.specs.History.{History}
use Rattle.swift_calls.specs.Step.{swift_step, delete_object}
use Rattle.swift_calls.specs.declared.calls.SwiftRequest.TheVariants.{DeleteObject}
use Rattle.swift_calls.specs.declared.heads.NameItem.{NameItem}
use Rattle.list_pages.specs.Listing.{name_in}
use Rattle.upload_records.specs.Native.{IsSettled}
use Rattle.upload_records.specs.Consistent.{IsConsistent}
use Rattle.upload_records.specs.Laws.{IsQuiet, IsAbandoned}
use Rattle.upload_records.proofs.lemmas.Buckets.{s3_state_there}
use Rattle.upload_records.proofs.lemmas.Objects.{delete_leaves}
use Rattle.upload_records.proofs.lemmas.SideCalls.{delete_settled, orphan_gone, side_file_gone}
use Rattle.account_calls.specs.declared.fault.PlanFault.{PlanFault}
use Rattle.account_calls.specs.Calls.{always, Asks}
use Rattle.account_calls.specs.Interpret.{gone_due}
use Rattle.account_calls.specs.Purging.{MayGo, is_beside_none, is_abandoned, MayDelete, Touches, Deletes, TellsDeleted}
use Rattle.account_calls.proofs.lemmas.Faults.{err_is}
use Rattle.account_calls.proofs.lemmas.Idle.{grows_none, none_made}
use Rattle.account_calls.proofs.lemmas.Quiet.{IsQuietOf, asks_failed, asks_then}
use Rattle.account_calls.proofs.lemmas.Removal.{without_more}

-- ---- what the DELETE of one touches

some_still : (g : Names SwiftObject → Names SwiftObject) (o : Option SwiftContainer) → is_some (option_map (on_files g) o) ≡ is_some o
some_still g None = refl
some_still g (Some folder) = refl

files_by : (name : List ℕ) (o : Option SwiftContainer) → files_of (option_map (on_files (λ fs. remove fs name)) o) ≡ remove (files_of o) name
files_by name None = sym (remove_missing by_name (files_of None) name (get_empty by_name name))
files_by name (Some folder) = refl

module _ (tree : SwiftAccount) (folder name : List ℕ) where
  abbrev new : SwiftAccount
  new = remove_file folder name tree

  off_folder : (n : List ℕ) → bytes_eq n folder ≡ false → get new n ≡ get tree n
  off_folder n apart = off_adjust by_name folder (on_files (λ fs. remove fs name)) tree n (is_eq-slice_cmp n folder ∙ apart)

  -- no container goes
  pub still_there : (n : List ℕ) → is_some (get new n) ≡ is_some (get tree n)
  still_there n = elim (same_key by_name n folder) [
    | inl e ↦ subst (λ m. is_some (get new m) ≡ is_some (get tree m)) (sym e) (ap is_some (at_adjust by_name folder (on_files (λ fs. remove fs name)) tree) ∙ some_still (λ fs. remove fs name) (get tree folder))
    | inr a ↦ ap is_some (off_adjust by_name folder (on_files (λ fs. remove fs name)) tree n a)
  ]

  deletes_one : Deletes folder (name ∷ []) tree new
  deletes_one = record {
    touches = record { others = off_folder; stays = still_there folder };
    left = ap files_of (at_adjust by_name folder (on_files (λ fs. remove fs name)) tree) ∙ files_by name (get tree folder);
  }

-- ---- why it may be

none_by : {X : Type 0} (o : Option X) → is_some o ≡ false → o ≡ None
none_by None e = refl
none_by (Some x) e = cc

module _ (tree : SwiftAccount) (folder bucket prefix name : List ℕ) (under : begins prefix name ≡ true) (sound : IsConsistent tree) (settled : IsSettled tree) where
  abbrev Goes : Type 0
  Goes = IsQuiet tree (DeleteObject folder name) × MayGo folder bucket prefix (swift_step (DeleteObject folder name) tree).tree

  -- the DELETE of a file under the prefix leaves the state, and what is left may still be deleted
  goes : MayGo folder bucket prefix tree → Goes
  goes (is_beside_none beside lacks) =
      let none : get tree bucket ≡ None = none_by (get tree bucket) (sym (s3_state_there tree bucket beside.of_bucket settled.none) ∙ ap is_some lacks) in
      let gone = side_file_gone tree bucket folder name beside none sound settled.none in
      (gone.0.quiet, is_beside_none beside (ap (λ s. get s bucket) gone.0.quiet.state ∙ lacks))
  goes (is_abandoned id is of_folder of_prefix there abandoned) =
      let gone = orphan_gone tree bucket id name is there abandoned (ap (λ p. begins p name) (sym of_prefix) ∙ under) sound settled.none in
      let here : IsQuiet tree (DeleteObject folder name) = subst (λ n. IsQuiet tree (DeleteObject n name)) (sym of_folder) gone.0 in
      let leaves = delete_leaves (find_object tree folder name) folder name tree refl in (
        here,
        is_abandoned id is of_folder of_prefix (ap (λ (x : SwiftAccount). is_some (get x bucket)) leaves ∙ still_there tree folder name bucket ∙ there)
            (subst (λ n. IsAbandoned (swift_step (DeleteObject n name) tree).tree bucket (id_digits id)) (sym of_folder) gone.1),
      )

  told : MayGo folder bucket prefix tree → TellsDeleted folder bucket prefix (name ∷ []) tree (swift_step (DeleteObject folder name) tree).tree tt
  told may = record {
    deletes = subst (Deletes folder (name ∷ []) tree) (sym (delete_leaves (find_object tree folder name) folder name tree refl)) (deletes_one tree folder name);
    settled = delete_settled tree folder name settled;
    may = (goes may).1;
  }

says_gone : (o : Option SwiftObject) (folder name : List ℕ) (tree : SwiftAccount) → gone_due (delete_object o folder name tree).reply ≡ Ok tt
says_gone None folder name tree = refl
says_gone (Some file) folder name tree = refl

deletes : (folder bucket prefix name : List ℕ) → begins prefix name ≡ true → IsQuietOf (MayDelete folder bucket prefix) (DeleteObject folder name) gone_due (TellsDeleted folder bucket prefix (name ∷ []))
deletes folder bucket prefix name under = record {
  effect = λ tree sound has.
      let quiet = (goes tree folder bucket prefix name under sound has.settled has.may).0 in
      record { told = tt; says = says_gone (find_object tree folder name) folder name tree; sound = quiet.sound; same = quiet.state; tells = told tree folder bucket prefix name under sound has.settled has.may };
  settled = λ tree settled. delete_settled tree folder name settled;
}

pub deletes_name : {folder name container named : List ℕ} → container ≡ folder → named ≡ name → (bucket prefix : List ℕ) → begins prefix name ≡ true
    → IsQuietOf (MayDelete folder bucket prefix) (DeleteObject container named) gone_due (TellsDeleted folder bucket prefix (name ∷ []))
deletes_name {folder = folder} {name = name} foldered is bucket prefix under =
    subst {A = List ℕ × List ℕ} (λ n. IsQuietOf (MayDelete folder bucket prefix) (DeleteObject n.0 n.1) gone_due (TellsDeleted folder bucket prefix (name ∷ []))) (λ i. (sym foldered i, sym is i)) (deletes folder bucket prefix name under)

-- ---- one after the other

pub touches_none : (folder : List ℕ) (tree : SwiftAccount) → Touches folder tree tree
touches_none folder tree = record { others = λ name apart. refl; stays = refl }

pub touches_trans : {folder : List ℕ} {a b c : SwiftAccount} → Touches folder a b → Touches folder b c → Touches folder a c
touches_trans first then = record { others = λ name apart. then.others name apart ∙ first.others name apart; stays = then.stays ∙ first.stays }

deleted_more : {folder bucket prefix : List ℕ} {names : List (List ℕ)} {name : List ℕ} {old new last : SwiftAccount} → TellsDeleted folder bucket prefix names old new tt → TellsDeleted folder bucket prefix (name ∷ []) new last tt
    → TellsDeleted folder bucket prefix (names ++ name ∷ []) old last tt
deleted_more {names = names} {name = name} {old = old} first then = record {
  deletes = record {
    touches = touches_trans first.deletes.touches then.deletes.touches;
    left = then.deletes.left ∙ ap (λ fs. remove fs name) first.deletes.left ∙ sym (without_more names name _);
  };
  settled = then.settled;
  may = then.may;
}

-- the files of these items were deleted
pub record Deleting (a b : History) (folder : List ℕ) (done : List NameItem) : Type 0 where
  pub asks : (bucket prefix : List ℕ) → list_all (begins prefix) (map name_in done) ≡ true
      → Asks (always (length done)) a b (MayDelete folder bucket prefix) (TellsDeleted folder bucket prefix (map name_in done)) (Ok tt)

deleting_no : (a : History) (folder : List ℕ) → Deleting a a folder []
deleting_no a folder = record {
  asks = λ bucket prefix under. record {
    grows = grows_none (always 0) (MayDelete folder bucket prefix) a;
    cause = refl;
    effect = λ met. (
      none_made refl met.sound,
      refl,
      record { deletes = record { touches = touches_none folder _; left = refl }; settled = met.has.settled; may = met.has.may },
    );
    settled = λ observable settled. settled;
  };
}

take_zero : (items : List NameItem) → take 0 items ≡ []
take_zero [] = refl
take_zero (item ∷ items) = refl

pub deleting_none : (a : History) (folder : List ℕ) (items : List NameItem) → Deleting a a folder (take 0 items)
deleting_none a folder items = subst (Deleting a a folder) (sym (take_zero items)) (deleting_no a folder)

-- what holds of each item holds of the one at a place
pub at_place : (p : List ℕ → Bool) (items : List NameItem) (i : ℕ) (item : NameItem) → i < length items → item ≡ get_or items i item → list_all p (map name_in items) ≡ true → p item.name ≡ true
at_place p [] i item within is all = absurd (omega (arith, within))
at_place p (x ∷ items) zero item within is all = ap (λ (y : NameItem). p y.name) is ∙ (and_parts (p x.name) (list_all p (map name_in items)) all).0
at_place p (x ∷ items) (suc i) item within is all = at_place p items i item (omega (arith, within)) is (and_parts (p x.name) (list_all p (map name_in items)) all).1

all_front : (p : List ℕ → Bool) (i : ℕ) (items : List NameItem) → list_all p (map name_in items) ≡ true → list_all p (map name_in (take i items)) ≡ true
all_front p zero [] all = refl
all_front p zero (x ∷ items) all = refl
all_front p (suc i) [] all = refl
all_front p (suc i) (x ∷ items) all = let a = and_parts (p x.name) (list_all p (map name_in items)) all in and_from _ _ a.0 (all_front p i items a.1)

length_front : (i : ℕ) (items : List NameItem) → i < length items → length (take i items) + 1 ≤ length items
length_front i [] within = absurd (omega (arith, within))
length_front zero (x ∷ items) within = omega arith
length_front (suc i) (x ∷ items) within = let less = length_front i items (omega (arith, within)) in omega (arith, less)

-- what the DELETE of one item tells
abbrev pub AsksOne : History → History → List ℕ → NameItem → Result (Unit {0}) PlanFault → Type 0
AsksOne b c folder item result = (bucket prefix : List ℕ) → begins prefix item.name ≡ true → Asks (always 1) b c (MayDelete folder bucket prefix) (TellsDeleted folder bucket prefix (item.name ∷ [])) result

module _ {a b : History} {folder : List ℕ} (items : List NameItem) (i : ℕ) (deleting : Deleting a b folder (take i items)) where
  module _ (item : NameItem) (within : i < length items) (is : item ≡ get_or items i item) where
    more : take (i + 1) items ≡ take i items ++ item ∷ []
    more = take_more items i item within ∙ ap (λ x. take i items ++ x ∷ []) (sym is)

    -- one more was
    one_more : {c : History} → AsksOne b c folder item (Ok tt) → Deleting a c folder (take i items ++ item ∷ [])
    one_more one = record {
      asks = λ bucket prefix under.
          let named : map name_in (take i items ++ item ∷ []) ≡ map name_in (take i items) ++ item.name ∷ [] = map-append name_in (take i items) (item ∷ []) in
          let parts = and_parts (list_all (begins prefix) (map name_in (take i items))) (list_all (begins prefix) (item.name ∷ [])) (sym (list_all-append (begins prefix) (map name_in (take i items)) (item.name ∷ [])) ∙ ap (list_all (begins prefix)) (sym named) ∙ under) in
          let this = (and_parts (begins prefix item.name) true parts.1).0 in
          asks_then (omega (arith, length-append (take i items) (item ∷ []))) (deleting.asks bucket prefix parts.0) (one bucket prefix this)
          (λ old new sound same has told. record { settled = told.settled; may = told.may })
          (λ old new last done sound has first then. subst (λ names. TellsDeleted folder bucket prefix names old last done) (sym named) (deleted_more first then));
    }

    pub deleting_more : {c : History} → AsksOne b c folder item (Ok tt) → Deleting a c folder (take (i + 1) items)
    deleting_more {c = c} one = subst (Deleting a c folder) (sym more) (one_more one)

    -- one wasn't told
    pub deleting_fault : {c : History} {f : PlanFault} → AsksOne b c folder item (Err f) → (result : Result (Unit {0}) PlanFault) → IsErrAnd result (λ e. e ≡ f) → (bucket prefix : List ℕ) → list_all (begins prefix) (map name_in items) ≡ true
        → Asks (always (length items)) a c (MayDelete folder bucket prefix) (TellsDeleted folder bucket prefix (map name_in items)) result
    deleting_fault {c = c} {f = f} one result gives bucket prefix under =
        subst (Asks (always (length items)) a c (MayDelete folder bucket prefix) (TellsDeleted folder bucket prefix (map name_in items))) (sym (err_is result f gives))
        (asks_then (length_front i items within) (deleting.asks bucket prefix (all_front (begins prefix) i items under))
        (asks_failed {R = λ old new done. ⊥} (omega arith) (one bucket prefix (at_place (begins prefix) items i item within is under)) (Err f) refl)
        (λ old new sound same has told. record { settled = told.settled; may = told.may })
        (λ old new last done sound has first never. absurd never))

  -- all were
  pub deleting_all : length items ≤ i → (bucket prefix : List ℕ) → list_all (begins prefix) (map name_in items) ≡ true
      → Asks (always (length items)) a b (MayDelete folder bucket prefix) (TellsDeleted folder bucket prefix (map name_in items)) (Ok tt)
  deleting_all far bucket prefix under = (subst (Deleting a b folder) (take_all i items far) deleting).asks bucket prefix under
