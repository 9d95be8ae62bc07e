-- Nothing but files of one container that pass a test goes, over every observable store and whatever comes of the calls.
use Rattle.std.specs.Prelude.{◌≡◌, ℕ, Option, None, Some, Bool, true, false, List, Result, Ok, Err}
use Rattle.std.specs.FinMap.{get}
use Rattle.std.proofs.Common.{refl, sym, ap, subst, ◌∙◌, inl, inr, true≢false}
use Rattle.std.proofs.Math.Nat.{le_refl}
use Rattle.std.proofs.lemmas.Map.Text.{is_eq-slice_cmp}
use Rattle.gate_base.proofs.lemmas.Maps.{by_name, apart, off_remove}
use Rattle.swift_calls.specs.Account.{SwiftAccount, SwiftContainer, files, find_object, remove_file}
use Rattle.swift_calls.specs.History.{History, present, Either, Called, Calls}
use Rattle.swift_calls.specs.Step.{delete_by, delete_container, is_bare, swift_step}
use Rattle.swift_calls.specs.declared.calls.SwiftFault.{SwiftFault}
use Rattle.swift_calls.specs.declared.calls.SwiftFault.TheVariants.{Failed, Memory}
use Rattle.swift_calls.specs.declared.calls.SwiftReply.{SwiftReply}
use Rattle.swift_calls.specs.declared.calls.SwiftRequest.{SwiftRequest}
use Rattle.swift_calls.specs.declared.calls.SwiftRequest.TheVariants.{DeleteContainer, DeleteObject}
use Rattle.upload_records.proofs.lemmas.Objects.{delete_leaves}
use Rattle.account_calls.specs.Calls.{GoesOn}
use Rattle.account_calls.specs.Told.{LeavesThroughout}
use Rattle.account_calls.proofs.lemmas.Left.{throughout_end}
use Rattle.leftovers.specs.Sweeping.{Spares, SparesThen}
use Rattle.leftovers.proofs.DeletesOne.{deletes_one}

pub spares_none : (folder : List ℕ) (test : List ℕ → Bool) (tree : SwiftAccount) → Spares folder test tree tree
spares_none folder test tree = record { others = λ name apart. refl; stays = λ name not. refl }

pub spares_then : {folder : List ℕ} {test : List ℕ → Bool} {a b c : SwiftAccount} → Spares folder test a b → Spares folder test b c → Spares folder test a c
spares_then first then = record { others = λ name apart. then.others name apart ∙ first.others name apart; stays = λ name not. then.stays name not ∙ first.stays name not }

-- one file that passes
removes : (folder name : List ℕ) (test : List ℕ → Bool) → test name ≡ true → (tree : SwiftAccount) → Spares folder test tree (remove_file folder name tree)
removes folder name test passes tree =
    let one = deletes_one tree folder name in
    record {
      others = one.touches.others;
      stays = λ n not. ap (λ fs. get fs n) one.left ∙ off_remove by_name (files tree folder) name n (apart by_name n name (λ e. true≢false (sym passes ∙ ap test (sym e) ∙ not)));
    }

module _ (folder : List ℕ) (test : List ℕ → Bool) (old new : History) (request : SwiftRequest) (steps : (tree : SwiftAccount) → Spares folder test tree (swift_step request tree).tree) where
  module _ (at : new.account_at old.called ≡ present old) where
    abbrev Spared : SwiftAccount → Type 0
    Spared tree = Spares folder test (present old) tree

    stepped : Spared (swift_step request (new.account_at old.called)).tree
    stepped = subst (λ tree. Spares folder test tree (swift_step request (new.account_at old.called)).tree) at (steps (new.account_at old.called))

    stood : Spared (new.account_at old.called)
    stood = subst Spared (sym at) (spares_none folder test (present old))

    by_effect : Either new old.called new.called request → Spared (present new)
    by_effect (inl same) = subst Spared (sym same) stood
    by_effect (inr done) = subst Spared (sym done) stepped

    by_result : (result : Result SwiftReply SwiftFault) → Called new old.called new.called request result → Spared (present new)
    by_result (Ok reply) called = subst Spared (sym called.tree) stepped
    by_result (Err Failed) (inl lost) = by_effect lost.either
    by_result (Err Failed) (inr spent) = subst Spared (sym (ap new.account_at spent.1)) stood
    by_result (Err Memory) (inl unread) = by_effect unread.either
    by_result (Err Memory) (inr same) = subst Spared (sym (ap new.account_at same)) stood

pub spares_file : {old new : History} {folder name container named : List ℕ} {result : Result SwiftReply SwiftFault} → container ≡ folder → named ≡ name → Calls old new (DeleteObject container named) result
    → (test : List ℕ → Bool) → test name ≡ true → SparesThen folder test old new
spares_file {old = old} {new = new} {folder = folder} {name = name} {container = container} {named = named} {result = result} foldered is calls test passes = record {
  so = λ observable. by_result folder test old new (DeleteObject container named) steps ((calls.kept observable).accounts old.called (le_refl old.called)) result (calls.effect observable);
}
  where
    step : (tree : SwiftAccount) → Spares folder test tree (swift_step (DeleteObject folder name) tree).tree
    step tree = subst (Spares folder test tree) (sym (delete_leaves (find_object tree folder name) folder name tree refl)) (removes folder name test passes tree)

    steps : (tree : SwiftAccount) → Spares folder test tree (swift_step (DeleteObject container named) tree).tree
    steps tree = subst {A = List ℕ × List ℕ} (λ n. Spares folder test tree (swift_step (DeleteObject n.0 n.1) tree).tree) (λ i. (sym foldered i, sym is i)) (step tree)

-- ---- some calls, and then others

pub spare_no : (folder : List ℕ) (test : List ℕ → Bool) (h : History) → SparesThen folder test h h
spare_no folder test h = record { so = λ observable. spares_none folder test (present h) }

pub spare_left : (folder : List ℕ) (test : List ℕ → Bool) {a b : History} → GoesOn a b → LeavesThroughout a b → SparesThen folder test a b
spare_left folder test {a = a} on leaves = record { so = λ observable. subst (Spares folder test (present a)) (sym (throughout_end on leaves observable)) (spares_none folder test (present a)) }

pub spare_then : {folder : List ℕ} {test : List ℕ → Bool} {a b c : History} → GoesOn a b → SparesThen folder test a b → SparesThen folder test b c → SparesThen folder test a c
spare_then on first then = record { so = λ observable. spares_then (first.so observable) (then.so (on.observable observable)) }

-- whatever of the container goes
pub spare_others : {folder : List ℕ} {test : List ℕ → Bool} {a b : History} → SparesThen folder test a b → SparesThen folder (λ n. true) a b
spare_others spares = record { so = λ observable. record { others = (spares.so observable).others; stays = λ name not. absurd (true≢false not) } }

-- the container itself goes, if it has no file
container_gone : (o : Option SwiftContainer) (folder : List ℕ) (tree : SwiftAccount) → Spares folder (λ n. true) tree (delete_container o folder tree).tree
container_gone None folder tree = spares_none folder (λ n. true) tree
container_gone (Some there) folder tree = by (is_bare there)
  where
    by : (bare : Bool) → Spares folder (λ n. true) tree (delete_by bare folder tree).tree
    by true = record { others = λ name off. off_remove by_name tree folder name (is_eq-slice_cmp name folder ∙ off); stays = λ name not. absurd (true≢false not) }
    by false = spares_none folder (λ n. true) tree

pub spares_container : {old new : History} {folder container : List ℕ} {result : Result SwiftReply SwiftFault} → container ≡ folder → Calls old new (DeleteContainer container) result → SparesThen folder (λ n. true) old new
spares_container {old = old} {new = new} {folder = folder} {container = container} {result = result} named calls = record {
  so = λ observable.
      by_result folder (λ n. true) old new (DeleteContainer container) (λ tree. subst (λ n. Spares folder (λ m. true) tree (swift_step (DeleteContainer n) tree).tree) (sym named) (container_gone (get tree folder) folder tree))
      ((calls.kept observable).accounts old.called (le_refl old.called)) result (calls.effect observable);
}
