-- The DELETE of a file beside a bucket, by why it may go.
use Rattle.std.specs.Prelude.{◌≡◌, ◌||◌, ℕ, Bool, true, false, not, bytes_eq, List, [], ◌∷◌, is_some, Option, None, Some, Ok}
use Rattle.std.specs.Option.{option_map}
use Rattle.std.specs.FinMap.{get, remove}
use Rattle.std.proofs.Common.{refl, sym, ap, subst, ◌∙◌, inl, inr, true≢false}
use Rattle.std.proofs.lemmas.Map.Text.{is_eq-slice_cmp}
use Rattle.gate_base.specs.Maps.{Names}
use Rattle.gate_base.proofs.lemmas.Maps.{by_name, apart, get_empty, same_key, at_adjust, off_adjust, off_remove, remove_missing}
use Rattle.s3_names.specs.Bucket.{is_bucket}
use Rattle.swift_calls.specs.Account.{SwiftObject, SwiftContainer, SwiftAccount, files, files_of, find_object, on_files, remove_file}
use Rattle.swift_calls.specs.Step.{swift_step, delete_object}
use Rattle.swift_calls.specs.declared.calls.SwiftRequest.TheVariants.{DeleteObject}
use Rattle.upload_records.specs.Layout.{segments_name, uploads_name}
use Rattle.upload_records.specs.Native.{IsSettled, record_at, seal_of}
use Rattle.upload_records.specs.Consistent.{IsConsistent, IsThere}
use Rattle.upload_records.specs.Laws.{IsQuiet}
use Rattle.upload_records.proofs.lemmas.Beside.{same_beside}
use Rattle.upload_records.proofs.lemmas.Objects.{delete_leaves}
use Rattle.upload_records.proofs.lemmas.Settled.{seal_same}
use Rattle.upload_records.proofs.lemmas.SideCalls.{delete_settled, side_file_gone}
use Rattle.account_calls.specs.Interpret.{gone_due}
use Rattle.account_calls.specs.Purging.{Deletes}
use Rattle.account_calls.proofs.lemmas.Quiet.{IsQuietOf}
use Rattle.leftovers.specs.Leftovers.{id_in, is_listed_in, is_open, is_sealed_in, is_used}
use Rattle.leftovers.specs.Sweeping.{MayDelete, MayGo, is_beside_none, is_unused, TellsDeleted}
use Rattle.leftovers.proofs.SubManifests.{or_false}
use Rattle.leftovers.proofs.Unused.{listed_alike}
use Rattle.leftovers.proofs.UnusedGone.{objects_new, records_new, segments_new, segment_beside, segment_off, unused_gone}

-- ---- what it touches

some_still : (g : Names SwiftObject → Names SwiftObject) (o : Option SwiftContainer) → is_some (option_map (on_files g) o) ≡ is_some o
some_still g None = refl
some_still g (Some folder) = refl

files_by : (name : List ℕ) (o : Option SwiftContainer) → files_of (option_map (on_files (λ fs. remove fs name)) o) ≡ remove (files_of o) name
files_by name None = sym (remove_missing by_name (files_of None) name (get_empty by_name name))
files_by name (Some folder) = refl

module _ (tree : SwiftAccount) (folder name : List ℕ) where
  abbrev new : SwiftAccount
  new = remove_file folder name tree

  off_folder : (n : List ℕ) → bytes_eq n folder ≡ false → get new n ≡ get tree n
  off_folder n apart = off_adjust by_name folder (on_files (λ fs. remove fs name)) tree n (is_eq-slice_cmp n folder ∙ apart)

  pub still_there : (n : List ℕ) → is_some (get new n) ≡ is_some (get tree n)
  still_there n = elim (same_key by_name n folder) [
    | inl e ↦ subst (λ m. is_some (get new m) ≡ is_some (get tree m)) (sym e) (ap is_some (at_adjust by_name folder (on_files (λ fs. remove fs name)) tree) ∙ some_still (λ fs. remove fs name) (get tree folder))
    | inr a ↦ ap is_some (off_adjust by_name folder (on_files (λ fs. remove fs name)) tree n a)
  ]

  pub deletes_one : Deletes folder (name ∷ []) tree new
  deletes_one = record {
    touches = record { others = off_folder; stays = still_there folder };
    left = ap files_of (at_adjust by_name folder (on_files (λ fs. remove fs name)) tree) ∙ files_by name (get tree folder);
  }

-- ---- what is used is used after it

-- where each segment that is listed stays, the same are used
pub used_alike : (tree new : SwiftAccount) (b name : List ℕ) → files new b ≡ files tree b → files new (uploads_name b) ≡ files tree (uploads_name b) → seal_of new ≡ seal_of tree
    → ((n : List ℕ) → is_listed_in (files tree b) (files tree (segments_name b)) n ≡ true → get (files new (segments_name b)) n ≡ get (files tree (segments_name b)) n)
    → is_used new b name ≡ is_used tree b name
used_alike tree new b name objects records seal same =
    (λ i. is_listed_in (objects i) (files new (segments_name b)) name || (is_open (record_at (records i) (id_in name)) || is_sealed_in (seal i) b name))
    ∙ ap (λ t. t || (is_open (record_at (files tree (uploads_name b)) (id_in name)) || is_sealed_in (seal_of tree) b name))
    (listed_alike (files tree b) (files tree (segments_name b)) (files new (segments_name b)) same name)

-- what is listed isn't the one that goes
listed_stays : (O S : Names SwiftObject) (name n : List ℕ) → is_listed_in O S name ≡ false → is_listed_in O S n ≡ true → get (remove S name) n ≡ get S n
listed_stays O S name n unlisted listed = off_remove by_name S name n (apart by_name n name (λ e. true≢false (sym listed ∙ ap (is_listed_in O S) e ∙ unlisted)))

-- ---- why it may go

not_false : (t s : Bool) → t ≡ true → t ≡ not s → s ≡ false
not_false t true is e = let no : true ≡ false = sym is ∙ e in cc
not_false t false is e = refl

module _ (tree : SwiftAccount) (folder bucket : List ℕ) (test : List ℕ → Bool) (name : List ℕ) (passes : test name ≡ true) (sound : IsConsistent tree) (settled : IsSettled tree) where
  abbrev leaves : (swift_step (DeleteObject folder name) tree).tree ≡ remove_file folder name tree
  leaves = delete_leaves (find_object tree folder name) folder name tree refl

  abbrev Goes : Type 0
  Goes = IsQuiet tree (DeleteObject folder name) × MayGo folder bucket test (swift_step (DeleteObject folder name) tree).tree

  unused_here : (is : is_bucket bucket ≡ true) (there : IsThere tree bucket) (unused : is_used tree bucket name ≡ false) → ((n : List ℕ) → test n ≡ not (is_used tree bucket n))
      → MayGo (segments_name bucket) bucket test (remove_file (segments_name bucket) name tree)
  unused_here is there unused all =
      let new : SwiftAccount = remove_file (segments_name bucket) name tree in
      let unlisted = (or_false _ _ unused).0 in
      let stays : (m : List ℕ) → is_listed_in (files tree bucket) (files tree (segments_name bucket)) m ≡ true → get (files new (segments_name bucket)) m ≡ get (files tree (segments_name bucket)) m =
      λ m listed. ap (λ fs. get fs m) (segments_new tree bucket name is there unused sound settled.none) ∙ listed_stays (files tree bucket) (files tree (segments_name bucket)) name m unlisted listed in
      is_unused is refl (still_there tree (segments_name bucket) name bucket ∙ there)
      (λ n. all n ∙ ap not (sym (used_alike tree new bucket n (objects_new tree bucket name is there unused sound settled.none) (records_new tree bucket name is there unused sound settled.none)
      (seal_same tree new (same_beside tree new bucket (segments_name bucket) (segment_beside tree bucket name is there unused sound settled.none) (segment_off tree bucket name is there unused sound settled.none)))
      stays)))

  goes : MayGo folder bucket test tree → Goes
  goes (is_beside_none beside none) = let gone = side_file_gone tree bucket folder name beside none sound settled.none in (gone.0.quiet, is_beside_none beside gone.1)
  goes (is_unused is of_folder there all) =
      let unused : is_used tree bucket name ≡ false = not_false (test name) (is_used tree bucket name) passes (all name) in (
        subst (λ n. IsQuiet tree (DeleteObject n name)) (sym of_folder) (unused_gone tree bucket name is there unused sound settled.none),
        subst (MayGo folder bucket test) (sym leaves) (subst (λ n. MayGo n bucket test (remove_file n name tree)) (sym of_folder) (unused_here is there unused all)),
      )

  told : MayGo folder bucket test tree → TellsDeleted folder bucket test (name ∷ []) tree (swift_step (DeleteObject folder name) tree).tree tt
  told may = record {
    deletes = subst (Deletes folder (name ∷ []) tree) (sym leaves) (deletes_one tree folder name);
    settled = delete_settled tree folder name settled;
    may = (goes may).1;
  }

says_gone : (o : Option SwiftObject) (folder name : List ℕ) (tree : SwiftAccount) → gone_due (delete_object o folder name tree).reply ≡ Ok tt
says_gone None folder name tree = refl
says_gone (Some file) folder name tree = refl

deletes : (folder bucket : List ℕ) (test : List ℕ → Bool) (name : List ℕ) → test name ≡ true → IsQuietOf (MayDelete folder bucket test) (DeleteObject folder name) gone_due (TellsDeleted folder bucket test (name ∷ []))
deletes folder bucket test name passes = record {
  effect = λ tree sound has.
      let quiet = (goes tree folder bucket test name passes sound has.settled has.may).0 in
      record { told = tt; says = says_gone (find_object tree folder name) folder name tree; sound = quiet.sound; same = quiet.state; tells = told tree folder bucket test name passes sound has.settled has.may };
  settled = λ tree settled. delete_settled tree folder name settled;
}

pub deletes_file : {folder name container named : List ℕ} → container ≡ folder → named ≡ name → (bucket : List ℕ) (test : List ℕ → Bool) → test name ≡ true
    → IsQuietOf (MayDelete folder bucket test) (DeleteObject container named) gone_due (TellsDeleted folder bucket test (name ∷ []))
deletes_file {folder = folder} {name = name} foldered is bucket test passes =
    subst {A = List ℕ × List ℕ} (λ n. IsQuietOf (MayDelete folder bucket test) (DeleteObject n.0 n.1) gone_due (TellsDeleted folder bucket test (name ∷ []))) (λ i. (sym foldered i, sym is i)) (deletes folder bucket test name passes)
