-- The ids that the names of the records of a bucket write.
use Rattle.std.proofs.Common.{◌≡◌, ℕ, ◌≤◌, Bool, true, false, cond, List, [], ◌∷◌, ◌++◌, length, is_some, Option, None, Some, Result, Ok, Err, refl, ap, ◌∙◌, arith}
use Rattle.std.specs.Result.{IsErrAnd}
use Rattle.std.specs.List.{filter, list_all, AllByRecursion}
use Rattle.std.specs.Ordering.{is_lt}
use Rattle.std.specs.FinMap.{entries, len-entries}
use Rattle.std.proofs.lemmas.Bool.{and_from, and_parts}
use Rattle.std.proofs.lemmas.List.Folds.{list_all-map}
use Rattle.gate_base.specs.Maps.{name_cmp}
use Rattle.s3_names.specs.Bucket.{is_bucket}
use Rattle.s3_names.specs.Id.{id_of}
use Rattle.s3_names.proofs.lemmas.Ids.{id_reads_back}
use Rattle.s3_machine.specs.Items.{with_prefix}
use Rattle.swift_calls.specs.Account.{SwiftObject, SwiftAccount, files}
use Rattle.swift_calls.specs.History.{History, present}
use Rattle.upload_records.specs.Layout.{uploads_name}
use Rattle.upload_records.specs.Consistent.{IsConsistent, IsThere}
use Rattle.account_calls.specs.declared.fault.PlanFault.{PlanFault}
use Rattle.account_calls.specs.Answers.{pages, records_of}
use Rattle.account_calls.specs.Calls.{always, by_account, Asks, GivenOf}
use Rattle.account_calls.specs.FilePages.{item_at, rows_after, items_after}
use Rattle.account_calls.specs.Listing.{TellsOf}
use Rattle.account_calls.proofs.lemmas.Markers.{IsEntry, entries_are}
use Rattle.upload_calls.specs.Listing.{id_due, told_after, TellsIds, TellsNext}
use Rattle.upload_calls.specs.Records.{InBucket}
use Rattle.upload_calls.proofs.lemmas.PartWalk.{shorter}
use Rattle.upload_calls.proofs.lemmas.Taking.{Taking, taking_end, taking_fault, taking_none}

all_filter : {X : Type 0} (q p : X → Bool) (es : List X) → list_all q es ≡ true → list_all q (filter p es) ≡ true
all_filter q p [] h = refl
all_filter q p (e ∷ es) h =
    let a = and_parts (q e) (list_all q es) h in
    elim (p e) as (λ t. list_all q (cond t (e ∷ filter p es) (filter p es)) ≡ true) [
      | true ↦ and_from _ _ a.0 (all_filter q p es a.1)
      | false ↦ all_filter q p es a.1
    ]

-- ---- each name writes an id

module _ (bucket marker : List ℕ) (is : is_bucket bucket ≡ true) (tree : SwiftAccount) (sound : IsConsistent tree) (there : IsThere tree bucket) where
  names_are : (es : List (List ℕ × SwiftObject)) → AllByRecursion (IsEntry (files tree (uploads_name bucket))) es → list_all (λ e. is_some (id_of e.0)) es ≡ true
  names_are [] h = refl
  names_are (e ∷ es) h =
      let r = (sound.buckets bucket is there).of_records e.0 e.1 h.0 in
      and_from _ _ (ap (λ n. is_some (id_of n)) r.named ∙ ap is_some (id_reads_back r.id r.fits)) (names_are es h.1)

  pub all_ids : list_all (λ item. is_some (id_due item)) (items_after [] marker (files tree (uploads_name bucket))) ≡ true
  all_ids =
      let fs = files tree (uploads_name bucket) in
      list_all-map (λ item. is_some (id_due item)) item_at (rows_after [] marker fs)
      ∙ (all_filter (λ e. is_some (id_of e.0)) (λ e. is_lt (name_cmp marker e.0)) (with_prefix [] (entries fs))
      (all_filter (λ e. is_some (id_of e.0)) (λ e. true) (entries fs) (names_are (entries fs) (entries_are fs))))

-- ---- page by page

-- no more rows than records
pub rows_within : (tree : SwiftAccount) (bucket marker : List ℕ) → length (rows_after [] marker (files tree (uploads_name bucket))) ≤ records_of tree bucket
rows_within tree bucket marker =
    let fewer = shorter (λ e. is_lt (name_cmp marker e.0)) (with_prefix [] (entries (files tree (uploads_name bucket)))) in
    let few = shorter (λ e. true) (entries (files tree (uploads_name bucket))) in
    omega (arith, fewer, few, len-entries (files tree (uploads_name bucket)))

-- so far the ids are listed up to the marker
abbrev pub Counting : History → History → List ℕ → List ℕ → List ℕ → Type 0
Counting a b bucket last ids = Taking a b (InBucket bucket) id_due (uploads_name bucket) [] [] last ids

pub counting_none : (a : History) (bucket last ids : List ℕ) → last ≡ [] → ids ≡ [] → Counting a a bucket last ids
counting_none a bucket last ids begins none = taking_none a (InBucket bucket) id_due (uploads_name bucket) [] [] last ids begins none

module _ {a b : History} (bucket : List ℕ) {last ids : List ℕ} (walked : Counting a b bucket last ids) where
  -- the last page
  pub counting_end : {new : List ℕ} {c : History} {told : Option (List ℕ)} → Asks (always 1) b c (GivenOf (InBucket bucket)) (TellsOf (TellsNext id_due (uploads_name bucket) [] last ids new)) (Ok told) → told ≡ None
      → Asks (by_account (pages (records_of (present a) bucket))) a c (GivenOf (InBucket bucket)) (TellsOf (TellsIds bucket)) (Ok new)
  counting_end {new = new} {told = told} asks is =
      taking_end walked asks (TellsIds bucket) (records_of (present a) bucket) new (rows_within (present a) bucket [])
      (λ tree sound there tells all. last_told tree told is tells ∙ all)
    where
      last_told : (tree : SwiftAccount) (o : Option (List ℕ)) → o ≡ None → TellsNext id_due (uploads_name bucket) [] last ids new tree o → new ≡ ids ++ told_after id_due (uploads_name bucket) [] last tree
      last_told tree None is tells = tells
      last_told tree (Some next) is tells = cc

  -- a page that wasn't added
  pub counting_fault : {T : Type 0} {Q : SwiftAccount → T → Type 0} {c : History} {f : PlanFault} → Asks (always 1) b c (GivenOf (InBucket bucket)) (TellsOf Q) (Err f)
      → (result : Result (List ℕ) PlanFault) → IsErrAnd result (λ e. e ≡ f) → Asks (by_account (pages (records_of (present a) bucket))) a c (GivenOf (InBucket bucket)) (TellsOf (TellsIds bucket)) result
  counting_fault asks result is = taking_fault walked asks (TellsIds bucket) (records_of (present a) bucket) (rows_within (present a) bucket []) result is
