-- The sweep of the segments of a bucket that is there.
use Rattle.std.specs.Prelude.{◌≡◌, ◌≤◌, ◌+◌, ◌-◌, ◌||◌, ℕ, Bool, true, false, not, bytes_eq, List, [], map, length, is_some, Result, Ok, Err}
use Rattle.std.specs.Result.{IsErrAnd}
use Rattle.std.specs.List.{list_all}
use Rattle.std.specs.Ordering.{is_lt}
use Rattle.std.specs.FinMap.{entries, len-entries}
use Rattle.std.proofs.Common.{refl, sym, ap, subst, ◌∙◌, arith}
use Rattle.std.proofs.lemmas.Map.Text.{is_eq-slice_cmp}
use Rattle.gate_base.specs.Maps.{name_cmp}
use Rattle.s3_names.specs.Bucket.{is_bucket}
use Rattle.swift_calls.specs.Account.{SwiftAccount, files, files_of}
use Rattle.swift_calls.specs.History.{History, present}
use Rattle.upload_records.specs.Layout.{gateway_name, segments_name, uploads_name}
use Rattle.upload_records.specs.Consistent.{IsConsistent, IsThere}
use Rattle.upload_records.proofs.lemmas.Beside.{segments_there}
use Rattle.upload_records.proofs.lemmas.Settled.{seal_holds}
use Rattle.upload_records.proofs.lemmas.Sides.{bucket_segments, gateway_segments, uploads_segments}
use Rattle.account_calls.specs.declared.fault.PlanFault.{PlanFault}
use Rattle.account_calls.specs.Calls.{by_account, Asks}
use Rattle.account_calls.specs.Listing.{TellsOf}
use Rattle.account_calls.specs.Purging.{Touches}
use Rattle.account_calls.proofs.lemmas.Faults.{err_is}
use Rattle.account_calls.proofs.lemmas.Quiet.{asks_untold}
use Rattle.leftovers.proofs.lemmas.Readings.{asks_account}
use Rattle.account_calls.proofs.lemmas.Removal.{all_after_none}
use Rattle.account_calls.proofs.lemmas.Ask.{asks_told}
use Rattle.leftovers.specs.Asking.{asking_calls, HasUnused, TellsNothing}
use Rattle.leftovers.specs.Kept.{goes}
use Rattle.leftovers.specs.declared.kept.Kept.{Kept}
use Rattle.leftovers.specs.Leftovers.{id_in, is_listed_in, is_open, is_orphan, is_sealed_in, is_used}
use Rattle.upload_records.specs.Native.{record_at, seal_of}
use Rattle.leftovers.specs.Segments.{HasSettled, kept_calls, segments_calls, SweepsSegments, TellsKept}
use Rattle.leftovers.specs.Sweeping.{AllBehind, is_unused, MaySweep, TellsAll, OthersStay, sweep_calls, file_calls}
use Rattle.leftovers.proofs.DeletesOne.{used_alike}
use Rattle.leftovers.proofs.lemmas.Joined.{asks_counted, asks_then_by}
use Rattle.leftovers.proofs.NoneLeft.{none_length}
use Rattle.leftovers.proofs.PageSweep.{filter_few}
use Rattle.leftovers.proofs.lemmas.FileNames.{no_prefix}
use Rattle.leftovers.proofs.Removals.{all_filter, map_filter}
use Rattle.leftovers.proofs.lemmas.Lists.{filter_alike}

-- all files come after the empty marker
pub all_behind_none : (tree : SwiftAccount) (folder : List ℕ) (test : List ℕ → Bool) → IsConsistent tree → AllBehind [] test (files tree folder)
all_behind_none tree folder test sound =
    ap (list_all (λ name. is_lt (name_cmp [] name))) (map_filter test (entries (files tree folder)))
    ∙ all_filter (λ name. is_lt (name_cmp [] name)) test (map (λ e. e.0) (entries (files tree folder)))
    (ap (λ es. list_all (λ name. is_lt (name_cmp [] name)) (map (λ e. e.0) es)) (sym (no_prefix (entries (files tree folder)))) ∙ all_after_none tree folder [] sound)

orphan_is : (tree : SwiftAccount) (bucket name : List ℕ) → IsThere tree bucket → not (is_used tree bucket name) ≡ is_orphan tree bucket name
orphan_is tree bucket name there = ap (λ t. not t || not (is_used tree bucket name)) (sym there)

module _ (bucket : List ℕ) (kept : Kept) (is : is_bucket bucket ≡ true) where
  may_sweep : (tree : SwiftAccount) → IsConsistent tree → HasSettled bucket tree → TellsKept bucket tree kept → MaySweep (segments_name bucket) bucket (goes kept) [] tree
  may_sweep tree sound has told = record {
    settled = has.settled;
    there = segments_there tree bucket sound is has.there;
    may = is_unused is refl has.there told;
    behind = all_behind_none tree (segments_name bucket) (goes kept) sound;
  }

  off : (old new : SwiftAccount) → Touches (segments_name bucket) old new → (n : List ℕ) → bytes_eq n (segments_name bucket) ≡ false → files new n ≡ files old n
  off old new touches n apart = ap files_of (touches.others n apart)

  -- what is listed is kept
  listed_kept : (tree : SwiftAccount) (name : List ℕ) → TellsKept bucket tree kept → is_listed_in (files tree bucket) (files tree (segments_name bucket)) name ≡ true → goes kept name ≡ false
  listed_kept tree name told listed = told name ∙ ap (λ t. not (t || (is_open (record_at (files tree (uploads_name bucket)) (id_in name)) || is_sealed_in (seal_of tree) bucket name))) listed

  used_after : (old new : SwiftAccount) → Touches (segments_name bucket) old new → TellsKept bucket old kept → OthersStay (segments_name bucket) (goes kept) old new → (name : List ℕ) → is_used new bucket name ≡ is_used old bucket name
  used_after old new touches told stays name =
      used_alike old new bucket name
      (off old new touches bucket (sym (is_eq-slice_cmp bucket (segments_name bucket)) ∙ bucket_segments bucket bucket is))
      (off old new touches (uploads_name bucket) (sym (is_eq-slice_cmp (uploads_name bucket) (segments_name bucket)) ∙ uploads_segments bucket bucket is is))
      (seal_holds old new (off old new touches gateway_name (sym (is_eq-slice_cmp gateway_name (segments_name bucket)) ∙ gateway_segments bucket is)))
      (λ n listed. stays n (listed_kept old n told listed))

  there_after : (old new : SwiftAccount) → Touches (segments_name bucket) old new → IsThere old bucket → IsThere new bucket
  there_after old new touches there = ap is_some (touches.others bucket (sym (is_eq-slice_cmp bucket (segments_name bucket)) ∙ bucket_segments bucket bucket is)) ∙ there

  swept : (old new : SwiftAccount) (count : ℕ) → HasSettled bucket old → TellsKept bucket old kept → TellsAll (segments_name bucket) (goes kept) old new count → SweepsSegments bucket old new count
  swept old new count has told all = record {
    touches = all.touches;
    counted = all.counted ∙ ap length (filter_alike (λ e. goes kept e.0) (λ e. is_orphan old bucket e.0) (λ e. told e.0 ∙ orphan_is old bucket e.0 has.there) (entries (files old (segments_name bucket))));
    none =
        ap length (filter_alike (λ e. is_orphan new bucket e.0) (λ e. goes kept e.0)
        (λ e. sym (orphan_is new bucket e.0 (there_after old new all.touches has.there)) ∙ ap not (used_after old new all.touches told all.stays e.0) ∙ sym (told e.0)) (entries (files new (segments_name bucket))))
        ∙ none_length (goes kept) (files new (segments_name bucket)) all.none;
  }

  few : (tree : SwiftAccount) → sweep_calls tree (segments_name bucket) (goes kept) [] ≤ file_calls tree (segments_name bucket)
  few tree =
      let rows = filter_few (λ e. is_lt (name_cmp [] e.0)) (entries (files tree (segments_name bucket))) in
      let going = filter_few (λ e. goes kept e.0) (entries (files tree (segments_name bucket))) in
      omega (arith, rows, going, len-entries (files tree (segments_name bucket)))

  -- what is kept was had, and all that goes was asked for
  pub segments_asked : {a b c : History} {folder : List ℕ} → folder ≡ segments_name bucket
      → Asks (by_account (kept_calls (present a) bucket)) a b (HasSettled bucket) (TellsOf (TellsKept bucket)) (Ok kept)
      → Asks (by_account (asking_calls (present b) folder)) b c (HasUnused bucket (goes kept)) (TellsOf TellsNothing) (Ok tt)
      → Asks (by_account (kept_calls (present a) bucket + asking_calls (present a) (segments_name bucket))) a c (HasSettled bucket) (TellsOf (TellsKept bucket)) (Ok kept)
  segments_asked {a = a} {b = b} {c = c} named first then =
      asks_then_by first (asks_told {given' = HasUnused bucket (goes kept)} {Q = λ tree y. y ≡ kept} (λ tree has. has) kept (λ tree sound has told. refl) then)
      (λ old new sound alike has told. subst (HasUnused bucket (goes kept)) (sym told.same) (record { there = has.there; unused = told.of_account }))
      (λ old new last y sound has told next. record { of_account = subst (TellsKept bucket old) (sym next.of_account) told.of_account; same = next.same ∙ told.same })
      (λ met told. omega (arith, ap (asking_calls (present b)) named, ap (λ tree. asking_calls tree (segments_name bucket)) told.same))

  -- it wasn't
  pub segments_unasked : {a b c : History} {folder : List ℕ} {f : PlanFault} → folder ≡ segments_name bucket
      → Asks (by_account (kept_calls (present a) bucket)) a b (HasSettled bucket) (TellsOf (TellsKept bucket)) (Ok kept)
      → Asks (by_account (asking_calls (present b) folder)) b c (HasUnused bucket (goes kept)) (TellsOf TellsNothing) (Err f)
      → (result : Result ℕ PlanFault) → IsErrAnd result (λ e. e ≡ f) → Asks (by_account (segments_calls (present a) bucket)) a c (HasSettled bucket) (SweepsSegments bucket) result
  segments_unasked {a = a} {b = b} {c = c} {f = f} named first then result gives = subst (Asks (by_account (segments_calls (present a) bucket)) a c (HasSettled bucket) (SweepsSegments bucket)) (sym (err_is result f gives))
      (asks_then_by {Q = λ old new y. ⊥} first (asks_untold f then)
      (λ old new sound alike has told. subst (HasUnused bucket (goes kept)) (sym told.same) (record { there = has.there; unused = told.of_account }))
      (λ old new last y sound has told never. absurd never)
      (λ met told. omega (arith, ap (asking_calls (present b)) named, ap (λ tree. asking_calls tree (segments_name bucket)) told.same)))

  pub segments_swept : {a b c : History} {folder : List ℕ} → folder ≡ segments_name bucket
      → Asks (by_account (kept_calls (present a) bucket + asking_calls (present a) (segments_name bucket))) a b (HasSettled bucket) (TellsOf (TellsKept bucket)) (Ok kept)
      → (result : Result ℕ PlanFault) → Asks (by_account (sweep_calls (present b) folder (goes kept) [])) b c (MaySweep folder bucket (goes kept) []) (TellsAll folder (goes kept)) result
      → Asks (by_account (segments_calls (present a) bucket)) a c (HasSettled bucket) (SweepsSegments bucket) result
  segments_swept {a = a} {b = b} {c = c} named first result then =
      let here = subst (λ f. Asks (by_account (sweep_calls (present b) f (goes kept) [])) b c (MaySweep f bucket (goes kept) []) (TellsAll f (goes kept)) result) named then in
      asks_then_by first here
      (λ old new sound alike has told. subst (MaySweep (segments_name bucket) bucket (goes kept) []) (sym told.same) (may_sweep old sound has told.of_account))
      (λ old new last y sound has told all. swept old last y has told.of_account (subst (λ tree. TellsAll (segments_name bucket) (goes kept) tree last y) told.same all))
      (λ met told. let near = few (present b) in omega (arith, near, ap (λ tree. file_calls tree (segments_name bucket)) told.same))

-- what is kept wasn't had
pub segments_unkept : {a b : History} {bucket : List ℕ} {f : PlanFault} → Asks (by_account (kept_calls (present a) bucket)) a b (HasSettled bucket) (TellsOf (TellsKept bucket)) (Err f) → (result : Result ℕ PlanFault) → IsErrAnd result (λ e. e ≡ f)
    → Asks (by_account (segments_calls (present a) bucket)) a b (HasSettled bucket) (SweepsSegments bucket) result
segments_unkept {a = a} {b = b} {bucket = bucket} {f = f} asks result gives = subst (Asks (by_account (segments_calls (present a) bucket)) a b (HasSettled bucket) (SweepsSegments bucket)) (sym (err_is result f gives))
    (asks_account {n = b.called - a.called} (λ met. let near = asks.grows.calls met in let order = asks.grows.on.ordered in omega (arith, near, order)) (asks_counted (asks_untold f asks)))
