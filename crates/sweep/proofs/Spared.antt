-- What the sweep of containers leaves as it was: buckets, the gateway's own container, and the records beside buckets that are there.
-- So what is left over in a container that wasn't swept stays what it was.
use Rattle.std.specs.Prelude.{◌≡◌, ◌+◌, ◌*◌, ◌||◌, ℕ, Bool, true, false, not, List, length, is_some, Option, None, Some}
use Rattle.std.specs.List.{filter}
use Rattle.std.specs.FinMap.{entries, get, len}
use Rattle.std.proofs.Common.{refl, sym, ap, subst, ◌∙◌, inl, inr}
use Rattle.gate_base.proofs.lemmas.Maps.{by_name, same_key}
use Rattle.s3_names.specs.Bucket.{is_bucket}
use Rattle.swift_calls.specs.Account.{SwiftAccount, files, files_of}
use Rattle.upload_records.specs.Layout.{gateway_name, segments_name, uploads_name}
use Rattle.upload_records.specs.Native.{record_at}
use Rattle.upload_records.specs.Consistent.{IsThere}
use Rattle.upload_records.proofs.lemmas.Settled.{seal_holds}
use Rattle.account_calls.specs.Answers.{pages}
use Rattle.sweep.specs.declared.account.Swept.{Swept}
use Rattle.leftovers.specs.declared.sides.Kind.TheVariants.{Records, Segments}
use Rattle.sweep.specs.Containers.{calls_beside, calls_by_side, name_calls, IsSpared, SweepsName}
use Rattle.leftovers.specs.Gathering.{calls_a_file, gather_calls}
use Rattle.leftovers.specs.Leftovers.{all_if, id_in, is_listed_in, is_open, is_orphan, is_sealed_in, is_used, left_by, left_in, left_there, nothing_left, one_if}
use Rattle.leftovers.specs.Sides.{Side, beside_records, beside_segments, side_of}
use Rattle.leftovers.specs.Asking.{asking_calls}
use Rattle.leftovers.specs.Sweeping.{file_calls}
use Rattle.sweep.specs.Walk.{Spares}
use Rattle.leftovers.proofs.lemmas.Lists.{filter_alike}
use Rattle.sweep.proofs.SideNames.{bucket_no_side, bytes_apart, gateway_no_side, records_side, segments_side, uploads_have_side}

pub spares_none : (tree : SwiftAccount) → Spares tree tree
spares_none tree = record { each = λ name spared. refl }

module _ {old new : SwiftAccount} (spares : Spares old new) where
  pub bucket_spared : (b : List ℕ) → is_bucket b ≡ true → get new b ≡ get old b
  bucket_spared b is = spares.each b (subst (IsSpared old) (sym (bucket_no_side b is)) tt)

  pub gateway_spared : get new gateway_name ≡ get old gateway_name
  gateway_spared = spares.each gateway_name (subst (IsSpared old) (sym gateway_no_side) tt)

  pub uploads_spared : (b : List ℕ) → is_bucket b ≡ true → IsThere old b → get new (uploads_name b) ≡ get old (uploads_name b)
  uploads_spared b is there = spares.each (uploads_name b) (subst (IsSpared old) (sym (uploads_have_side b is)) there)

  pub still_spared : (name : List ℕ) → IsSpared old (side_of name) → IsSpared new (side_of name)
  still_spared name spared = by (side_of name) refl spared
    where
      by : (s : Option Side) → side_of name ≡ s → IsSpared old s → IsSpared new s
      by None e spared = tt
      by (Some (beside_records b)) e there = ap is_some (bucket_spared b (records_side name b e).0) ∙ there
      by (Some (beside_segments b)) e never = absurd never

  -- ---- a container that wasn't swept

  module _ (name : List ℕ) (same : get new name ≡ get old name) where
    -- the segments beside a bucket
    module _ (b : List ℕ) (is : is_bucket b ≡ true) (named : name ≡ segments_name b) where
      segments_same : get new (segments_name b) ≡ get old (segments_name b)
      segments_same = subst (λ n. get new n ≡ get old n) named same

      used_same : IsThere old b → (file : List ℕ) → is_used new b file ≡ is_used old b file
      used_same there file =
          let objects = bucket_spared b is in
          let records = uploads_spared b is there in
          let seal = seal_holds old new (ap files_of gateway_spared) in
          λ i. is_listed_in (files_of (objects i)) (files_of (segments_same i)) file || (is_open (record_at (files_of (records i)) (id_in file)) || is_sealed_in (seal i) b file)

      orphan_by : (t : Bool) → is_some (get old b) ≡ t → (file : List ℕ) → is_orphan new b file ≡ is_orphan old b file
      orphan_by true there file =
          let used = used_same there file in
          let bucket = bucket_spared b is in
          λ i. not (is_some (bucket i)) || not (used i)
      orphan_by false missing file =
          ap (λ t. not t || not (is_used new b file)) (ap is_some (bucket_spared b is) ∙ missing) ∙ sym (ap (λ t. not t || not (is_used old b file)) missing)

      orphans_same : length (filter (λ e. is_orphan new b e.0) (entries (files new name))) ≡ length (filter (λ e. is_orphan old b e.0) (entries (files old name)))
      orphans_same =
          ap length (filter_alike (λ e. is_orphan new b e.0) (λ e. is_orphan old b e.0) (λ e. orphan_by (is_some (get old b)) refl e.0) (entries (files new name)))
          ∙ ap (λ o. length (filter (λ e. is_orphan old b e.0) (entries (files_of o)))) same

    left_by_same : (s : Option Side) → side_of name ≡ s → left_there (is_some (get new name)) (left_by new name s) ≡ left_there (is_some (get old name)) (left_by old name s)
    left_by_same None e = ap (λ o. left_there (is_some o) nothing_left) same
    left_by_same (Some (beside_records b)) e =
        let bucket = bucket_spared b (records_side name b e).0 in
        λ i. left_there (is_some (same i)) (record {
          segments = 0;
          records = all_if (not (is_some (bucket i))) (length (entries (files_of (same i))));
          containers = one_if (not (is_some (bucket i)));
        })
    left_by_same (Some (beside_segments b)) e =
        let told = segments_side name b e in
        let bucket = bucket_spared b told.0 in
        let orphans = orphans_same b told.0 told.1 in
        λ i. left_there (is_some (same i)) (record { segments = orphans i; records = 0; containers = one_if (not (is_some (bucket i))) })

    -- has as much left over
    pub left_same : left_in new name ≡ left_in old name
    left_same = left_by_same (side_of name) refl

    -- and is swept by as many calls
    gather_same : (folder : List ℕ) → get new folder ≡ get old folder → gather_calls new folder ≡ gather_calls old folder
    gather_same folder e = ap (λ o. pages (len (files_of o)) + calls_a_file * len (files_of o)) e

    file_same : (folder : List ℕ) → get new folder ≡ get old folder → file_calls new folder ≡ file_calls old folder
    file_same folder e = ap (λ o. pages (len (files_of o)) + len (files_of o)) e

    asking_same : (folder : List ℕ) → get new folder ≡ get old folder → asking_calls new folder ≡ asking_calls old folder
    asking_same folder e = ap (λ o. pages (len (files_of o)) + 2 * len (files_of o)) e

    records_calls : (b : List ℕ) → name ≡ uploads_name b → (t : Bool) → calls_beside t new Records b ≡ calls_beside t old Records b
    records_calls b named true = refl
    records_calls b named false = ap (λ n. n + 1) (file_same (uploads_name b) (subst (λ n. get new n ≡ get old n) named same))

    segments_calls_same : (b : List ℕ) → is_bucket b ≡ true → name ≡ segments_name b → (t : Bool) → is_some (get old b) ≡ t → calls_beside t new Segments b ≡ calls_beside t old Segments b
    segments_calls_same b is named true there =
        let records = gather_same (uploads_name b) (uploads_spared b is there) in
        let objects = gather_same b (bucket_spared b is) in
        let asked = asking_same (segments_name b) (segments_same b is named) in
        let segments = file_same (segments_name b) (segments_same b is named) in
        λ i. records i + objects i + asked i + segments i
    segments_calls_same b is named false missing = ap (λ n. n + 1) (file_same (segments_name b) (segments_same b is named))

    calls_by_same : (s : Option Side) → side_of name ≡ s → calls_by_side new s ≡ calls_by_side old s
    calls_by_same None e = refl
    calls_by_same (Some (beside_records b)) e =
        let told = records_side name b e in
        ap (λ t. 1 + calls_beside t new Records b) (ap is_some (bucket_spared b told.0)) ∙ ap (λ n. 1 + n) (records_calls b told.1 (is_some (get old b)))
    calls_by_same (Some (beside_segments b)) e =
        let told = segments_side name b e in
        ap (λ t. 1 + calls_beside t new Segments b) (ap is_some (bucket_spared b told.0)) ∙ ap (λ n. 1 + n) (segments_calls_same b told.0 told.1 (is_some (get old b)) refl)

    pub calls_same : name_calls new name ≡ name_calls old name
    calls_same = calls_by_same (side_of name) refl

pub spares_then : {a b c : SwiftAccount} → Spares a b → Spares b c → Spares a c
spares_then first then = record { each = λ name spared. then.each name (still_spared first name spared) ∙ first.each name spared }

-- the sweep of one container
pub name_spares : (name : List ℕ) {old new : SwiftAccount} {swept : Swept} → SweepsName name old new swept → Spares old new
name_spares name {old = old} told = record {
  each = λ other spared. elim (same_key by_name other name) [
    | inl e ↦ ap (λ tree. get tree other) (told.spared (subst (λ n. IsSpared old (side_of n)) e spared))
    | inr apart ↦ told.others other (bytes_apart other name apart)
  ];
}
