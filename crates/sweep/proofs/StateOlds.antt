-- The old completions of the S3 state are those of the records beside the buckets, in the same order.
use Rattle.std.specs.Prelude.{◌≡◌, ℕ, suc, nat_lt, Bool, true, false, cond, sum_by, List, [], ◌∷◌, ◌++◌, map, flat_map, length, Option, None, Some}
use Rattle.std.specs.Option.{option_and_then, option_map, unwrap_or}
use Rattle.std.specs.List.{AllByRecursion, cons_option, filter, filter_map}
use Rattle.std.specs.FinMap.{entries, keys}
use Rattle.std.proofs.Common.{refl, sym, ap, ◌∙◌}
use Rattle.std.proofs.lemmas.List.Concat.{flat_map-cons}
use Rattle.gate_base.specs.Maps.{Names, pick_entry, picked}
use Rattle.gate_base.proofs.lemmas.Maps.{name_antisymmetric, name_total}
use Rattle.s3_names.specs.Bucket.{is_bucket}
use Rattle.s3_machine.specs.State.{Bucket, Completion}
use Rattle.swift_calls.specs.Account.{SwiftAccount, SwiftContainer, SwiftObject, files}
use Rattle.list_pages.proofs.lemmas.PickedEntries.{entries_picked}
use Rattle.upload_texts.specs.declared.record.Record.{Record}
use Rattle.upload_texts.specs.declared.record.Record.TheVariants.{Open, Done}
use Rattle.upload_records.specs.Layout.{segments_name, uploads_name}
use Rattle.upload_records.specs.Native.{IsSettled, bucket_from, bucket_of, kept_by, kept_of, plain, record_at, record_of, s3_state}
use Rattle.upload_records.proofs.lemmas.Settled.{s3_state_unsealed, unsealed_of}
use Rattle.account_calls.proofs.lemmas.Markers.{IsEntry, entries_are}
use Rattle.sweep.specs.Aging.{is_old, old_beside, old_of, undated_of}
use Rattle.sweep.specs.Forgetting.{all_old, count_records, is_older, is_undated_since, old_in, undated_left}
use Rattle.sweep.proofs.AgesOne.{pair_with}
use Rattle.sweep.proofs.ForgetCalls.{Pairs}

module _ (before : ℕ) (bucket : List ℕ) (R : Names SwiftObject) where
  abbrev paired : List (List ℕ × Completion) → Pairs
  paired kept = map (λ (k : List ℕ × Completion). pair_with bucket k.0) (filter (λ (k : List ℕ × Completion). is_older before k.1) kept)

  abbrev named : List (List ℕ) → Pairs
  named ids = map (pair_with bucket) (filter (λ id. is_old before (record_at R id)) ids)

  -- one entry, by its record
  one_by : (id : List ℕ) (told : Option Record) (kept : List (List ℕ × Completion)) (ids : List (List ℕ)) → paired kept ≡ named ids
      → paired (cons_option (option_map (λ (y : Completion). (id, y)) (kept_by told)) kept) ≡ cond (is_old before told) (pair_with bucket id ∷ named ids) (named ids)
  one_by id None kept ids rest = rest
  one_by id (Some (Open key content_type meta started)) kept ids rest = rest
  one_by id (Some (Done key list etag started moment)) kept ids rest =
      let made : Completion = record { key = key; list = list; etag = etag; started = started; moment = unwrap_or moment started } in
      elim (nat_lt (unwrap_or moment started) before) as (λ t. map (λ (k : List ℕ × Completion). pair_with bucket k.0) (cond t ((id, made) ∷ filter (λ (k : List ℕ × Completion). is_older before k.1) kept) (filter (λ (k : List ℕ × Completion). is_older before k.1) kept)) ≡ cond t (pair_with bucket id ∷ named ids) (named ids)) [
        | true ↦ ap (λ l. pair_with bucket id ∷ l) rest
        | false ↦ rest
      ]

  cond_map : (t : Bool) (id : List ℕ) (ids : List (List ℕ)) → cond t (pair_with bucket id ∷ map (pair_with bucket) ids) (map (pair_with bucket) ids) ≡ map (pair_with bucket) (cond t (id ∷ ids) ids)
  cond_map true id ids = refl
  cond_map false id ids = refl

  kept_are : (es : List (List ℕ × SwiftObject)) → AllByRecursion (IsEntry R) es → paired (filter_map (pick_entry kept_of) es) ≡ named (map (λ e. e.0) es)
  kept_are [] h = refl
  kept_are (e ∷ es) h =
      let told : record_at R e.0 ≡ record_of e.1 = ap (option_and_then record_of) h.0 in
      one_by e.0 (record_of e.1) (filter_map (pick_entry kept_of) es) (map (λ x. x.0) es) (kept_are es h.1)
      ∙ ap (λ o. cond (is_old before o) (pair_with bucket e.0 ∷ named (map (λ x. x.0) es)) (named (map (λ x. x.0) es))) (sym told)
      ∙ cond_map (is_old before (record_at R e.0)) e.0 (filter (λ id. is_old before (record_at R id)) (map (λ x. x.0) es))

  pub old_are : (S : Names SwiftObject) (folder : SwiftContainer) → old_in before (bucket, bucket_from R S folder) ≡ named (keys R)
  unfolding picked
  old_are S folder = ap paired (entries_picked name_total name_antisymmetric kept_of R) ∙ kept_are (entries R) (entries_are R)

module _ (before : ℕ) (tree : SwiftAccount) where
  abbrev of_bucket : List ℕ → Pairs
  of_bucket bucket = old_beside before bucket tree

  buckets_are : (es : List (List ℕ × SwiftContainer)) → flat_map (old_in before) (filter_map (pick_entry (bucket_of tree)) es) ≡ flat_map of_bucket (filter is_bucket (map (λ e. e.0) es))
  buckets_are [] = refl
  buckets_are (e ∷ es) =
      let made : Bucket = bucket_from (files tree (uploads_name e.0)) (files tree (segments_name e.0)) e.1 in
      let rest : List (List ℕ × Bucket) = filter_map (pick_entry (bucket_of tree)) es in
      let names : List (List ℕ) = filter is_bucket (map (λ x. x.0) es) in
      elim (is_bucket e.0) as (λ t. flat_map (old_in before) (cons_option (option_map (λ (b : Bucket). (e.0, b)) (cond t (Some made) None)) rest) ≡ flat_map of_bucket (cond t (e.0 ∷ names) names)) [
        | true ↦ flat_map-cons (old_in before) (e.0, made) rest ∙ (λ i. old_are before e.0 (files tree (uploads_name e.0)) (files tree (segments_name e.0)) e.1 i ++ buckets_are es i) ∙ sym (flat_map-cons of_bucket e.0 names)
        | false ↦ buckets_are es
      ]

  pub olds_are : IsSettled tree → all_old before (s3_state tree) ≡ old_of before (keys tree) tree
  unfolding plain picked
  olds_are settled =
      ap (all_old before) (s3_state_unsealed tree (unsealed_of settled)) ∙ ap (flat_map (old_in before)) (entries_picked name_total name_antisymmetric (bucket_of tree) tree) ∙ buckets_are (entries tree)

-- ---- those that lack their moment

module _ (test : Option Record → Bool) (R : Names SwiftObject) where
  counted : (es : List (List ℕ × SwiftObject)) → AllByRecursion (IsEntry R) es → length (filter (λ (e : List ℕ × SwiftObject). test (record_of e.1)) es) ≡ length (filter (λ id. test (record_at R id)) (map (λ e. e.0) es))
  counted [] h = refl
  counted (e ∷ es) h =
      let same : test (record_of e.1) ≡ test (record_at R e.0) = sym (ap (λ o. test (option_and_then record_of o)) h.0) in
      ap (λ t. length (cond t (e ∷ filter (λ (x : List ℕ × SwiftObject). test (record_of x.1)) es) (filter (λ (x : List ℕ × SwiftObject). test (record_of x.1)) es))) same
      ∙ by (test (record_at R e.0)) (counted es h.1)
    where
      by : (t : Bool) → length (filter (λ (x : List ℕ × SwiftObject). test (record_of x.1)) es) ≡ length (filter (λ id. test (record_at R id)) (map (λ x. x.0) es))
          → length (cond t (e ∷ filter (λ (x : List ℕ × SwiftObject). test (record_of x.1)) es) (filter (λ (x : List ℕ × SwiftObject). test (record_of x.1)) es))
          ≡ length (cond t (e.0 ∷ filter (λ id. test (record_at R id)) (map (λ x. x.0) es)) (filter (λ id. test (record_at R id)) (map (λ x. x.0) es)))
      by true rest = ap suc rest
      by false rest = rest

  pub count_is : count_records test R ≡ length (filter (λ id. test (record_at R id)) (keys R))
  count_is = counted (entries R) (entries_are R)

pub undated_are : (before : ℕ) (tree : SwiftAccount) → undated_left before tree ≡ undated_of before (keys tree) tree
undated_are before tree = λ i. sum_by (λ bucket. count_is (is_undated_since before) (files tree (uploads_name bucket)) i) (filter is_bucket (keys tree))
