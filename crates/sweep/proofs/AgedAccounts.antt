-- What the forgetting leaves as it was: the containers, and what is left over in them.
use Rattle.std.specs.Prelude.{◌≡◌, ◌≤◌, ◌||◌, ◌&&◌, ℕ, Bool, true, false, not, cond, bytes_eq, is_some, sum_by, List, [], ◌∷◌, map, length, Option, None, Some}
use Rattle.std.specs.Option.{option_and_then}
use Rattle.std.specs.List.{filter, filter_map, list_any}
use Rattle.std.specs.Ordering.{eq_by_cmp}
use Rattle.std.specs.FinMap.{contains_key-keys, entries, get, keys, len}
use Rattle.std.proofs.Common.{refl, sym, ap, subst, ◌∙◌, arith}
use Rattle.std.proofs.lemmas.List.Sums.{sum_by-cons}
use Rattle.std.proofs.lemmas.Map.Text.{is_eq-slice_cmp}
use Rattle.gate_base.specs.Maps.{Names, name_cmp, pick_entry, picked}
use Rattle.gate_base.proofs.lemmas.Maps.{by_name, get-picked, name_antisymmetric, name_total, same_names}
use Rattle.s3_names.specs.Bucket.{is_bucket}
use Rattle.swift_calls.specs.Account.{SwiftAccount, files, files_of}
use Rattle.list_pages.proofs.lemmas.PickedEntries.{entries_picked}
use Rattle.upload_texts.specs.declared.record.Record.{Record}
use Rattle.upload_texts.specs.declared.record.Record.TheVariants.{Open, Done}
use Rattle.upload_records.specs.Layout.{gateway_name, segments_name, uploads_name}
use Rattle.upload_records.specs.Consistent.{IsThere}
use Rattle.upload_records.proofs.lemmas.Settled.{seal_holds}
use Rattle.upload_records.proofs.lemmas.Sides.{bucket_uploads, gateway_uploads, segments_uploads}
use Rattle.sweep.specs.Aging.{AgesAll, aged, dated, is_beside_one, is_in, is_old, record_beside}
use Rattle.sweep.specs.Forgetting.{is_undated}
use Rattle.leftovers.specs.Leftovers.{all_if, id_in, is_listed_in, is_missing, is_open, is_orphan, is_sealed_in, is_used, left_by, left_in, left_there, leftovers, one_if}
use Rattle.leftovers.specs.Sides.{Side, beside_records, beside_segments, is_uploads_of, side_of}
use Rattle.sweep.specs.Swept.{files_in}
use Rattle.sweep.proofs.AgesMany.{or_both}
use Rattle.sweep.proofs.AgingNames.{apart_eq, off_others}
use Rattle.leftovers.proofs.lemmas.Lists.{filter_alike}
use Rattle.sweep.proofs.SideNames.{records_side, segments_side}

-- ---- a record is open still, and has its moment

pub open_still : (before : ℕ) (told : Option Record) → is_open (aged before told) ≡ is_open told
open_still before None = refl
open_still before (Some (Open key content_type meta started)) = refl
open_still before (Some (Done key list etag started moment)) = by (is_old before (Some (Done key list etag started moment)))
  where
    by : (t : Bool) → is_open (cond t None (Some (dated (Done key list etag started moment)))) ≡ false
    by true = refl
    by false = refl

pub aged_dated : (before : ℕ) (told : Option Record) → is_undated (aged before told) ≡ false
aged_dated before None = refl
aged_dated before (Some (Open key content_type meta started)) = refl
aged_dated before (Some (Done key list etag started moment)) = by (is_old before (Some (Done key list etag started moment)))
  where
    by : (t : Bool) → is_undated (cond t None (Some (dated (Done key list etag started moment)))) ≡ false
    by true = refl
    by false = refl

-- ---- names

module _ {X : Type 0} where
  abbrev unit_of : List ℕ → X → Option (Unit {0})
  unit_of name x = Some tt

  abbrev with_unit : List ℕ × X → List ℕ × Unit {0}
  with_unit e = (e.0, tt)

  units_are : (es : List (List ℕ × X)) → filter_map (pick_entry unit_of) es ≡ map with_unit es
  units_are [] = refl
  units_are (e ∷ es) = ap (λ l. (e.0, tt) ∷ l) (units_are es)

  names_of : (es : List (List ℕ × X)) → map (λ (e : List ℕ × Unit {0}). e.0) (map with_unit es) ≡ map (λ e. e.0) es
  names_of [] = refl
  names_of (e ∷ es) = ap (λ l. e.0 ∷ l) (names_of es)

  entries_unit : (m : Names X) → entries (picked unit_of m) ≡ map with_unit (entries m)
  unfolding picked
  entries_unit m = entries_picked name_total name_antisymmetric unit_of m ∙ units_are (entries m)

  unit_by : (o : Option X) (q : List ℕ) → option_and_then (unit_of q) o ≡ cond (is_some o) (Some tt) None
  unit_by None q = refl
  unit_by (Some x) q = refl

  -- maps with the same names have the same keys
  pub keys_same : (m n : Names X) → ((q : List ℕ) → is_some (get m q) ≡ is_some (get n q)) → keys m ≡ keys n
  keys_same m n same =
      sym (names_of (entries m)) ∙ ap (map (λ (e : List ℕ × Unit {0}). e.0)) (sym (entries_unit m)
      ∙ ap entries (same_names (picked unit_of m) (picked unit_of n) (λ q.
      get-picked by_name unit_of m q ∙ unit_by (get m q) q ∙ ap (λ t. cond t (Some tt) None) (same q) ∙ sym (get-picked by_name unit_of n q ∙ unit_by (get n q) q)))
      ∙ entries_unit n) ∙ names_of (entries n)

in_same : (q : List ℕ) (names : List (List ℕ)) → list_any (eq_by_cmp name_cmp q) names ≡ is_in q names
in_same q [] = refl
in_same q (x ∷ names) = (λ i. is_eq-slice_cmp q x i || in_same q names i)

pub in_keys : {X : Type 0} (m : Names X) (q : List ℕ) → is_some (get m q) ≡ is_in q (keys m)
in_keys m q = contains_key-keys m q ∙ in_same q (keys m)

no_and : (s t : Bool) → (s ≡ true → t ≡ false) → (s && t) ≡ false
no_and true t out = out refl
no_and false t out = refl

off_all : (n : List ℕ) → ((b : List ℕ) → is_bucket b ≡ true → bytes_eq n (uploads_name b) ≡ false) → (xs : List (List ℕ)) → is_beside_one xs n ≡ false
off_all n apart [] = refl
off_all n apart (x ∷ xs) = or_both (is_uploads_of x n) (is_beside_one xs n) (no_and (is_bucket x) (bytes_eq n (uploads_name x)) (apart x)) (off_all n apart xs)

-- ---- the accounts

module _ {before : ℕ} {old new : SwiftAccount} (ages : AgesAll before (keys old) old new) where
  pub same_keys : keys new ≡ keys old
  same_keys = keys_same new old ages.stays

  bucket_same : (b : List ℕ) → is_bucket b ≡ true → get new b ≡ get old b
  bucket_same b is = ages.others b (off_all b (λ c is_c. apart_eq b (uploads_name c) (bucket_uploads b c is)) (keys old))

  segments_same : (b : List ℕ) → is_bucket b ≡ true → get new (segments_name b) ≡ get old (segments_name b)
  segments_same b is = ages.others (segments_name b) (off_all (segments_name b) (λ c is_c. apart_eq (segments_name b) (uploads_name c) (segments_uploads b c is is_c)) (keys old))

  gateway_same : get new gateway_name ≡ get old gateway_name
  gateway_same = ages.others gateway_name (off_all gateway_name (λ c is_c. apart_eq gateway_name (uploads_name c) (gateway_uploads c is_c)) (keys old))

  -- records beside a missing bucket stay
  missing_same : (b : List ℕ) → is_some (get old b) ≡ false → get new (uploads_name b) ≡ get old (uploads_name b)
  missing_same b missing = ages.others (uploads_name b) (off_others b (keys old) (sym (in_keys old b) ∙ missing))

  pub became_there : (b id : List ℕ) → is_bucket b ≡ true → IsThere old b → record_beside new b id ≡ aged before (record_beside old b id)
  became_there b id is there = ages.became b id is (sym (in_keys old b) ∙ there)

  pub there_before : (b : List ℕ) → IsThere new b → IsThere old b
  there_before b there = sym (ages.stays b) ∙ there

  module _ (b : List ℕ) (is : is_bucket b ≡ true) where
    used_same : IsThere old b → (file : List ℕ) → is_used new b file ≡ is_used old b file
    used_same there file =
        let objects = bucket_same b is in
        let segments = segments_same b is in
        let opened : is_open (record_beside new b (id_in file)) ≡ is_open (record_beside old b (id_in file)) = ap is_open (became_there b (id_in file) is there) ∙ open_still before (record_beside old b (id_in file)) in
        let seal = seal_holds old new (ap files_of gateway_same) in
        λ i. is_listed_in (files_of (objects i)) (files_of (segments i)) file || (opened i || is_sealed_in (seal i) b file)

    orphan_by : (t : Bool) → is_some (get old b) ≡ t → (file : List ℕ) → is_orphan new b file ≡ is_orphan old b file
    orphan_by true there file =
        let used = used_same there file in
        let bucket = bucket_same b is in
        λ i. not (is_some (bucket i)) || not (used i)
    orphan_by false missing file =
        ap (λ t. not t || not (is_used new b file)) (ap is_some (bucket_same b is) ∙ missing) ∙ sym (ap (λ t. not t || not (is_used old b file)) missing)

    orphans_same : length (filter (λ e. is_orphan new b e.0) (entries (files new (segments_name b)))) ≡ length (filter (λ e. is_orphan old b e.0) (entries (files old (segments_name b))))
    orphans_same =
        ap length (filter_alike (λ e. is_orphan new b e.0) (λ e. is_orphan old b e.0) (λ e. orphan_by (is_some (get old b)) refl e.0) (entries (files new (segments_name b))))
        ∙ ap (λ o. length (filter (λ e. is_orphan old b e.0) (entries (files_of o)))) (segments_same b is)

    -- records are left over where the bucket is missing, and then they stay
    records_by : (t : Bool) → is_some (get old b) ≡ t → all_if (is_missing new b) (length (entries (files new (uploads_name b)))) ≡ all_if (is_missing old b) (length (entries (files old (uploads_name b))))
    records_by true there =
        ap (λ t. all_if (not t) (length (entries (files new (uploads_name b))))) (ap is_some (bucket_same b is) ∙ there) ∙ sym (ap (λ t. all_if (not t) (length (entries (files old (uploads_name b))))) there)
    records_by false missing = let bucket = bucket_same b is in let stays = missing_same b missing in λ i. all_if (not (is_some (bucket i))) (length (entries (files_of (stays i))))

  left_by_same : (name : List ℕ) (s : Option Side) → side_of name ≡ s → left_by new name s ≡ left_by old name s
  left_by_same name None e = refl
  left_by_same name (Some (beside_records b)) e =
      let told = records_side name b e in
      let bucket = bucket_same b told.0 in
      let records : all_if (is_missing new b) (length (entries (files new name))) ≡ all_if (is_missing old b) (length (entries (files old name))) =
      subst (λ n. all_if (is_missing new b) (length (entries (files new n))) ≡ all_if (is_missing old b) (length (entries (files old n)))) (sym told.1) (records_by b told.0 (is_some (get old b)) refl) in
      λ i. record { segments = 0; records = records i; containers = one_if (not (is_some (bucket i))) }
  left_by_same name (Some (beside_segments b)) e =
      let told = segments_side name b e in
      let bucket = bucket_same b told.0 in
      let orphans : length (filter (λ x. is_orphan new b x.0) (entries (files new name))) ≡ length (filter (λ x. is_orphan old b x.0) (entries (files old name))) =
      subst (λ n. length (filter (λ x. is_orphan new b x.0) (entries (files new n))) ≡ length (filter (λ x. is_orphan old b x.0) (entries (files old n)))) (sym told.1) (orphans_same b told.0) in
      λ i. record { segments = orphans i; records = 0; containers = one_if (not (is_some (bucket i))) }

  pub left_same : (name : List ℕ) → left_in new name ≡ left_in old name
  left_same name = λ i. left_there (ages.stays name i) (left_by_same name (side_of name) refl i)

  pub leftovers_same : leftovers new ≡ leftovers old
  unfolding leftovers
  leftovers_same = λ i. record {
    segments = sum_by (λ name. (left_same name i).segments) (same_keys i);
    records = sum_by (λ name. (left_same name i).records) (same_keys i);
    containers = sum_by (λ name. (left_same name i).containers) (same_keys i);
  }

  fewer_in : (names : List (List ℕ)) → sum_by (λ name. len (files new name)) names ≤ sum_by (λ name. len (files old name)) names
  fewer_in [] = omega arith
  fewer_in (x ∷ names) =
      let one = ages.fewer x in
      let rest = fewer_in names in
      omega (arith, one, rest, sum_by-cons (λ name. len (files new name)) x names, sum_by-cons (λ name. len (files old name)) x names)

  pub files_fewer : files_in new ≤ files_in old
  files_fewer = let few = fewer_in (keys old) in let same = ap (sum_by (λ name. len (files new name))) same_keys in omega (arith, few, same)
