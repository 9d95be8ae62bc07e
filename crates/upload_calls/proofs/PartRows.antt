-- The segments of an upload, over a consistent account on which the bucket is there: each is the part of a number.
use Rattle.std.proofs.Common.{◌≡◌, ℕ, ◌≤◌, Bool, true, false, cond, ◌==◌, nat_lt, T, List, [], ◌∷◌, ◌++◌, map, length, take, is_some, Option, Some, None, refl, sym, ap, subst, ◌∙◌, inl, inr, arith, append_assoc, eq-eqb}
use Rattle.std.specs.List.{filter, filter_map, cons_option, list_all, AllByRecursion}
use Rattle.std.specs.Option.{option_and_then}
use Rattle.std.specs.Ordering.{is_lt, is_eq, eq_by_cmp, nat_cmp}
use Rattle.std.specs.declared.cmp.Ordering.{Ordering}
use Rattle.std.specs.declared.cmp.Ordering.TheVariants.{Less, Equal, Greater}
use Rattle.std.specs.FinMap.{entries, entries_sorted, find, get, get-entries, is_sorted}
use Rattle.std.specs.FinMap.Entries.{below_all, find-where_key, same_entries}
use Rattle.std.proofs.lemmas.Bool.{and_from, cases_lt}
use Rattle.std.proofs.lemmas.Bool.Decides.{nat_tests}
use Rattle.std.proofs.lemmas.Option.{none-some}
use Rattle.std.proofs.Math.Seq.{take-append_seam}
use Rattle.gate_base.specs.Maps.{Names, name_cmp}
use Rattle.gate_base.proofs.lemmas.Maps.{name_antisymmetric, number_total, number_antisymmetric, table_zero, table_above, table_within}
use Rattle.s3_names.specs.Bucket.{is_bucket}
use Rattle.s3_names.specs.Id.{id_digits}
use Rattle.s3_names.proofs.lemmas.Ids.{length-id_digits}
use Rattle.s3_machine.specs.Items.{begins, behind, with_prefix}
use Rattle.s3_machine.specs.State.{Part}
use Rattle.s3_machine.specs.Uploads.{greatest_part, part_item, IsPartNumber}
use Rattle.s3_machine.specs.declared.items.PartItem.{PartItem}
use Rattle.swift_calls.specs.Account.{SwiftObject, SwiftAccount, files, size_of}
use Rattle.swift_calls.specs.Bodies.{plain_bytes}
use Rattle.swift_calls.specs.declared.heads.NameItem.{NameItem}
use Rattle.swift_marks.proofs.lemmas.Stamps.{tag_has_stamp}
use Rattle.upload_records.specs.Layout.{five_digits, segments_name, segments_prefix, segment_name, sub_manifest_name}
use Rattle.upload_records.specs.Native.{part_by, part_of, part_at, parts_of}
use Rattle.upload_records.specs.Consistent.{IsConsistent, IsPart, IsSegment, is_part, is_sub_manifest}
use Rattle.upload_records.specs.Laws.{part_in}
use Rattle.list_pages.proofs.lemmas.Pages.{parts}
use Rattle.list_pages.proofs.lemmas.Rising.{begins_cut}
use Rattle.list_pages.proofs.lemmas.Sorted.{both, sorted_filter}
use Rattle.account_calls.specs.FilePages.{item_at, items_after}
use Rattle.account_calls.proofs.lemmas.Markers.{IsEntry, entries_are}
use Rattle.upload_calls.specs.Listing.{number_in, part_due, part_from}
use Rattle.upload_calls.specs.Records.{HasPartsAlone, items_above}
use Rattle.upload_calls.proofs.Digits.{name_is, number_read, segments_order}

abbrev parts_due : List ℕ → List NameItem → List PartItem
parts_due prefix items = filter_map (part_due prefix) items

-- ---- a segment

abbrev IsUnder : List ℕ → List ℕ × SwiftObject → Type 0
IsUnder prefix e = begins prefix e.0 ≡ true

-- a file whose name is that of the part of a number
pub record PartRow (id : List ℕ) (e : List ℕ × SwiftObject) : Type 0 where
  pub number : ℕ
  pub part : Part
  pub counted : IsPartNumber number
  pub named : e.0 ≡ segment_name id number
  pub is : part_of e.1 ≡ Some part
  pub told : part_due (segments_prefix id) (item_at e) ≡ Some (part_item (number, part))

-- two names of parts of which one begins as the other are of one upload
same_ids : (i j : ℕ) (n : ℕ) (v : List ℕ) → segment_name (id_digits j) n ≡ segments_prefix (id_digits i) ++ v → id_digits j ≡ id_digits i
unfolding segment_name segments_prefix
same_ids i j n v e =
    let a = id_digits i in
    let b = id_digits j in
    let long_a = length-id_digits i in
    let long_b = length-id_digits j in
    sym (take-append_seam b (47 ∷ five_digits n)) ∙ ap (λ k. take k (b ++ 47 ∷ five_digits n)) (long_b ∙ sym long_a)
    ∙ ap (take (length a)) (e ∙ append_assoc a (47 ∷ []) v) ∙ take-append_seam a (47 ∷ v)

begins_own : (front rest : List ℕ) → begins front (front ++ rest) ≡ true
begins_own [] rest = refl
begins_own (b ∷ front) rest = and_from _ _ (eq-eqb b b refl) (begins_own front rest)

less_is : (a b : ℕ) → is_lt (nat_cmp a b) ≡ nat_lt a b
less_is a b = elim (nat_lt a b) as (λ t. is_lt (cond t Less (cond (a == b) Equal Greater)) ≡ t) [ true ↦ refl | false ↦ elim (a == b) as (λ t. is_lt (cond t Equal Greater) ≡ false) [ true ↦ refl | false ↦ refl ] ]

small : (number : ℕ) → IsPartNumber number → number ≤ 99999
unfolding greatest_part
small number counted = let within = counted.within in omega (arith, within)

module _ (i : ℕ) (e : List ℕ × SwiftObject) where
  part_told : (part : IsPart e.0 e.1) → e.0 ≡ segment_name (id_digits i) part.number → part_due (segments_prefix (id_digits i)) (item_at e) ≡ Some (part_item (part.number, part_in part))
  unfolding part_due
  part_told part named =
      let number : number_in (segments_prefix (id_digits i)) e.0 ≡ Some part.number = ap (number_in (segments_prefix (id_digits i))) named ∙ number_read (id_digits i) part.number (small part.number part.counted) in
      λ k. part_from (number k) (tag_has_stamp e.1.content_type _ part.tagged k) (size_of (part.own k))

  part_row : IsPart e.0 e.1 → IsUnder (segments_prefix (id_digits i)) e → PartRow (id_digits i) e
  part_row part under =
      let cut = begins_cut (segments_prefix (id_digits i)) e.0 under in
      let same : id_digits part.id ≡ id_digits i = same_ids i part.id part.number cut.0 (sym part.named ∙ cut.1) in
      let named : e.0 ≡ segment_name (id_digits i) part.number = part.named ∙ ap (λ d. segment_name d part.number) same in
      record {
        number = part.number;
        part = part_in part;
        counted = part.counted;
        named = named;
        is = λ k. part_by (part.tagged k) (plain_bytes (part.own k));
        told = part_told part named;
      }

-- a sub-manifest that begins as a part does is of the same upload
sub_ids : (i j : ℕ) (n : ℕ) (v : List ℕ) → sub_manifest_name (id_digits j) n ≡ segments_prefix (id_digits i) ++ v → id_digits j ≡ id_digits i
unfolding sub_manifest_name segments_prefix
sub_ids i j n v e =
    let a = id_digits i in
    let b = id_digits j in
    let long_a = length-id_digits i in
    let long_b = length-id_digits j in
    sym (take-append_seam b (47 ∷ (109 ∷ five_digits n))) ∙ ap (λ k. take k (b ++ 47 ∷ (109 ∷ five_digits n))) (long_b ∙ sym long_a)
    ∙ ap (take (length a)) (e ∙ append_assoc a (47 ∷ []) v) ∙ take-append_seam a (47 ∷ v)

segment_row : (segments : Names SwiftObject) (i : ℕ) (e : List ℕ × SwiftObject) → ((number : ℕ) → get segments (sub_manifest_name (id_digits i) number) ≡ None) → get segments e.0 ≡ Some e.1
    → IsSegment e.0 e.1 → IsUnder (segments_prefix (id_digits i)) e → PartRow (id_digits i) e
segment_row segments i e none found (is_part part) under = part_row i e part under
segment_row segments i e none found (is_sub_manifest sub) under =
    let cut = begins_cut (segments_prefix (id_digits i)) e.0 under in
    let same : id_digits sub.id ≡ id_digits i = sub_ids i sub.id sub.number cut.0 (sym sub.named ∙ cut.1) in
    absurd (none-some e.1 (sym (none sub.number) ∙ ap (get segments) (ap (λ d. sub_manifest_name d sub.number) (sym same) ∙ sym sub.named) ∙ found))

-- ---- all of them

module _ (tree : SwiftAccount) (bucket : List ℕ) (i : ℕ) (is : is_bucket bucket ≡ true) (sound : IsConsistent tree) (has : HasPartsAlone bucket i tree) where
  abbrev segments : Names SwiftObject
  segments = files tree (segments_name bucket)

  abbrev id : List ℕ
  id = id_digits i

  abbrev prefix : List ℕ
  prefix = segments_prefix (id_digits i)

  abbrev keyed : List (List ℕ × SwiftObject)
  keyed = with_prefix prefix (entries segments)

  rows_of : (es : List (List ℕ × SwiftObject)) → AllByRecursion (IsEntry segments) es → AllByRecursion (PartRow id) (with_prefix prefix es)
  rows_of [] h = tt
  rows_of (e ∷ es) h =
      elim (begins prefix e.0) as (λ t. begins prefix e.0 ≡ t → AllByRecursion (PartRow id) (cond t (e ∷ with_prefix prefix es) (with_prefix prefix es))) [
        | true ↦ λ under. (segment_row segments i e has.unlisted h.0 ((sound.buckets bucket is has.there).of_segments e.0 e.1 h.0) under, rows_of es h.1)
        | false ↦ λ under. rows_of es h.1
      ] refl

  pub part_rows : AllByRecursion (PartRow id) keyed
  part_rows = rows_of (entries segments) (entries_are segments)

  keyed_sorted : T (is_sorted name_cmp keyed)
  keyed_sorted = sorted_filter (λ e. begins prefix e.0) (entries segments) (entries_sorted segments)

  -- ---- by their numbers

  numbered : (es : List (List ℕ × SwiftObject)) → AllByRecursion (PartRow id) es → List (ℕ × Part)
  numbered [] h = []
  numbered (e ∷ es) h = (h.0.number, h.0.part) ∷ numbered es h.1

  order : (e f : List ℕ × SwiftObject) (a : PartRow id e) (b : PartRow id f) → name_cmp e.0 f.0 ≡ nat_cmp a.number b.number
  order e f a b = (λ k. name_cmp (a.named k) (b.named k)) ∙ segments_order id a.number b.number

  below_numbers : (e : List ℕ × SwiftObject) (a : PartRow id e) (es : List (List ℕ × SwiftObject)) (h : AllByRecursion (PartRow id) es) → T (below_all name_cmp e.0 es) → T (below_all nat_cmp a.number (numbered es h))
  unfolding numbered
  below_numbers e a [] h below = tt
  below_numbers e a (f ∷ es) h below =
      let b = parts (is_lt (name_cmp e.0 f.0)) (below_all name_cmp e.0 es) below in
      both (is_lt (nat_cmp a.number h.0.number)) (below_all nat_cmp a.number (numbered es h.1)) (subst (λ o. T (is_lt o)) (order e f a h.0) b.0) (below_numbers e a es h.1 b.1)

  sorted_numbers : (es : List (List ℕ × SwiftObject)) (h : AllByRecursion (PartRow id) es) → T (is_sorted name_cmp es) → T (is_sorted nat_cmp (numbered es h))
  unfolding numbered
  sorted_numbers [] h sorted = tt
  sorted_numbers (e ∷ es) h sorted =
      let s = parts (below_all name_cmp e.0 es) (is_sorted name_cmp es) sorted in
      both (below_all nat_cmp h.0.number (numbered es h.1)) (is_sorted nat_cmp (numbered es h.1)) (below_numbers e h.0 es h.1 s.0) (sorted_numbers es h.1 s.1)

  one_found : (o : Bool) (q : ℕ) (e : List ℕ × SwiftObject) (a : PartRow id e) (x : Option Part) (y : Option SwiftObject) → x ≡ option_and_then part_of y → cond o (Some a.part) x ≡ option_and_then part_of (cond o (Some e.1) y)
  one_found true q e a x y same = sym a.is
  one_found false q e a x y same = same

  found_numbers : (q : ℕ) (es : List (List ℕ × SwiftObject)) (h : AllByRecursion (PartRow id) es) → find nat_cmp q (numbered es h) ≡ option_and_then part_of (find name_cmp (segment_name id q) es)
  unfolding numbered
  found_numbers q [] h = refl
  found_numbers q (e ∷ es) h =
      let same : eq_by_cmp nat_cmp q h.0.number ≡ eq_by_cmp name_cmp (segment_name id q) e.0 =
      ap is_eq (sym (segments_order id q h.0.number) ∙ ap (name_cmp (segment_name id q)) (sym h.0.named)) in
      ap (λ t. cond t (Some h.0.part) (find nat_cmp q (numbered es h.1))) same
      ∙ one_found (eq_by_cmp name_cmp (segment_name id q) e.0) q e h.0 (find nat_cmp q (numbered es h.1)) (find name_cmp (segment_name id q) es) (found_numbers q es h.1)

  no_number : (q : ℕ) → (IsPartNumber q → ⊥) → (es : List (List ℕ × SwiftObject)) (h : AllByRecursion (PartRow id) es) → find nat_cmp q (numbered es h) ≡ None
  unfolding numbered
  no_number q never [] h = refl
  no_number q never (e ∷ es) h =
      not_here q never e h.0 (eq_by_cmp nat_cmp q h.0.number) refl (find nat_cmp q (numbered es h.1)) (no_number q never es h.1)
    where
      equal : (o : Ordering) → is_eq o ≡ true → o ≡ Equal
      equal Less e = cc
      equal Equal e = refl
      equal Greater e = cc

      not_here : (q : ℕ) → (IsPartNumber q → ⊥) → (e : List ℕ × SwiftObject) (a : PartRow id e) (t : Bool) → eq_by_cmp nat_cmp q a.number ≡ t → (x : Option Part) → x ≡ None → cond t (Some a.part) x ≡ None
      not_here q never e a true same x none = absurd (never (subst IsPartNumber (sym (number_antisymmetric q a.number (equal (nat_cmp q a.number) same))) a.counted))
      not_here q never e a false same x none = none

  same_found : (q : ℕ) → find name_cmp (segment_name id q) keyed ≡ get segments (segment_name id q)
  same_found q =
      find-where_key name_cmp (begins prefix) (segment_name id q) (λ x tied. ap (begins prefix) (sym (name_antisymmetric (segment_name id q) x tied))) (entries segments)
      ∙ ap (λ t. cond t (find name_cmp (segment_name id q) (entries segments)) None) (ap (begins prefix) (name_is id q) ∙ begins_own prefix (five_digits q))
      ∙ sym (get-entries segments (segment_name id q))

  found_at : (q : ℕ) → find nat_cmp q (numbered keyed part_rows) ≡ find nat_cmp q (entries (parts_of segments id))
  found_at q = elim (cases_lt 0 q) [
    | inl some ↦ elim (cases_lt greatest_part q) [
      | inl above ↦ no_number q (λ counted. let within = counted.within in omega (arith, within, above)) keyed part_rows
          ∙ sym (table_above (part_at segments id) greatest_part q above) ∙ get-entries (parts_of segments id) q
      | inr within ↦ found_numbers q keyed part_rows ∙ ap (option_and_then part_of) (same_found q)
          ∙ sym (table_within (part_at segments id) greatest_part q some within) ∙ get-entries (parts_of segments id) q
    ]
    | inr none ↦ no_number q (λ counted. let low = counted.counted in omega (arith, low, none)) keyed part_rows
        ∙ sym (ap (get (parts_of segments id)) (omega (arith, none)) ∙ table_zero (part_at segments id) greatest_part) ∙ get-entries (parts_of segments id) q
  ]

  numbered_are : numbered keyed part_rows ≡ entries (parts_of segments id)
  numbered_are = same_entries nat_cmp number_total number_antisymmetric (numbered keyed part_rows) (entries (parts_of segments id))
      (sorted_numbers keyed part_rows keyed_sorted) (entries_sorted (parts_of segments id)) found_at

  -- ---- what they tell

  one_told : (marker : ℕ) (e : List ℕ × SwiftObject) (a : PartRow id e) (t u : Bool) → t ≡ u → (rest : List (List ℕ × SwiftObject)) (later : List (ℕ × Part)) → parts_due prefix (map item_at rest) ≡ map part_item later
      → parts_due prefix (map item_at (cond t (e ∷ rest) rest)) ≡ map part_item (cond u ((a.number, a.part) ∷ later) later)
  one_told marker e a true true same rest later is = ap (λ o. cons_option o (parts_due prefix (map item_at rest))) a.told ∙ ap (λ l. part_item (a.number, a.part) ∷ l) is
  one_told marker e a false false same rest later is = is
  one_told marker e a true false same rest later is = cc
  one_told marker e a false true same rest later is = cc

  told_above : (marker : ℕ) (es : List (List ℕ × SwiftObject)) (h : AllByRecursion (PartRow id) es)
      → parts_due prefix (map item_at (behind (segment_name id marker) es)) ≡ map part_item (filter (λ e. nat_lt marker e.0) (numbered es h))
  unfolding numbered
  told_above marker [] h = refl
  told_above marker (e ∷ es) h =
      one_told marker e h.0 (is_lt (name_cmp (segment_name id marker) e.0)) (nat_lt marker h.0.number)
      (ap (λ n. is_lt (name_cmp (segment_name id marker) n)) h.0.named ∙ ap is_lt (segments_order id marker h.0.number) ∙ less_is marker h.0.number)
      (behind (segment_name id marker) es) (filter (λ e. nat_lt marker e.0) (numbered es h.1)) (told_above marker es h.1)

  -- the parts above a marker are those that the names behind its name tell
  pub parts_told : (marker : ℕ) → parts_due prefix (items_after prefix (segment_name id marker) segments) ≡ items_above marker (parts_of segments id)
  parts_told marker = told_above marker keyed part_rows ∙ ap (λ es. map part_item (filter (λ e. nat_lt marker e.0) es)) numbered_are

  all_told : (marker : List ℕ) (es : List (List ℕ × SwiftObject)) → AllByRecursion (PartRow id) es → list_all (λ item. is_some (part_due prefix item)) (map item_at (behind marker es)) ≡ true
  all_told marker [] h = refl
  all_told marker (e ∷ es) h =
      elim (is_lt (name_cmp marker e.0)) as (λ t. list_all (λ item. is_some (part_due prefix item)) (map item_at (cond t (e ∷ behind marker es) (behind marker es))) ≡ true) [
        | true ↦ and_from _ _ (ap is_some h.0.told) (all_told marker es h.1)
        | false ↦ all_told marker es h.1
      ]

  -- each item tells one
  pub items_told : (marker : List ℕ) → list_all (λ item. is_some (part_due prefix item)) (items_after prefix marker segments) ≡ true
  items_told marker = all_told marker keyed part_rows

  past : (marker : ℕ) → greatest_part ≤ marker → (es : List (List ℕ × SwiftObject)) (h : AllByRecursion (PartRow id) es) → filter (λ e. nat_lt marker e.0) (numbered es h) ≡ []
  unfolding numbered
  past marker above [] h = refl
  past marker above (e ∷ es) h =
      let within = h.0.counted.within in
      let none : nat_lt marker h.0.number ≡ false = grind (arith, nat_tests, within, above) in
      ap (λ t. cond t ((h.0.number, h.0.part) ∷ filter (λ e. nat_lt marker e.0) (numbered es h.1)) (filter (λ e. nat_lt marker e.0) (numbered es h.1))) none ∙ past marker above es h.1

  -- none has a number above the greatest
  pub none_above : (marker : ℕ) → greatest_part ≤ marker → items_above marker (parts_of segments id) ≡ []
  none_above marker above = ap (λ es. map part_item (filter (λ e. nat_lt marker e.0) es)) (sym numbered_are) ∙ ap (map part_item) (past marker above keyed part_rows)
