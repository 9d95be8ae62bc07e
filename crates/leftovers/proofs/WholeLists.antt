-- The lists of completed objects, and those of their sub-manifests, are whole.
use Rattle.std.specs.Prelude.{◌≡◌, ◌==◌, ◌||◌, ◌<◌, ◌≤◌, ◌+◌, ◌*◌, ◌/◌, ◌%◌, ℕ, zero, suc, Bool, true, false, cond, nat_le, bytes_eq, get_or, List, [], ◌∷◌, ◌++◌, drop, length, take}
use Rattle.std.specs.List.{list_all}
use Rattle.std.specs.Ordering.{is_lt}
use Rattle.std.specs.declared.cmp.Ordering.TheVariants.{Less}
use Rattle.std.proofs.Common.{refl, sym, ap, subst, ◌∙◌, arith, append_assoc}
use Rattle.std.proofs.lemmas.Bool.{and_from, and_parts, eq-eqb, le-leb}
use Rattle.std.proofs.lemmas.Bool.Decides.{nat_tests}
use Rattle.std.proofs.lemmas.List.{get_or-append-add, length-append}
use Rattle.std.proofs.lemmas.List.Folds.{list_all-append}
use Rattle.std.proofs.lemmas.Slice.Eq.{bytes_eq-Decides}
use Rattle.std.proofs.Math.Seq.{take-append_seam}
use Rattle.gate_base.specs.Ascii.{is_digit}
use Rattle.gate_base.specs.Maps.{Names, name_cmp}
use Rattle.s3_names.specs.Id.{id_digits}
use Rattle.s3_names.proofs.lemmas.Ids.{length-id_digits}
use Rattle.s3_machine.specs.Uploads.{greatest_part, most_parts}
use Rattle.slo_manifest.specs.declared.manifest.TheConstants.{MOST_SEGMENTS}
use Rattle.slo_manifest.specs.declared.Segment.{Segment}
use Rattle.swift_calls.specs.Account.{SwiftObject, size_of}
use Rattle.swift_calls.specs.declared.account.Content.TheVariants.{Segments}
use Rattle.list_pages.proofs.lemmas.Rising.{bytes_order, below, same, above, then_same, then_below}
use Rattle.list_pages.proofs.lemmas.Rolling.{common}
use Rattle.upload_records.specs.Layout.{five_digits, segment_name, sub_manifest_name}
use Rattle.upload_records.specs.Native.{run, sub_manifests, sub_segment, sub_segments, listing_by}
use Rattle.upload_records.specs.Consistent.{AreParts, IsListedPart, IsSegmentList}
use Rattle.upload_records.proofs.lemmas.Subs.{listing_filled, run_filled, run_parts, sub_manifests_few}
use Rattle.leftovers.specs.Leftovers.{id_in}
use Rattle.leftovers.specs.Lists.{is_entry, is_part_name, is_sub_name, is_whole_list, names_rise, size_of_list}
use Rattle.leftovers.proofs.SegmentNames.{sub_name_is}

-- ---- five digits, and their order

digits_sum : (n : ℕ) → n ≡ n / 10000 * 10000 + n / 1000 % 10 * 1000 + n / 100 % 10 * 100 + n / 10 % 10 * 10 + n % 10
digits_sum n = omega arith

is_one : (x : ℕ) → x ≤ 9 → is_digit (48 + x) ≡ true
is_one x small = grind (arith, nat_tests)

are_digits : (n : ℕ) → n ≤ 99999 → list_all is_digit (five_digits n) ≡ true
are_digits n small =
    and_from _ _ (is_one (n / 10000) (omega (arith, small))) (and_from _ _ (is_one (n / 1000 % 10) (omega arith)) (and_from _ _ (is_one (n / 100 % 10) (omega arith))
    (and_from _ _ (is_one (n / 10 % 10) (omega arith)) (and_from _ _ (is_one (n % 10) (omega arith)) refl))))

step : (a b : ℕ) (x y : List ℕ) → a ≤ b → (a ≡ b → name_cmp x y ≡ Less) → name_cmp ((48 + a) ∷ x) ((48 + b) ∷ y) ≡ Less
step a b x y near rest = elim (bytes_order (48 + a) (48 + b)) [
  | below less is ↦ then_below (48 + a) (48 + b) x y is
  | same e ↦ then_same (48 + a) (48 + b) x y e ∙ rest (omega (arith, e))
  | above more is ↦ absurd (omega (arith, more, near))
]

last : (a b : ℕ) → a < b → name_cmp ((48 + a) ∷ []) ((48 + b) ∷ []) ≡ Less
last a b less = elim (bytes_order (48 + a) (48 + b)) [
  | below l is ↦ then_below (48 + a) (48 + b) [] [] is
  | same e ↦ absurd (omega (arith, e, less))
  | above more is ↦ absurd (omega (arith, more, less))
]

by_digits : (a b c d e v w x y z : ℕ) → b ≤ 9 → c ≤ 9 → d ≤ 9 → e ≤ 9 → w ≤ 9 → x ≤ 9 → y ≤ 9 → z ≤ 9
    → a * 10000 + b * 1000 + c * 100 + d * 10 + e < v * 10000 + w * 1000 + x * 100 + y * 10 + z
    → name_cmp ((48 + a) ∷ ((48 + b) ∷ ((48 + c) ∷ ((48 + d) ∷ ((48 + e) ∷ []))))) ((48 + v) ∷ ((48 + w) ∷ ((48 + x) ∷ ((48 + y) ∷ ((48 + z) ∷ []))))) ≡ Less
by_digits a b c d e v w x y z b9 c9 d9 e9 w9 x9 y9 z9 less =
    step a v ((48 + b) ∷ (48 + c) ∷ (48 + d) ∷ (48 + e) ∷ []) ((48 + w) ∷ (48 + x) ∷ (48 + y) ∷ (48 + z) ∷ []) (omega (arith, b9, c9, d9, e9, w9, x9, y9, z9, less)) (λ p.
    step b w ((48 + c) ∷ (48 + d) ∷ (48 + e) ∷ []) ((48 + x) ∷ (48 + y) ∷ (48 + z) ∷ []) (omega (arith, p, c9, d9, e9, x9, y9, z9, less)) (λ q.
    step c x ((48 + d) ∷ (48 + e) ∷ []) ((48 + y) ∷ (48 + z) ∷ []) (omega (arith, p, q, d9, e9, y9, z9, less)) (λ r.
    step d y ((48 + e) ∷ []) ((48 + z) ∷ []) (omega (arith, p, q, r, e9, z9, less)) (λ s.
    last e z (omega (arith, p, q, r, s, less))))))

five_less : (n k : ℕ) → n < k → name_cmp (five_digits n) (five_digits k) ≡ Less
five_less n k less =
    let s = digits_sum n in
    let t = digits_sum k in
    by_digits (n / 10000) (n / 1000 % 10) (n / 100 % 10) (n / 10 % 10) (n % 10) (k / 10000) (k / 1000 % 10) (k / 100 % 10) (k / 10 % 10) (k % 10)
    (omega arith) (omega arith) (omega arith) (omega arith) (omega arith) (omega arith) (omega arith) (omega arith) (omega (arith, s, t, less))

first_less : (name : List ℕ) → 0 < length name → is_lt (name_cmp [] name) ≡ true
first_less [] some = absurd (omega (arith, some))
first_less (b ∷ name) some = refl

-- ---- the names of parts and of sub-manifests

past : (a b : List ℕ) → drop (length a) (a ++ b) ≡ b
past [] b = refl
past (x ∷ a) b = past a b

module _ (id : ℕ) where
  abbrev text : List ℕ
  text = id_digits id

  id_front : (rest : List ℕ) → take 32 (text ++ rest) ≡ text
  id_front rest = ap (λ k. take k (text ++ rest)) (sym (length-id_digits id)) ∙ take-append_seam text rest

  slash : (rest : List ℕ) → get_or (text ++ 47 ∷ rest) 32 0 ≡ 47
  slash rest =
      let at : 32 ≡ length text + 0 = omega (arith, length-id_digits id) in
      ap (λ k. get_or (text ++ 47 ∷ rest) k 0) at ∙ get_or-append-add text (47 ∷ rest) 0 0

  is_id : bytes_eq text text ≡ true
  is_id = (bytes_eq-Decides text text).1 refl

  behind_slash : (rest : List ℕ) → drop 33 (text ++ 47 ∷ rest) ≡ rest
  behind_slash rest =
      let front : List ℕ = text ++ 47 ∷ [] in
      let far : 33 ≡ length front = omega (arith, length-id_digits id, length-append text (47 ∷ [])) in
      (λ i. drop (far i) (sym (append_assoc text (47 ∷ []) rest) i)) ∙ past front rest

  behind_m : (rest : List ℕ) → drop 34 (text ++ 47 ∷ (109 ∷ rest)) ≡ rest
  behind_m rest =
      let front : List ℕ = text ++ 47 ∷ (109 ∷ []) in
      let far : 34 ≡ length front = omega (arith, length-id_digits id, length-append text (47 ∷ (109 ∷ []))) in
      (λ i. drop (far i) (sym (append_assoc text (47 ∷ (109 ∷ [])) rest) i)) ∙ past front rest

  pub part_is : (n : ℕ) → n ≤ 99999 → is_part_name text (segment_name text n) ≡ true
  unfolding segment_name
  part_is n small =
      and_from _ _ (eq-eqb (length (text ++ 47 ∷ five_digits n)) 38 (omega (arith, length-id_digits id, length-append text (47 ∷ five_digits n))))
      (and_from _ _ (ap (λ t. bytes_eq t text) (id_front (47 ∷ five_digits n)) ∙ is_id)
      (and_from _ _ (ap (λ b. b == 47) (slash (five_digits n))) (ap (list_all is_digit) (behind_slash (five_digits n)) ∙ are_digits n small)))

  pub sub_is : (n : ℕ) → n ≤ 99999 → is_sub_name text (sub_manifest_name text n) ≡ true
  unfolding sub_manifest_name
  sub_is n small =
      and_from _ _ (eq-eqb (length (text ++ 47 ∷ (109 ∷ five_digits n))) 39 (omega (arith, length-id_digits id, length-append text (47 ∷ (109 ∷ five_digits n)))))
      (and_from _ _ (ap (λ t. bytes_eq t text) (id_front (47 ∷ (109 ∷ five_digits n))) ∙ is_id)
      (and_from _ _ (ap (λ b. b == 47) (slash (109 ∷ five_digits n))) (and_from _ _ (sub_name_is id n) (ap (list_all is_digit) (behind_m (five_digits n)) ∙ are_digits n small))))

  pub id_in_sub : (n : ℕ) → id_in (sub_manifest_name text n) ≡ text
  unfolding sub_manifest_name
  id_in_sub n = id_front (47 ∷ (109 ∷ five_digits n))

  part_less : (n k : ℕ) → n < k → name_cmp (segment_name text n) (segment_name text k) ≡ Less
  unfolding segment_name
  part_less n k less =
      (λ i. name_cmp (sym (append_assoc text (47 ∷ []) (five_digits n)) i) (sym (append_assoc text (47 ∷ []) (five_digits k)) i))
      ∙ common (text ++ 47 ∷ []) (five_digits n) (five_digits k) ∙ five_less n k less

  sub_less : (n k : ℕ) → n < k → name_cmp (sub_manifest_name text n) (sub_manifest_name text k) ≡ Less
  unfolding sub_manifest_name
  sub_less n k less =
      (λ i. name_cmp (sym (append_assoc text (47 ∷ (109 ∷ [])) (five_digits n)) i) (sym (append_assoc text (47 ∷ (109 ∷ [])) (five_digits k)) i))
      ∙ common (text ++ 47 ∷ (109 ∷ [])) (five_digits n) (five_digits k) ∙ five_less n k less

  filled : (rest : List ℕ) → 0 < length (text ++ 47 ∷ rest)
  filled rest = omega (arith, length-append text (47 ∷ rest))

  part_first : (n : ℕ) → is_lt (name_cmp [] (segment_name text n)) ≡ true
  unfolding segment_name
  part_first n = first_less (text ++ 47 ∷ five_digits n) (filled (five_digits n))

  sub_first : (n : ℕ) → is_lt (name_cmp [] (sub_manifest_name text n)) ≡ true
  unfolding sub_manifest_name
  sub_first n = first_less (text ++ 47 ∷ (109 ∷ five_digits n)) (filled (109 ∷ five_digits n))

-- ---- a list of parts

or_true : (t : Bool) → (t || true) ≡ true
or_true true = refl
or_true false = refl

module _ (S : Names SwiftObject) (folder : List ℕ) (id : ℕ) where
  entry_by : (subs : Bool) (n : ℕ) (s : Segment) → n ≤ greatest_part → IsListedPart S folder (id_digits id) n s → is_entry subs folder (id_digits id) s ≡ true
  unfolding greatest_part
  entry_by true n s few part =
      and_from _ _ (ap (λ c. bytes_eq c folder) part.contained ∙ (bytes_eq-Decides folder folder).1 refl)
      (ap (λ name. is_part_name (id_digits id) name || is_sub_name (id_digits id) name) part.named
      ∙ ap (λ t. t || is_sub_name (id_digits id) (segment_name (id_digits id) n)) (part_is id n (omega (arith, few))))
  entry_by false n s few part =
      and_from _ _ (ap (λ c. bytes_eq c folder) part.contained ∙ (bytes_eq-Decides folder folder).1 refl) (ap (is_part_name (id_digits id)) part.named ∙ part_is id n (omega (arith, few)))

  parts_are_entries : (subs : Bool) (floor : ℕ) (list : List Segment) → AreParts S folder (id_digits id) floor list → list_all (is_entry subs folder (id_digits id)) list ≡ true
  parts_are_entries subs floor [] h = refl
  parts_are_entries subs floor (s ∷ list) (number, low, high, part, rest) = and_from _ _ (entry_by subs number s high part) (parts_are_entries subs number list rest)

  parts_rise : (floor : ℕ) (list : List Segment) → AreParts S folder (id_digits id) floor list → names_rise (segment_name (id_digits id) floor) list ≡ true
  parts_rise floor [] h = refl
  parts_rise floor (s ∷ list) (number, low, high, part, rest) =
      and_from _ _ (ap (λ n. is_lt (name_cmp (segment_name (id_digits id) floor) n)) part.named ∙ ap is_lt (part_less id floor number low))
      (ap (λ n. names_rise n list) part.named ∙ parts_rise number list rest)

  parts_from : (floor : ℕ) (list : List Segment) → AreParts S folder (id_digits id) floor list → names_rise [] list ≡ true
  parts_from floor [] h = refl
  parts_from floor (s ∷ list) (number, low, high, part, rest) =
      and_from _ _ (ap (λ n. is_lt (name_cmp [] n)) part.named ∙ part_first id number) (ap (λ n. names_rise n list) part.named ∙ parts_rise number list rest)

  -- a list of parts that isn't empty is whole
  parts_whole : (subs : Bool) (floor : ℕ) (list : List Segment) → 0 < length list → AreParts S folder (id_digits id) floor list → is_whole_list subs folder (id_digits id) (size_of_list list) list ≡ true
  parts_whole subs floor list some parts =
      and_from _ _ (le-leb 1 (length list) (omega (arith, some)))
      (and_from _ _ (parts_are_entries subs floor list parts) (and_from _ _ (parts_from floor list parts) (eq-eqb (size_of_list list) (size_of_list list) refl)))

  -- ---- a list of sub-manifests

  module _ (parts : List Segment) where
    abbrev subs_of : ℕ → List Segment
    subs_of n = sub_segments folder (id_digits id) parts n

    one_sub : (n : ℕ) → n ≤ 10 → is_entry true folder (id_digits id) (sub_segment folder (id_digits id) n (run n parts)) ≡ true
    one_sub n few =
        and_from _ _ ((bytes_eq-Decides folder folder).1 refl)
        (ap (λ t. is_part_name (id_digits id) (sub_manifest_name (id_digits id) (n + 1)) || t) (sub_is id (n + 1) (omega (arith, few))) ∙ or_true (is_part_name (id_digits id) (sub_manifest_name (id_digits id) (n + 1))))

    subs_are_entries : (n : ℕ) → n ≤ 10 → list_all (is_entry true folder (id_digits id)) (subs_of n) ≡ true
    unfolding sub_segments
    subs_are_entries zero few = refl
    subs_are_entries (suc n) few =
        list_all-append (is_entry true folder (id_digits id)) (subs_of n) (sub_segment folder (id_digits id) n (run n parts) ∷ [])
        ∙ and_from _ _ (subs_are_entries n (omega (arith, few))) (and_from _ _ (one_sub n (omega (arith, few))) refl)

    abbrev is_below : List ℕ → Segment → Bool
    is_below name s = is_lt (name_cmp s.name name)

    subs_below : (n m : ℕ) → n ≤ m → list_all (is_below (sub_manifest_name (id_digits id) (m + 1))) (subs_of n) ≡ true
    unfolding sub_segments
    subs_below zero m near = refl
    subs_below (suc n) m near =
        list_all-append (is_below (sub_manifest_name (id_digits id) (m + 1))) (subs_of n) (sub_segment folder (id_digits id) n (run n parts) ∷ [])
        ∙ and_from _ _ (subs_below n m (omega (arith, near))) (and_from _ _ (ap is_lt (sub_less id (n + 1) (m + 1) (omega (arith, near)))) refl)

    rise_more : (first : List ℕ) (xs : List Segment) (y : Segment) → is_lt (name_cmp first y.name) ≡ true → names_rise first xs ≡ true → list_all (is_below y.name) xs ≡ true → names_rise first (xs ++ y ∷ []) ≡ true
    rise_more first [] y less rise under = and_from _ _ less refl
    rise_more first (x ∷ xs) y less rise under =
        let r = and_parts (is_lt (name_cmp first x.name)) (names_rise x.name xs) rise in
        let b = and_parts (is_below y.name x) (list_all (is_below y.name) xs) under in
        and_from _ _ r.0 (rise_more x.name xs y b.0 r.1 b.1)

    subs_rise : (n : ℕ) → names_rise [] (subs_of n) ≡ true
    unfolding sub_segments
    subs_rise zero = refl
    subs_rise (suc n) =
        rise_more [] (subs_of n) (sub_segment folder (id_digits id) n (run n parts)) (sub_first id (n + 1)) (subs_rise n) (subs_below n n (omega arith))

  -- ---- what an object lists

  by_length : (parts : List Segment) (t : Bool) → cond t 0 ((length parts + 999) / MOST_SEGMENTS) ≤ 10 → AreParts S folder (id_digits id) 0 parts
      → (list_all (is_entry true folder (id_digits id)) (cond t parts (sub_segments folder (id_digits id) parts (cond t 0 ((length parts + 999) / MOST_SEGMENTS)))) ≡ true)
      × (names_rise [] (cond t parts (sub_segments folder (id_digits id) parts (cond t 0 ((length parts + 999) / MOST_SEGMENTS)))) ≡ true)
  by_length parts true few are = (parts_are_entries true 0 parts are, parts_from 0 parts are)
  by_length parts false few are = (subs_are_entries parts ((length parts + 999) / MOST_SEGMENTS) few, subs_rise parts ((length parts + 999) / MOST_SEGMENTS))

  listing_is : (parts : List Segment) → length parts ≤ most_parts → AreParts S folder (id_digits id) 0 parts
      → (list_all (is_entry true folder (id_digits id)) (listing_by folder (id_digits id) parts) ≡ true) × (names_rise [] (listing_by folder (id_digits id) parts) ≡ true)
  unfolding listing_by
  listing_is parts few are = by_length parts (nat_le (length parts) MOST_SEGMENTS) (sub_manifests_few (length parts) few) are

  -- the list of a completed object is whole
  pub list_whole : (listed : List Segment) → IsSegmentList S folder (id_digits id) listed → is_whole_list true folder (id_digits id) (size_of_list listed) listed ≡ true
  list_whole listed list =
      let both = listing_is list.parts list.few list.are in
      let some = listing_filled folder (id_digits id) list.parts list.some in
      subst (λ l. is_whole_list true folder (id_digits id) (size_of_list l) l ≡ true) (sym list.lists)
      (and_from _ _ (le-leb 1 (length (listing_by folder (id_digits id) list.parts)) (omega (arith, some)))
      (and_from _ _ both.0 (and_from _ _ both.1 (eq-eqb (size_of_list (listing_by folder (id_digits id) list.parts)) (size_of_list (listing_by folder (id_digits id) list.parts)) refl))))

  -- and that of each of its sub-manifests
  pub run_whole : (parts : List Segment) (n : ℕ) → AreParts S folder (id_digits id) 0 parts → n < sub_manifests (length parts)
      → is_whole_list false folder (id_in (sub_manifest_name (id_digits id) (n + 1))) (size_of (Segments (run n parts))) (run n parts) ≡ true
  run_whole parts n are under =
      let of_run = run_parts S folder (id_digits id) n parts are in
      ap (λ t. is_whole_list false folder t (size_of_list (run n parts)) (run n parts)) (id_in_sub id (n + 1))
      ∙ parts_whole false of_run.0 (run n parts) (run_filled n parts under) of_run.1
