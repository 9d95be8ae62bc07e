-- The parts of an upload by their numbers, as a listing of all of them tells them.
use Rattle.std.proofs.Common.{◌≡◌, ℕ, zero, suc, ◌≤◌, ◌+◌, Bool, true, false, cond, nat_lt, T, List, [], ◌∷◌, map, length, Option, Some, None, refl, sym, ap, ◌∙◌, arith}
use Rattle.std.specs.List.{filter}
use Rattle.std.specs.Option.{option_map, unwrap_or}
use Rattle.std.specs.Ordering.{is_lt, eq_by_cmp, nat_cmp}
use Rattle.std.specs.FinMap.{contains_key, entries, entries_sorted, find, get, get-entries, get-from_entries, insert, is_sorted, len, len-empty, len-entries, len-insert}
use Rattle.std.specs.FinMap.Entries.{below_all, find-where_key, is_sorted-where_key}
use Rattle.std.specs.Cmp.{Equal-is}
use Rattle.std.proofs.lemmas.Bool.Decides.{nat_tests}
use Rattle.std.proofs.lemmas.List.{length-map, take_all}
use Rattle.gate_base.specs.Maps.{Numbers, table}
use Rattle.gate_base.proofs.lemmas.Maps.{number_total, number_antisymmetric, table_zero}
use Rattle.list_pages.proofs.lemmas.Pages.{parts}
use Rattle.list_pages.proofs.lemmas.Sorted.{both}
use Rattle.s3_machine.specs.State.{Part}
use Rattle.s3_machine.specs.Uploads.{cut, part_item}
use Rattle.s3_machine.specs.declared.items.PartItem.{PartItem}
use Rattle.upload_calls.specs.Records.{items_above}
use Rattle.plan_uploads.specs.Completing.{Ascend, by_number, row_of_part}

abbrev items_of : List (ℕ × Part) → List PartItem
items_of es = map part_item es

-- ---- they ascend

rows_below : (k : ℕ) (es : List (ℕ × Part)) → T (below_all nat_cmp k es) → T (below_all nat_cmp k (map row_of_part (items_of es)))
rows_below k [] h = tt
rows_below k (e ∷ es) h =
    let b = parts (is_lt (nat_cmp k e.0)) (below_all nat_cmp k es) h in
    both (is_lt (nat_cmp k e.0)) (below_all nat_cmp k (map row_of_part (items_of es))) b.0 (rows_below k es b.1)

rows_sorted : (es : List (ℕ × Part)) → T (is_sorted nat_cmp es) → T (is_sorted nat_cmp (map row_of_part (items_of es)))
rows_sorted [] h = tt
rows_sorted (e ∷ es) h =
    let s = parts (below_all nat_cmp e.0 es) (is_sorted nat_cmp es) h in
    both (below_all nat_cmp e.0 (map row_of_part (items_of es))) (is_sorted nat_cmp (map row_of_part (items_of es))) (rows_below e.0 es s.0) (rows_sorted es s.1)

pub items_ascend : (marker : ℕ) (m : Numbers Part) → Ascend (items_above marker m)
unfolding Ascend
items_ascend marker m = rows_sorted (filter (λ e. nat_lt marker e.0) (entries m)) (is_sorted-where_key nat_cmp (nat_lt marker) (entries m) (entries_sorted m))

-- ---- what is found

find_rows : (q : ℕ) (es : List (ℕ × Part)) → find nat_cmp q (map row_of_part (items_of es)) ≡ option_map (λ p. part_item (q, p)) (find nat_cmp q es)
find_rows q [] = refl
find_rows q (e ∷ es) = here (find_rows q es) (eq_by_cmp nat_cmp q e.0) refl
  where
    here : find nat_cmp q (map row_of_part (items_of es)) ≡ option_map (λ p. part_item (q, p)) (find nat_cmp q es) → (t : Bool) → eq_by_cmp nat_cmp q e.0 ≡ t
        → cond t (Some (part_item e)) (find nat_cmp q (map row_of_part (items_of es))) ≡ option_map (λ p. part_item (q, p)) (cond t (Some e.1) (find nat_cmp q es))
    here later true same = ap (λ n. Some (part_item (n, e.1))) (sym (number_antisymmetric q e.0 ((Equal-is (nat_cmp q e.0)).0 same)))
    here later false other = later

module _ (f : ℕ → Option Part) (n : ℕ) where
  above_zero : (q : ℕ) (t : Bool) → nat_lt 0 q ≡ t → cond t (find nat_cmp q (entries (table f n))) None ≡ get (table f n) q
  above_zero q true some = sym (get-entries (table f n) q)
  above_zero q false none = sym (ap (get (table f n)) (zero_is q none) ∙ table_zero f n)
    where
      zero_is : (q : ℕ) → nat_lt 0 q ≡ false → q ≡ 0
      zero_is q none = grind (arith, nat_tests, none)

  pub found_by_number : (q : ℕ) → get (by_number (items_above 0 (table f n))) q ≡ option_map (λ p. part_item (q, p)) (get (table f n) q)
  found_by_number q =
      get-from_entries number_total (map row_of_part (items_above 0 (table f n))) q
      ∙ find_rows q (filter (λ e. nat_lt 0 e.0) (entries (table f n)))
      ∙ ap (option_map (λ p. part_item (q, p))) (find-where_key nat_cmp (nat_lt 0) q (λ x tied. ap (nat_lt 0) (sym (number_antisymmetric q x tied))) (entries (table f n)) ∙ above_zero q (nat_lt 0 q) refl)

-- ---- how many they are

shorter : {X : Type 0} (p : X → Bool) (xs : List X) → length (filter p xs) ≤ length xs
shorter p [] = omega arith
shorter p (x ∷ xs) = let less = shorter p xs in elim (p x) as (λ t. length (cond t (x ∷ filter p xs) (filter p xs)) ≤ suc (length xs)) [ true ↦ omega (arith, less) | false ↦ omega (arith, less) ]

few_in : (f : ℕ → Option Part) (n : ℕ) → len (table f n) ≤ n
unfolding table
few_in f zero = let none = len-empty nat_cmp Part in omega (arith, none)
few_in f (suc n) = one_more (few_in f n) (f (suc n))
  where
    counted : (t : Bool) (k : ℕ) → k ≤ n → cond t k (k + 1) ≤ suc n
    counted true k few = omega (arith, few)
    counted false k few = omega (arith, few)

    one_more : len (table f n) ≤ n → (o : Option Part) → len (unwrap_or (option_map (insert (table f n) (suc n)) o) (table f n)) ≤ suc n
    one_more before None = omega (arith, before)
    one_more before (Some p) =
        let is = len-insert number_total (table f n) (suc n) p in
        let few = counted (contains_key (table f n) (suc n)) (len (table f n)) before in
        omega (arith, is, few)

-- a listing that asks for as many tells all of them
pub all_listed : (f : ℕ → Option Part) (n max : ℕ) → n ≤ max → (cut max (items_above 0 (table f n))).0 ≡ items_above 0 (table f n)
all_listed f n max enough =
    let few = few_in f n in
    let is = len-entries (table f n) in
    let less = shorter (λ (e : ℕ × Part). nat_lt 0 e.0) (entries (table f n)) in
    let count = length-map (filter (λ (e : ℕ × Part). nat_lt 0 e.0) (entries (table f n))) part_item in
    take_all max (items_above 0 (table f n)) (omega (arith, few, is, less, count, enough))
