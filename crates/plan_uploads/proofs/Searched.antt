-- A search among parts whose numbers ascend.
use Rattle.std.proofs.Common.{◌≡◌, ℕ, zero, suc, ◌<◌, ◌≤◌, Bool, true, false, cond, ◌==◌, nat_lt, T, List, [], ◌∷◌, map, length, get_or, Some, None, Result, Ok, Err, IfOk, IfErr, refl, sym, ap, ◌∙◌, inl, inr, arith}
use Rattle.std.specs.Ordering.{is_lt, eq_by_cmp, nat_cmp, ordering_index}
use Rattle.std.specs.declared.cmp.Ordering.TheVariants.{Less, Equal, Greater}
use Rattle.std.specs.FinMap.{find, get, get-from_entries, is_sorted}
use Rattle.std.specs.FinMap.Entries.{below_all}
use Rattle.std.specs.List.Sorted.{IsSearchInRange, IsBinarySearchResult, IsNonDecreasingBy}
use Rattle.std.proofs.lemmas.Bool.{cases_lt, ltb-true}
use Rattle.std.proofs.lemmas.Bool.Decides.{nat_tests}
use Rattle.std.proofs.lemmas.Cmp.{ranked}
use Rattle.gate_base.proofs.lemmas.Maps.{apart, by_number, key_itself, number_total}
use Rattle.list_pages.proofs.lemmas.Pages.{parts}
use Rattle.s3_machine.specs.declared.items.PartItem.{PartItem}
use Rattle.plan_uploads.specs.Completing.{Ascend, row_of_part}
use Rattle.plan_uploads.specs.Completing as completing

abbrev rows : List PartItem → List (ℕ × PartItem)
rows items = map row_of_part items

-- ---- the numbers rise

is_true : (t : Bool) → T t → t ≡ true
is_true true h = refl
is_true false h = absurd h

less_is : (a b : ℕ) → is_lt (nat_cmp a b) ≡ nat_lt a b
less_is a b = elim (nat_lt a b) as (λ t. is_lt (cond t Less (cond (a == b) Equal Greater)) ≡ t) [ true ↦ refl | false ↦ elim (a == b) as (λ t. is_lt (cond t Equal Greater) ≡ false) [ true ↦ refl | false ↦ refl ] ]

less : (a b : ℕ) → T (is_lt (nat_cmp a b)) → a < b
less a b h = ltb-true a b (sym (less_is a b) ∙ is_true (is_lt (nat_cmp a b)) h)

above : (n : ℕ) (items : List PartItem) → T (below_all nat_cmp n (rows items)) → (k : ℕ) (d : PartItem) → k < length items → n < (get_or items k d).number
above n [] h k d lt = absurd (omega (arith, lt))
above n (p ∷ items) h zero d lt = less n p.number (parts (is_lt (nat_cmp n p.number)) (below_all nat_cmp n (rows items)) h).0
above n (p ∷ items) h (suc k) d lt = above n items (parts (is_lt (nat_cmp n p.number)) (below_all nat_cmp n (rows items)) h).1 k d (omega (arith, lt))

rising : (items : List PartItem) → T (is_sorted nat_cmp (rows items)) → (i j : ℕ) (d : PartItem) → i < j → j < length items → (get_or items i d).number < (get_or items j d).number
rising [] s i j d lt below = absurd (omega (arith, below))
rising (p ∷ items) s i zero d lt below = absurd (omega (arith, lt))
rising (p ∷ items) s zero (suc j) d lt below = above p.number items (parts (below_all nat_cmp p.number (rows items)) (is_sorted nat_cmp (rows items)) s).0 j d (omega (arith, below))
rising (p ∷ items) s (suc i) (suc j) d lt below = rising items (parts (below_all nat_cmp p.number (rows items)) (is_sorted nat_cmp (rows items)) s).1 i j d (omega (arith, lt)) (omega (arith, below))

-- ---- what is found

module _ (n : ℕ) where
  found_at : (items : List PartItem) → T (is_sorted nat_cmp (rows items)) → (at : ℕ) (d : PartItem) → at < length items → (get_or items at d).number ≡ n → find nat_cmp n (rows items) ≡ Some (get_or items at d)
  found_at [] s at d lt same = absurd (omega (arith, lt))
  found_at (p ∷ items) s zero d lt same = ap (λ t. cond t (Some p) (find nat_cmp n (rows items))) (ap (λ k. eq_by_cmp nat_cmp k p.number) (sym same) ∙ key_itself by_number p.number)
  found_at (p ∷ items) s (suc at) d lt same =
      let s' = parts (below_all nat_cmp p.number (rows items)) (is_sorted nat_cmp (rows items)) s in
      let low = above p.number items s'.0 at d (omega (arith, lt)) in
      ap (λ t. cond t (Some p) (find nat_cmp n (rows items))) (apart by_number n p.number (λ e. omega (arith, low, e, same)))
      ∙ found_at items s'.1 at d (omega (arith, lt)) same

  none_at : (items : List PartItem) → ((k : ℕ) (d : PartItem) → k < length items → (get_or items k d).number ≡ n → ⊥) → find nat_cmp n (rows items) ≡ None
  none_at [] never = refl
  none_at (p ∷ items) never =
      ap (λ t. cond t (Some p) (find nat_cmp n (rows items))) (apart by_number n p.number (λ e. never zero p (omega arith) (sym e)))
      ∙ none_at items (λ k d lt. never (suc k) d (omega (arith, lt)))

-- what a binary search by the number tells
pub record Finds (items : List PartItem) (n : ℕ) (r : Result ℕ ℕ) : Type 0 where
  pub found : IfOk r (λ at. (d : PartItem) → get (completing.by_number items) n ≡ Some (get_or items at d))
  pub absent : IfErr r (λ at. get (completing.by_number items) n ≡ None)

module _ (items : List PartItem) (ascend : Ascend items) (n : ℕ) where
  comparisons_rise : T (is_sorted nat_cmp (rows items)) → IsNonDecreasingBy (λ p. ordering_index (nat_cmp p.number n)) items
  comparisons_rise s = λ i j d le in_range.
      let rise : (get_or items i d).number ≤ (get_or items j d).number = grind (arith, rising items s i j d, λ (same : i ≡ j). ap (λ k. (get_or items k d).number) same) in
      grind (arith, nat_tests)

  pub searched : (r : Result ℕ ℕ) → IsSearchInRange r (length items) → IsBinarySearchResult (λ p. nat_cmp p.number n) items r → Finds items n r
  unfolding Ascend
  searched (Ok at) in_range equal = record {
    found = λ d. get-from_entries number_total (rows items) n ∙ found_at n items ascend at d in_range (ranked _ n _ (sym (equal d)));
    absent = tt;
  }
  searched (Err at) in_range parted = record {
    found = tt;
    absent = get-from_entries number_total (rows items) n ∙ none_at n items (λ k d lt same. apart_at k d lt same);
  }
    where
      apart_at : (k : ℕ) (d : PartItem) → k < length items → (get_or items k d).number ≡ n → ⊥
      apart_at k d lt same =
          let small : k < at → (get_or items k d).number < n = λ below. ranked _ n _ (sym ((parted (comparisons_rise ascend)).0 k d (omega arith) below)) in
          let great : at ≤ k → n < (get_or items k d).number = λ over. ranked _ n _ (sym ((parted (comparisons_rise ascend)).1 k d over lt)) in
          elim (cases_lt k at) [ inl before ↦ (let lower = small before in omega (arith, lower, same)) | inr over ↦ (let higher = great over in omega (arith, higher, same)) ]
