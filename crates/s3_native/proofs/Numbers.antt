-- Tables by numbers, seen as maps.
use Rattle.std.proofs.Common.{◌≡◌, ℕ, Bool, true, false, ◌&&◌, T, List, [], ◌∷◌, map, sym, ap, subst, ◌∙◌}
use Rattle.std.specs.Ordering.{nat_cmp, is_eq, is_lt}
use Rattle.std.specs.declared.cmp.Ordering.TheVariants.{Less}
use Rattle.std.specs.List.{AllByRecursion}
use Rattle.std.specs.List.Sorted.{IsStrictlySortedBy}
use Rattle.std.specs.Map.{keys_of, lookup}
use Rattle.std.specs.BTreeMap.{insert_entry}
use Rattle.std.specs.FinMap.{entries, entries_sorted, get, get-entries, get-from_entries, insert, is_sorted}
use Rattle.std.specs.FinMap.Entries.{below_all, same_entries}
use Rattle.gate_base.specs.Maps.{Numbers}
use Rattle.gate_base.proofs.lemmas.Maps.{by_number, number_total, number_antisymmetric}
use Rattle.s3_native.specs.Numbered.{numbered_of, numbers_of}
use Rattle.name_table.proofs.lemmas.Entries.{get-seen, seen_insert}

both : (a b : Bool) → T a → T b → T (a && b)
both true b p q = q
both false b p q = absurd p

abbrev pub is_number : ℕ → ℕ → Bool
is_number number k = is_eq (nat_cmp number k)

module _ {X : Type 0} (es : List (ℕ × X)) (m : Numbers X) (e : numbers_of es ≡ m) where
  pub number_get : (number : ℕ) → lookup (is_number number) es ≡ get m number
  number_get number = sym (get-seen nat_cmp (λ (k : ℕ). k) by_number es number) ∙ ap (λ m. get m number) e

  pub number_insert : (k : ℕ) (x : X) → numbers_of (insert_entry (λ (x y : ℕ). nat_cmp x y) es k x) ≡ insert m k x
  number_insert k x = seen_insert nat_cmp (λ (k : ℕ). k) by_number es k x ∙ ap (λ m. insert m k x) e

module _ {X : Type 0} where
  all_below : (x : ℕ) (es : List (ℕ × X)) → AllByRecursion (λ (y : ℕ). nat_cmp x y ≡ Less) (keys_of es) → T (below_all nat_cmp x (map numbered_of es))
  all_below x [] h = tt
  all_below x (e ∷ es) h = both _ _ (subst (λ o. T (is_lt o)) (sym h.0) tt) (all_below x es h.1)

  sorted : (es : List (ℕ × X)) → IsStrictlySortedBy (λ (x y : ℕ). nat_cmp x y) (keys_of es) → T (is_sorted nat_cmp (map numbered_of es))
  unfolding IsStrictlySortedBy
  sorted [] h = tt
  sorted (e ∷ es) h = both _ _ (all_below e.0 es h.0) (sorted es h.1)

  pub numbers_are : (es : List (ℕ × X)) → IsStrictlySortedBy (λ (x y : ℕ). nat_cmp x y) (keys_of es) → entries (numbers_of es) ≡ map numbered_of es
  numbers_are es ordered = same_entries nat_cmp number_total number_antisymmetric (entries (numbers_of es)) (map numbered_of es) (entries_sorted (numbers_of es)) (sorted es ordered)
      (λ q. sym (get-entries (numbers_of es) q) ∙ get-from_entries number_total (map numbered_of es) q)
