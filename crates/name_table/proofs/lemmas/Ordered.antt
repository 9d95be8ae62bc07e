-- The entries of a table, as the map has them: in the order of their names, and none where the table has none.
use Rattle.std.proofs.Common.{◌≡◌, ℕ, Bool, true, false, T, ◌&&◌, List, [], ◌∷◌, map, length, nat_eq, refl, sym, ap, subst, ◌∙◌}
use Rattle.std.proofs.Math.Dec.{eqb-suc-zero}
use Rattle.std.specs.Global.{Vec}
use Rattle.std.specs.Ordering.{nat_cmp, is_lt}
use Rattle.std.specs.declared.cmp.Ordering.TheVariants.{Less, Equal, Greater}
use Rattle.std.specs.Cmp.Lexicographic.{slice_cmp}
use Rattle.std.specs.List.{AllByRecursion}
use Rattle.std.specs.List.Sorted.{IsStrictlySortedBy}
use Rattle.std.specs.Map.{keys_of}
use Rattle.std.specs.FinMap.{entries, entries_sorted, entries-insert, len, len-empty, len-entries, is_sorted, put, get-entries, get-from_entries}
use Rattle.std.specs.FinMap.Entries.{below_all, by_order, same_entries}
use Rattle.gate_base.specs.Maps.{name_cmp}
use Rattle.gate_base.proofs.lemmas.Maps.{name_total, name_antisymmetric}
use Rattle.name_table.specs.Table.{entry_of, names_of}

both : (a b : Bool) → T a → T b → T (a && b)
both true b p q = q
both false b p q = absurd p

put_some : {X : Type 0} (k : List ℕ) (v : X) (es : List (List ℕ × X)) → nat_eq (length (put name_cmp k v es)) 0 ≡ false
put_some k v [] = eqb-suc-zero 0
put_some k v (e ∷ es) =
    elim (name_cmp k e.0) as (λ o. nat_eq (length (by_order o ((k, v) ∷ e ∷ es) ((e.0, v) ∷ es) (e ∷ put name_cmp k v es))) 0 ≡ false) [
      | Less ↦ eqb-suc-zero _
      | Equal ↦ eqb-suc-zero _
      | Greater ↦ eqb-suc-zero _
    ]

module _ {X : Type 0} where
  all_below : (x : Vec ℕ) (es : List (Vec ℕ × X)) → AllByRecursion (λ (y : Vec ℕ). slice_cmp nat_cmp x.items y.items ≡ Less) (keys_of es)
      → T (below_all name_cmp x.items (map entry_of es))
  all_below x [] h = tt
  all_below x (e ∷ es) h = both _ _ (subst (λ o. T (is_lt o)) (sym h.0) tt) (all_below x es h.1)

  sorted : (es : List (Vec ℕ × X)) → IsStrictlySortedBy (λ (x y : Vec ℕ). slice_cmp nat_cmp x.items y.items) (keys_of es) → T (is_sorted name_cmp (map entry_of es))
  unfolding IsStrictlySortedBy
  sorted [] h = tt
  sorted (e ∷ es) h = both _ _ (all_below e.0 es h.0) (sorted es h.1)

  pub entries_are : (es : List (Vec ℕ × X)) → IsStrictlySortedBy (λ (x y : Vec ℕ). slice_cmp nat_cmp x.items y.items) (keys_of es)
      → entries (names_of es) ≡ map entry_of es
  entries_are es ordered = same_entries name_cmp name_total name_antisymmetric (entries (names_of es)) (map entry_of es) (entries_sorted (names_of es)) (sorted es ordered)
      (λ q. sym (get-entries (names_of es) q) ∙ get-from_entries name_total (map entry_of es) q)

  pub none_where_none : (es : List (Vec ℕ × X)) → nat_eq (len (names_of es)) 0 ≡ nat_eq (length es) 0
  none_where_none [] = ap (λ n. nat_eq n 0) (len-empty name_cmp X)
  none_where_none (e ∷ es) =
      ap (λ n. nat_eq n 0) (len-entries (names_of (e ∷ es)) ∙ ap length (entries-insert name_total (names_of es) e.0.items e.1))
      ∙ put_some e.0.items e.1 (entries (names_of es)) ∙ sym (eqb-suc-zero _)

-- one thing of each entry, and then another of that
pub map_twice : {A B C : Type 0} (g : B → C) (f : A → B) (xs : List A) → map (λ x. g (f x)) xs ≡ map g (map f xs)
map_twice g f [] = refl
map_twice g f (x ∷ xs) = ap (λ ys. g (f x) ∷ ys) (map_twice g f xs)
