-- The entries of a map that takes over some of another's.
use Rattle.std.proofs.Common.{◌≡◌, Bool, true, false, ◌&&◌, List, [], ◌∷◌, Option, Some, None, sym, ◌∙◌, ap, T}
use Rattle.std.specs.List.{filter_map, cons_option}
use Rattle.std.specs.Option.{option_map}
use Rattle.std.specs.declared.cmp.Ordering.{Ordering}
use Rattle.std.specs.Ordering.{is_lt}
use Rattle.std.specs.Cmp.{IsTotalOrder}
use Rattle.std.specs.FinMap.{FinMap, IsAntisymmetric, entries, entries_sorted, from_entries, from_sorted, is_sorted, get-from_entries, get-from_sorted, entries-from_sorted, same_map}
use Rattle.std.specs.FinMap.Entries.{below_all}

abbrev pub pick_entry : {K X Y : Type 0} → (K → X → Option Y) → K × X → Option (K × Y)
pick_entry f e = option_map (λ y. (e.0, y)) (f e.0 e.1)

parts : (a b : Bool) → T (a && b) → T a × T b
parts true b p = (tt, p)
parts false b p = absurd p

both : (a b : Bool) → T a → T b → T (a && b)
both true b p q = q
both false b p q = absurd p

module _ {K X Y : Type 0} (R : K → K → Ordering) (f : K → X → Option Y) where
  below_one : (x : K) (e : K × X) (v : Option Y) (rest : List (K × Y)) → T (is_lt (R x e.0)) → T (below_all R x rest) → T (below_all R x (cons_option (option_map (λ y. (e.0, y)) v) rest))
  below_one x e None rest p h = h
  below_one x e (Some y) rest p h = both (is_lt (R x e.0)) (below_all R x rest) p h

  below_picked : (x : K) (es : List (K × X)) → T (below_all R x es) → T (below_all R x (filter_map (pick_entry f) es))
  below_picked x [] h = tt
  below_picked x (e ∷ es) h = let p = parts (is_lt (R x e.0)) (below_all R x es) h in below_one x e (f e.0 e.1) (filter_map (pick_entry f) es) p.0 (below_picked x es p.1)

  sorted_one : (e : K × X) (v : Option Y) (rest : List (K × Y)) → T (below_all R e.0 rest) → T (is_sorted R rest) → T (is_sorted R (cons_option (option_map (λ y. (e.0, y)) v) rest))
  sorted_one e None rest p h = h
  sorted_one e (Some y) rest p h = both (below_all R e.0 rest) (is_sorted R rest) p h

  sorted_picked : (es : List (K × X)) → T (is_sorted R es) → T (is_sorted R (filter_map (pick_entry f) es))
  sorted_picked [] h = tt
  sorted_picked (e ∷ es) h =
      let p = parts (below_all R e.0 es) (is_sorted R es) h in
      sorted_one e (f e.0 e.1) (filter_map (pick_entry f) es) (below_picked e.0 es p.0) (sorted_picked es p.1)

module _ {K X : Type 0} {R : K → K → Ordering} (o : IsTotalOrder R) (a : IsAntisymmetric R) where
  -- the map of entries that rise has these entries
  pub entries_rising : (es : List (K × X)) → T (is_sorted R es) → entries (from_entries {R = R} es) ≡ es
  entries_rising es h =
      ap entries (same_map o a (from_entries {R = R} es) (from_sorted es) (λ q. get-from_entries o es q ∙ sym (get-from_sorted R es q h))) ∙ entries-from_sorted R es h

module _ {K X Y : Type 0} {R : K → K → Ordering} (o : IsTotalOrder R) (a : IsAntisymmetric R) (f : K → X → Option Y) where
  pub entries_picked : (m : FinMap R X) → entries (from_entries {R = R} (filter_map (pick_entry f) (entries m))) ≡ filter_map (pick_entry f) (entries m)
  entries_picked m = entries_rising o a (filter_map (pick_entry f) (entries m)) (sorted_picked R f (entries m) (entries_sorted m))
