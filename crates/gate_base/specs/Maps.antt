-- Finite maps by names and by numbers, on std's `FinMap`, and three ways to make one from another.
--     name_cmp, Names X, Numbers X      the order of names;  a map by names, a map by numbers
--     adjust k f m, picked f m, table f n      the value at k changed;  what f takes over of each entry;  the values of f at 1 to n
-- What is found in them then stands in proofs/lemmas/Maps.antt.
use Rattle.std.specs.Prelude.{ℕ, zero, suc, List, Option}
use Rattle.std.specs.Option.{option_map, unwrap_or}
use Rattle.std.specs.List.{filter_map}
use Rattle.std.specs.declared.cmp.Ordering.{Ordering}
use Rattle.std.specs.Ordering.{nat_cmp}
use Rattle.std.specs.Cmp.Lexicographic.{slice_cmp}
use Rattle.std.specs.FinMap.{FinMap, entries, empty, get, insert, from_entries}

-- byte by byte, and a name before what it begins
abbrev pub name_cmp : List ℕ → List ℕ → Ordering
name_cmp = slice_cmp nat_cmp

abbrev pub Names : Type 0 → Type 0
Names X = FinMap name_cmp X

abbrev pub Numbers : Type 0 → Type 0
Numbers X = FinMap nat_cmp X

-- the value at k changed by f, where there is one
unfoldable pub adjust : {K X : Type 0} {R : K → K → Ordering} → K → (X → X) → FinMap R X → FinMap R X
adjust k f m = unwrap_or (option_map (λ x. insert m k (f x)) (get m k)) m

abbrev pub pick_entry : {K X Y : Type 0} → (K → X → Option Y) → K × X → Option (K × Y)
pick_entry f e = option_map (λ y. (e.0, y)) (f e.0 e.1)

-- what f takes over of each entry; one of which it takes nothing is left out
unfoldable pub picked : {K X Y : Type 0} {R : K → K → Ordering} → (K → X → Option Y) → FinMap R X → FinMap R Y
picked f m = from_entries (filter_map (pick_entry f) (entries m))

-- the values of f at 1 to n, where it has one
unfoldable pub table : {X : Type 0} → (ℕ → Option X) → ℕ → Numbers X
table f zero = empty
table f (suc n) = unwrap_or (option_map (insert (table f n) (suc n)) (f (suc n))) (table f n)
