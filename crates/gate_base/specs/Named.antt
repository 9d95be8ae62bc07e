-- Lists of things with names, and the maps that they represent. `name` gives a thing's name, `value` what the map
-- has of it.
--     ascends names             names ascend strictly, in byte order
--     map_of name value things  the map of a list: of two things with one name the first counts
--     named name n things       the first thing of a name
--     index_named               and its index
--     count_below name n things how many of the first things have lesser names
--     placed name thing things  a thing put in its place
--     changed name n f things   the first thing of a name changed
use Rattle.std.specs.Prelude.{ℕ, Bool, true, false, cond, ◌&&◌, List, [], ◌∷◌, Option, None, Some}
use Rattle.std.specs.List.{find, position, prefix_len}
use Rattle.std.specs.FinMap.{empty, insert}
use Rattle.std.specs.declared.cmp.Ordering.{Ordering}
use Rattle.std.specs.declared.cmp.Ordering.TheVariants.{Less, Equal, Greater}
use Rattle.std.specs.Ordering.{is_lt, is_gt, eq_by_cmp}
use Rattle.gate_base.specs.Maps.{Names, name_cmp}

-- a name is less than the next, if there is one
abbrev pub is_below_next : List ℕ → List (List ℕ) → Bool
is_below_next a [] = true
is_below_next a (b ∷ rest) = is_lt (name_cmp a b)

abbrev pub ascends : List (List ℕ) → Bool
ascends [] = true
ascends (a ∷ rest) = is_below_next a rest && ascends rest

abbrev pub map_of : {A X : Type 0} → (A → List ℕ) → (A → X) → List A → Names X
map_of name value [] = empty
map_of name value (a ∷ rest) = insert (map_of name value rest) (name a) (value a)

abbrev pub has_name : {A : Type 0} → (A → List ℕ) → List ℕ → A → Bool
has_name name n a = eq_by_cmp name_cmp n (name a)

abbrev pub one_has_name : {A : Type 0} → (A → List ℕ) → List ℕ → Option A → Bool
one_has_name name n None = false
one_has_name name n (Some a) = has_name name n a

abbrev pub named : {A : Type 0} → (A → List ℕ) → List ℕ → List A → Option A
named name n things = find (has_name name n) things

abbrev pub index_named : {A : Type 0} → (A → List ℕ) → List ℕ → List A → Option ℕ
index_named name n things = position (has_name name n) things

-- how many of the first things have lesser names
abbrev pub count_below : {A : Type 0} → (A → List ℕ) → List ℕ → List A → ℕ
count_below name n things = prefix_len (λ a. is_gt (name_cmp n (name a))) things

abbrev pub by_order : {B : Type 0} → Ordering → B → B → B → B
by_order Less a b c = a
by_order Equal a b c = b
by_order Greater a b c = c

-- in a list in order of names over the thing of its name, or else before the first with a greater name
unfoldable pub placed : {A : Type 0} → (A → List ℕ) → A → List A → List A
placed name a [] = a ∷ []
placed name a (b ∷ rest) = by_order (name_cmp (name a) (name b)) (a ∷ b ∷ rest) (a ∷ rest) (b ∷ placed name a rest)

unfoldable pub changed : {A : Type 0} → (A → List ℕ) → List ℕ → (A → A) → List A → List A
changed name n f [] = []
changed name n f (a ∷ rest) = cond (has_name name n a) (f a ∷ rest) (a ∷ changed name n f rest)
