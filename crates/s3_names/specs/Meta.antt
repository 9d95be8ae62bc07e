-- User metadata: pairs of a name and a value, in the byte order of the names, no name twice. Source: Amazon S3 User
-- Guide, "Working with object metadata"; that no name stands twice is this profile.
use Rattle.std.specs.Prelude.{ℕ, Bool, true, not, ◌&&◌, List, [], ◌∷◌, insert}
use Rattle.std.specs.Cmp.Lexicographic.{slice_cmp}
use Rattle.std.specs.Ordering.{nat_cmp, is_lt}
use Rattle.std.specs.List.{list_any, position_or_len}
use Rattle.std.specs.Str.{bytes_eq}
use Rattle.gate_base.specs.declared.page.Pair.{Pair}

-- the name of the pair stands before this one in byte order
abbrev pub is_before : List ℕ → Pair → Bool
is_before name pair = is_lt (slice_cmp nat_cmp pair.name name)

-- the names ascend, so that none stands twice
unfoldable pub names_ascend : List Pair → Bool
names_ascend [] = true
names_ascend (a ∷ []) = true
names_ascend (a ∷ b ∷ pairs) = is_before b.name a && names_ascend (b ∷ pairs)

abbrev pub has_name : List ℕ → List Pair → Bool
has_name name pairs = list_any (λ pair. bytes_eq pair.name name) pairs

-- the first place whose name isn't before this one, or the end
abbrev pub place_of : List ℕ → List Pair → ℕ
place_of name pairs = position_or_len (λ pair. not (is_before name pair)) pairs

-- the pairs with one more in its place
unfoldable pub with_pair : List ℕ → List ℕ → List Pair → List Pair
with_pair name value pairs = insert pairs (place_of name pairs) (record { name = name; value = value })
