-- The items of a listing of objects: keys, and the common prefixes that keys roll up into. Source: Amazon S3 API Reference,
-- "ListObjects"; that keys roll up before the marker is this profile's.
use Rattle.std.specs.Prelude.{ℕ, Bool, true, false, cond, ◌&&◌, ◌==◌, nat_lt, List, [], ◌∷◌, ◌++◌, length, take, drop, map, Option, Some, None}
use Rattle.std.specs.List.{filter}
use Rattle.std.specs.Option.{option_map}
use Rattle.std.specs.Ordering.{is_lt}
use Rattle.std.specs.FinMap.{entries, from_entries}
use Rattle.gate_base.specs.Maps.{name_cmp}

-- the text begins with these bytes
abbrev pub begins : List ℕ → List ℕ → Bool
begins [] text = true
begins (c ∷ front) [] = false
begins (c ∷ front) (b ∷ text) = c == b && begins front text

-- the text up to and including the first occurrence of the delimiter, where there is one
abbrev pub rolled : List ℕ → List ℕ → Option (List ℕ)
rolled delimiter [] = None
rolled delimiter (b ∷ text) = cond (begins delimiter (b ∷ text)) (Some delimiter) (option_map (λ t. b ∷ t) (rolled delimiter text))

-- a delimiter of no byte rolls nothing up
abbrev pub roll_by : List ℕ → List ℕ → Option (List ℕ)
roll_by [] text = None
roll_by (c ∷ delimiter) text = rolled (c ∷ delimiter) text

-- what is listed for a key: its text, and what stands under it where it didn't roll up
abbrev pub row_by : {X : Type 0} → List ℕ → List ℕ → X → Option (List ℕ) → List ℕ × Option X
row_by prefix key x None = (key, Some x)
row_by prefix key x (Some text) = (prefix ++ text, None)

-- a delimiter counts behind the prefix alone; a key that ends in it rolls up too
abbrev pub row_of : {X : Type 0} → List ℕ → List ℕ → List ℕ × X → List ℕ × Option X
row_of prefix delimiter key = row_by prefix key.0 key.1 (roll_by delimiter (drop (length prefix) key.0))

-- the rows whose text is greater than the marker
abbrev pub behind : {X : Type 0} → List ℕ → List (List ℕ × X) → List (List ℕ × X)
behind marker rows = filter (λ row. is_lt (name_cmp marker row.0)) rows

-- the rows of these keys behind the marker, as a set in the order of the bytes
abbrev pub rows_of : {X : Type 0} → List ℕ → List ℕ → List ℕ → List (List ℕ × X) → List (List ℕ × Option X)
rows_of prefix delimiter marker keys = behind marker (entries (from_entries {R = name_cmp} (map (row_of prefix delimiter) keys)))

-- the entries under keys with the prefix
abbrev pub with_prefix : {X : Type 0} → List ℕ → List (List ℕ × X) → List (List ℕ × X)
with_prefix prefix keys = filter (λ key. begins prefix key.0) keys

-- the first rows of these keys, each with what stands under it, and whether one is left over; where none is asked for, none is
abbrev pub items : {X : Type 0} → List (List ℕ × X) → List ℕ → List ℕ → List ℕ → ℕ → List (List ℕ × Option X) × Bool
items keys prefix delimiter marker max =
    let rows = rows_of prefix delimiter marker (with_prefix prefix keys) in
    (take max rows, nat_lt 0 max && nat_lt max (length rows))
