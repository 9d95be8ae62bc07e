-- Keys that come one after the other, in the order of their bytes, and the items that they make so far. Source: Amazon S3
-- API Reference, "ListObjects", and this profile.
use Rattle.std.specs.Prelude.{◌≡◌, ℕ, nat_lt, Bool, false, ◌&&◌, List, [], ◌∷◌, ◌++◌, length, take, map, Option, true}
use Rattle.std.specs.declared.cmp.Ordering.TheVariants.{Less}
use Rattle.std.specs.Ordering.{is_gt, eq_by_cmp}
use Rattle.std.specs.FinMap.{entries, from_entries}
use Rattle.gate_base.specs.Maps.{name_cmp}
use Rattle.s3_machine.specs.Items.{begins, row_of, behind}

-- what is wanted of a listing: keys with a prefix, rolled up by a delimiter, texts behind a marker, and at most so many
pub record Wanted : Type 0 where
  pub prefix : List ℕ
  pub delimiter : List ℕ
  pub marker : List ℕ
  pub max : ℕ

-- the rows of keys with the prefix, as a set in the order of the bytes
abbrev pub all_rows : {H : Type 0} → Wanted → List (List ℕ × H) → List (List ℕ × Option H)
all_rows w keys = entries (from_entries {R = name_cmp} (map (row_of w.prefix w.delimiter) keys))

-- the first rows of keys with the prefix, and whether one is left over
abbrev pub first_rows : {H : Type 0} → Wanted → List (List ℕ × H) → List (List ℕ × Option H) × Bool
first_rows w keys =
    let rows = behind w.marker (all_rows w keys) in
    (take w.max rows, nat_lt 0 w.max && nat_lt w.max (length rows))

-- each key stands before this one
abbrev pub Before : {X : Type 0} → List ℕ → List (List ℕ × X) → Type 0
Before k [] = Unit {0}
Before k (e ∷ es) = (name_cmp e.0 k ≡ Less) × Before k es

-- further keys, which begin with the prefix, each behind all before it
abbrev pub Rises : {H : Type 0} → List ℕ → List (List ℕ × H) → List (List ℕ × H) → Type 0
Rises prefix seen [] = Unit {0}
Rises prefix seen (k ∷ rest) = (begins prefix k.0 ≡ true) × Before k.0 seen × Rises prefix (seen ++ k ∷ []) rest

-- a text comes before another, or is the same
abbrev pub UpTo : List ℕ → List ℕ → Type 0
UpTo a b = is_gt (name_cmp a b) ≡ false

abbrev pub AllUpTo : {X : Type 0} → List ℕ → List (List ℕ × X) → Type 0
AllUpTo t [] = Unit {0}
AllUpTo t (e ∷ es) = UpTo e.0 t × AllUpTo t es

-- whether the last row has this text
abbrev pub ends : {X : Type 0} → List ℕ → List (List ℕ × X) → Bool
ends t [] = false
ends t (e ∷ []) = eq_by_cmp name_cmp t e.0
ends t (e ∷ f ∷ es) = ends t (f ∷ es)

-- after these keys: the first rows that a listing gives of them, and whether one more is left over; the text of any
-- later key comes behind all of their rows, or is the last of them
pub record Rolled {H : Type 0} (w : Wanted) (shown : List (List ℕ × Option H)) (more : Bool) (seen : List (List ℕ × H)) : Type 0 where
  pub rows : shown ≡ take w.max (behind w.marker (all_rows w seen))
  pub over : more ≡ nat_lt w.max (length (behind w.marker (all_rows w seen)))
  pub top : (rest : List ℕ) (h : H) → Before (w.prefix ++ rest) seen → AllUpTo (row_of w.prefix w.delimiter (w.prefix ++ rest, h)).0 (all_rows w seen)
