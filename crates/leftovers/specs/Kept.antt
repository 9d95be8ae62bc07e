-- What is kept of the segments beside a bucket, as a sweep remembers it. Source: this profile.
use Rattle.std.specs.Prelude.{ℕ, Bool, not, ◌||◌, List, is_some}
use Rattle.std.specs.FinMap.{get}
use Rattle.leftovers.specs.Leftovers.{id_in}
use Rattle.leftovers.specs.declared.kept.Kept.{Kept}

-- a segment of this name is kept: it is listed, or an upload of its id is open
abbrev pub keeps : Kept → List ℕ → Bool
keeps kept name = is_some (get kept.listed name) || is_some (get kept.opened (id_in name))

-- or it goes
abbrev pub goes : Kept → List ℕ → Bool
goes kept name = not (keeps kept name)
