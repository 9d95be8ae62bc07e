-- The paths of a manifest, `/CONTAINER/NAME`. Source: Object Storage API v1, "Static large objects". The container
-- ends at the second slash; that the first may be absent is this profile.
use Rattle.std.specs.Prelude.{ℕ, if◌then◌else◌, List, [], ◌∷◌, ◌++◌}
use Rattle.std.specs.List.{before_first, after_first}
use Rattle.gate_base.specs.Ascii.{is_slash}

-- the path of an object in a manifest
abbrev pub path_of : List ℕ → List ℕ → List ℕ
path_of container name = 47 ∷ (container ++ 47 ∷ name)

-- the path without the slash that it may begin with
abbrev pub relative : List ℕ → List ℕ
relative [] = []
relative (byte ∷ rest) = if is_slash byte then rest else byte ∷ rest

abbrev pub container_in : List ℕ → List ℕ
container_in path = before_first is_slash (relative path)

-- no byte, where no slash ends the container
abbrev pub name_in : List ℕ → List ℕ
name_in path = after_first is_slash (relative path)
