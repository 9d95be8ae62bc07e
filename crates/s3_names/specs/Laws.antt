-- What the laws of this crate say of definitions.
use Rattle.std.specs.Prelude.{◌≡◌, ◌<◌, ◌⊎◌, ℕ, ◌^◌, true, false, List, Contains, Some}
use Rattle.gate_base.specs.declared.page.Pair.{Pair}
use Rattle.s3_names.specs.Id.{id_digits, id_of}
use Rattle.s3_names.specs.Meta.{names_ascend, has_name, with_pair}

-- pairs in the order of their names, with those of a list and one more
pub record HasOneMore (one : Pair) (pairs more : List Pair) : Type 0 where
  pub ascends : names_ascend more ≡ true
  pub only : (pair : Pair) → Contains more pair → (pair ≡ one) ⊎ Contains pairs pair
  pub has : Contains more one
  pub keeps : (pair : Pair) → Contains pairs pair → Contains more pair

abbrev pub WithPair : Type 0
WithPair = (name value : List ℕ) (pairs : List Pair) → names_ascend pairs ≡ true → has_name name pairs ≡ false
    → HasOneMore (record { name = name; value = value }) pairs (with_pair name value pairs)

-- an id of 128 bits is read back from its digits
abbrev pub IdReadsBack : Type 0
IdReadsBack = (id : ℕ) → id < 2 ^ 128 → id_of (id_digits id) ≡ Some id
