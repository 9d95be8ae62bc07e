-- What one call more adds to the calls that were to fail.
use Rattle.std.specs.Prelude.{◌≡◌, ℕ, ◌+◌, List, if◌then◌else◌, refl}
use Rattle.std.proofs.Common.{add-one}
use Rattle.gate_base.specs.Listed.{is_listed, listed}

-- one call more
pub listed_next : (fails : List ℕ) (made : ℕ)
    → listed fails (made + 1) ≡ listed fails made + (if is_listed fails (made + 1) then 1 else 0)
unfolding listed
listed_next fails made = rw add-one refl
