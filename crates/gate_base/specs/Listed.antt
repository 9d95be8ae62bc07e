-- The calls of an object in memory are numbered from 1, and it is given the numbers of those that fail. Source: this profile.
use Rattle.std.specs.Prelude.{ℕ, zero, suc, ◌+◌, ◌-◌, ◌^◌, ◌==◌, nat_lt, Bool, ◌&&◌, List, if◌then◌else◌}
use Rattle.std.specs.List.{list_any}

-- the call of this number is to fail
abbrev pub is_listed : List ℕ → ℕ → Bool
is_listed fails number = list_any (λ k. k == number) fails

-- the call after these is to fail; a call past the greatest value of a `u64` has no number
abbrev pub is_next_listed : List ℕ → ℕ → Bool
is_next_listed fails made = nat_lt made (2 ^ 64 - 1) && is_listed fails (made + 1)

-- how many of the calls 1 to made were to fail
unfoldable pub listed : List ℕ → ℕ → ℕ
listed fails zero = 0
listed fails (suc made) = listed fails made + (if is_listed fails (suc made) then 1 else 0)
