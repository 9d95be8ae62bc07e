-- What a count of calls or of faults says of a call. Source: this profile.
use Rattle.std.specs.Prelude.{◌≡◌, ◌<◌, ◌≤◌, ℕ, ◌+◌, ◌-◌, ◌^◌, min, max, Bool, true, false, if◌then◌else◌}

-- the count of faults rose: it is greater, or it is kept by a `u64` that has come to its greatest value
abbrev pub Rose : ℕ → ℕ → Type 0
Rose before now = max before (min (before + 1) (2 ^ 64 - 1)) ≤ now

-- the count rose, if the call failed, and else it stayed
abbrev pub RisesIf : Bool → ℕ → ℕ → Type 0
RisesIf true before now = Rose before now
RisesIf false before now = now ≡ before

-- one of the 2^63 calls that there are was made
abbrev pub Spends : ℕ → ℕ → Type 0
Spends before now = (before < 2 ^ 63) × (now ≡ before + 1)

abbrev pub SpendsIf : Bool → ℕ → ℕ → Type 0
SpendsIf true before now = Spends before now
SpendsIf false before now = now ≡ before

-- one more of what a `u64` counts: at its greatest value the count stays
abbrev pub one_more : ℕ → ℕ
one_more count = min (count + 1) (2 ^ 64 - 1)

abbrev pub one_more_if : Bool → ℕ → ℕ
one_more_if more count = if more then one_more count else count
