-- How many files go is counted by calls; calls before them count too.
use Rattle.std.specs.Prelude.{◌≤◌, ◌<◌, ◌+◌, ◌^◌, ℕ, IfOk, Result, Ok, Err}
use Rattle.std.proofs.Common.{arith}

pub counted_later : {E : Type 0} {p q : ℕ} (r : ℕ) → p ≤ q → (result : Result ℕ E) → IfOk result (λ count. q + count ≤ r) → IfOk result (λ count. p + count ≤ r)
counted_later r order (Ok count) told = omega (arith, order, told)
counted_later r order (Err f) told = tt

pub fits_later : {E : Type 0} {p q : ℕ} → p ≤ q → (result : Result ℕ E) → IfOk result (λ count. q + count < 2 ^ 64) → IfOk result (λ count. p + count < 2 ^ 64)
fits_later order (Ok count) told = omega (arith, order, told)
fits_later order (Err f) told = tt
