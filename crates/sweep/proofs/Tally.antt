-- What goes from a container is counted by the calls that are made.
use Rattle.std.specs.Prelude.{◌≤◌, ◌<◌, ◌+◌, ◌^◌, ℕ, IfOk, Result, Ok, Err}
use Rattle.std.proofs.Common.{refl, inl, inr, arith}
use Rattle.sweep.specs.declared.account.Swept.{Swept}
use Rattle.sweep.specs.Walk.{Tallies}
use Rattle.sweep.proofs.Beside.{swept_of}

-- without a call nothing does
pub tallies_none : (p : ℕ) → Tallies p p (swept_of 0 0 0)
tallies_none p = record { paid = omega arith; fits = inl refl; leaves = record { migrated = refl; forgotten = refl } }

pub tallies_of : {p q : ℕ} (segments records containers : ℕ) → p + (segments + records + containers) ≤ q → p + (segments + records + containers) < 2 ^ 64 → Tallies p q (swept_of segments records containers)
tallies_of segments records containers paid fits = record { paid = paid; fits = inr fits; leaves = record { migrated = refl; forgotten = refl } }

-- calls before it count for it too
pub tallies_later : {p q r : ℕ} (swept : Swept) → p ≤ q → Tallies q r swept → Tallies p r swept
tallies_later swept order told = record {
  paid = let paid = told.paid in omega (arith, order, paid);
  fits = elim (told.fits) [
    | inl none ↦ inl none
    | inr fits ↦ inr (omega (arith, order, fits))
  ];
  leaves = told.leaves;
}

pub tallied_later : {E : Type 0} {p q : ℕ} (r : ℕ) → p ≤ q → (result : Result Swept E) → IfOk result (Tallies q r) → IfOk result (Tallies p r)
tallied_later r order (Ok swept) told = tallies_later swept order told
tallied_later r order (Err f) told = tt
