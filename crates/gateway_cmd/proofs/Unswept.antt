-- A run whose account could not be swept or surveyed, by its exit status, and one that has something to tell of it.
use Rattle.std.specs.Prelude.{◌≡◌, ◌⊎◌, ◌==◌, ℕ, List, Err}
use Rattle.std.proofs.Common.{refl, sym, ap, subst, inl, inr, arith}
use Rattle.gate_base.specs.Causes.{RisesIf}
use Rattle.gate_base.specs.Told.{SinkModel}
use Rattle.account_calls.specs.Fault.{CausesFault}
use Rattle.leftovers.specs.Faults.{plan_of}
use Rattle.leftovers.specs.declared.fault.SweepFault.{SweepFault}
use Rattle.leftovers.specs.declared.fault.SweepFault.TheVariants as sweeping
use Rattle.gateway_cmd.specs.declared.status.RunOutcome.TheVariants.{Told}
use Rattle.gateway_cmd.specs.declared.status.Told.{Told as Reported}
use Rattle.gateway_cmd.specs.Report.{Reports, Says, lines_of, unswept}
use Rattle.gateway_cmd.proofs.Exits.{Exits}
use Rattle.gateway_cmd.proofs.Recoveries.{stayed}

-- the count of faults rose by 4, and only then
pub unswept_faults : (T : Type 0) (before now : ℕ) (fault : SweepFault) (n : ℕ) → Exits (unswept fault) n → CausesFault {T = T} before now (Err (plan_of fault)) → RisesIf (n == 4) before now
unswept_faults T before now sweeping.Failed n four cause = subst (λ failed. RisesIf failed before now) (sym (ap (λ k. k == 4) four)) cause
unswept_faults T before now sweeping.Memory n five cause = stayed n 5 five refl cause
unswept_faults T before now (sweeping.Inconsistent container name) n (inl seven) cause = stayed n 7 seven refl cause
unswept_faults T before now (sweeping.Inconsistent container name) n (inr five) cause = stayed n 5 five refl cause

pub told_faults : (before now : ℕ) (told : Reported) (n : ℕ) → Exits (Told told) n → now ≡ before → RisesIf (n == 4) before now
told_faults before now told n (inl zero) same = stayed n 0 zero refl same
told_faults before now told n (inr (inl five)) same = stayed n 5 five refl same
told_faults before now told n (inr (inr six)) same = stayed n 6 six refl same

-- 7 is of an account that was found inconsistent alone
pub told_never_seven : (told : Reported) (n : ℕ) → Exits (Told told) n → n ≡ 7 → ⊥
told_never_seven told n (inl zero) e = omega arith
told_never_seven told n (inr (inl five)) e = omega arith
told_never_seven told n (inr (inr six)) e = omega arith

-- 0 and 6 are those of a run that has something to tell
pub unswept_status : (fault : SweepFault) (n : ℕ) → Exits (unswept fault) n → (n ≡ 0) ⊎ (n ≡ 6) → ⊥
unswept_status sweeping.Failed n four (inl zero) = omega arith
unswept_status sweeping.Failed n four (inr six) = omega arith
unswept_status sweeping.Memory n five (inl zero) = omega arith
unswept_status sweeping.Memory n five (inr six) = omega arith
unswept_status (sweeping.Inconsistent container name) n (inl seven) (inl zero) = omega arith
unswept_status (sweeping.Inconsistent container name) n (inl seven) (inr six) = omega arith
unswept_status (sweeping.Inconsistent container name) n (inr five) (inl zero) = omega arith
unswept_status (sweeping.Inconsistent container name) n (inr five) (inr six) = omega arith

-- by these its lines were reported
pub told_reports : {old new : SinkModel} (told : Reported) (n : ℕ) (text : List ℕ) → Says (Told told) n text → (n ≡ 0) ⊎ (n ≡ 6) → Reports text old new → Reports (lines_of told) old new
told_reports {old = old} {new = new} told n text (inl (status, is)) e reports = subst (λ t. Reports t old new) is reports
told_reports told n text (inr (five, is)) (inl zero) reports = absurd (omega arith)
told_reports told n text (inr (five, is)) (inr six) reports = absurd (omega arith)
