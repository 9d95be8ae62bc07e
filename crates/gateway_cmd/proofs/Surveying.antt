-- A run that surveys the account, by how that ended, and by its exit status.
use Rattle.std.specs.Prelude.{◌≡◌, ◌≢◌, ◌⊎◌, ◌==◌, ℕ, true, false, List, Result, Ok, Err}
use Rattle.std.proofs.Common.{refl, sym, ap, subst, ◌∙◌, inl, inr, arith}
use Rattle.gate_base.specs.Causes.{RisesIf}
use Rattle.gate_base.specs.Told.{SinkModel}
use Rattle.sigv4.specs.Keys.{keys_of, are_keys}
use Rattle.swift_calls.specs.History.{History, present}
use Rattle.account_calls.specs.Calls.{Any, Keeps, Met, by_account}
use Rattle.account_calls.specs.Fault.{CausesFault}
use Rattle.account_calls.specs.Listing.{TellsOf}
use Rattle.account_calls.specs.Stutters.{Stutters}
use Rattle.account_calls.proofs.lemmas.Idle.{goes_none, none_made}
use Rattle.sweep.specs.Swept.{TellsSurvey, account_calls, survey_of}
use Rattle.leftovers.specs.Faults.{as_plan}
use Rattle.leftovers.specs.declared.fault.SweepFault.{SweepFault}
use Rattle.leftovers.specs.declared.fault.SweepFault.TheVariants as sweeping
use Rattle.sweep.specs.declared.counting.Surveyed.{Surveyed}
use Rattle.gateway_cmd.specs.declared.status.RunOutcome.{RunOutcome}
use Rattle.gateway_cmd.specs.declared.status.RunOutcome.TheVariants.{Plain}
use Rattle.gateway_cmd.specs.declared.status.Status.TheVariants.{Memory}
use Rattle.gateway_cmd.specs.declared.status.Told.TheVariants.{Survey}
use Rattle.gateway_cmd.specs.Report.{Reports, Says, surveyed_line, surveyed_outcome}
use Rattle.gateway_cmd.specs.Session.{RunSurveys, keys_refused, none_surveyed, out_of_memory, was_surveyed}
use Rattle.gateway_cmd.specs.Sweeps.{StoreSurveyed, Surveys}
use Rattle.gateway_cmd.proofs.Exits.{Exits, says_exits}
use Rattle.gateway_cmd.proofs.Recoveries.{idle_status, stayed, within_none}
use Rattle.gateway_cmd.proofs.Unswept.{told_faults, told_never_seven, told_reports, unswept_faults, unswept_status}

-- ---- whatever the status

quiet_survey : {h : History} {p q : ℕ} (result : Result Surveyed SweepFault) → Keeps h p q (TellsOf TellsSurvey) (as_plan result) → Stutters h p q
quiet_survey (Ok told) keeps = keeps.0
quiet_survey (Err sweeping.Failed) keeps = keeps.0
quiet_survey (Err sweeping.Memory) keeps = keeps.0
quiet_survey (Err (sweeping.Inconsistent container name)) keeps = absurd keeps

-- the state stays
pub surveys_quietly : {keys : List ℕ} {ended : RunOutcome} {old new : History} → RunSurveys keys ended old new → Met Any old → Stutters new old.called new.called
surveys_quietly {old = old} (none_surveyed same idle) met = subst (λ h. Stutters h old.called h.called) (sym same) (none_made refl met.sound)
surveys_quietly (was_surveyed surveys) met = quiet_survey surveys.result (surveys.surveys.effect met)

-- where the keys are taken and memory did not run out, the account was surveyed, or could not be
pub was_counted : {keys : List ℕ} {ended : RunOutcome} {old new : History} → RunSurveys keys ended old new → are_keys (keys_of keys) ≡ true → ended ≢ Plain Memory → Surveys ended old new
was_counted (none_surveyed same (out_of_memory memory)) good other = absurd (other memory)
was_counted (none_surveyed same (keys_refused usage bad)) good other = absurd (let no : true ≡ false = sym good ∙ bad in cc)
was_counted (was_surveyed surveys) good other = surveys

-- ---- by the status

survey_faults : (before now : ℕ) (result : Result Surveyed SweepFault) (n : ℕ) → Exits (surveyed_outcome result) n → CausesFault before now (as_plan result) → RisesIf (n == 4) before now
survey_faults before now (Ok told) n x cause = told_faults before now (Survey told) n x cause
survey_faults before now (Err fault) n x cause = unswept_faults Surveyed before now fault n x cause

survey_never_seven : (h : History) (p q : ℕ) (result : Result Surveyed SweepFault) (n : ℕ) → Exits (surveyed_outcome result) n → Keeps h p q (TellsOf TellsSurvey) (as_plan result) → n ≡ 7 → ⊥
survey_never_seven h p q (Ok told) n x keeps e = told_never_seven (Survey told) n x e
survey_never_seven h p q (Err sweeping.Failed) n four keeps e = omega arith
survey_never_seven h p q (Err sweeping.Memory) n five keeps e = omega arith
survey_never_seven h p q (Err (sweeping.Inconsistent container name)) n x keeps e = keeps

-- by 0 and 6 it was surveyed: what is told is of the account at entry, which is left as it is
survey_tells : (h : History) (p q : ℕ) (result : Result Surveyed SweepFault) (n : ℕ) → Exits (surveyed_outcome result) n → (n ≡ 0) ⊎ (n ≡ 6) → Keeps h p q (TellsOf TellsSurvey) (as_plan result)
    → (told : Surveyed) × (result ≡ Ok told) × TellsOf TellsSurvey (h.account_at p) (h.account_at q) told
survey_tells h p q (Ok told) n x e keeps = (told, refl, keeps.2)
survey_tells h p q (Err fault) n x e keeps = absurd (unswept_status fault n x e)

idle_surveyed : {h : History} (n : ℕ) → (n ≡ 2) ⊎ (n ≡ 5) → StoreSurveyed n h h
idle_surveyed {h = h} n is = record {
  grows = record { on = goes_none h; calls = within_none (by_account (account_calls (present h))) (Met Any h) h.called };
  faults = elim is [ inl two ↦ stayed n 2 two refl refl | inr five ↦ stayed n 5 five refl refl ];
  consistent = λ met seven. elim is [ inl two ↦ omega arith | inr five ↦ omega arith ];
  same = λ met. none_made refl met.sound;
  left = λ met e. refl;
}

pub store_surveyed : {keys : List ℕ} {ended : RunOutcome} {old new : History} (n : ℕ) → Exits ended n → RunSurveys keys ended old new → StoreSurveyed n old new
store_surveyed {old = old} n x (none_surveyed same idle) = subst (StoreSurveyed n old) (sym same) (idle_surveyed n (idle_status n idle x))
store_surveyed {old = old} {new = new} n x (was_surveyed surveys) =
    let exits = subst (λ how. Exits how n) surveys.is x in
    record {
      grows = surveys.surveys.grows;
      faults = survey_faults old.faults new.faults surveys.result n exits surveys.surveys.cause;
      consistent = λ met. survey_never_seven new old.called new.called surveys.result n exits (surveys.surveys.effect met);
      same = λ met. quiet_survey surveys.result (surveys.surveys.effect met);
      left = λ met e. let tells = survey_tells new old.called new.called surveys.result n exits e (surveys.surveys.effect met) in tells.2.same ∙ (surveys.surveys.grows.on.kept met.observable).accounts old.called (omega arith);
    }

-- and its line is what stands on the account
pub survey_reports : {keys : List ℕ} {ended : RunOutcome} {old new : History} {sink sink' : SinkModel} (n : ℕ) (text : List ℕ) → Says ended n text → Reports text sink sink' → RunSurveys keys ended old new → Met Any old → (n ≡ 0) ⊎ (n ≡ 6)
    → Reports (surveyed_line (survey_of (present old))) sink sink'
survey_reports {ended = ended} n text says reports (none_surveyed same idle) met e =
    absurd (elim (idle_status n idle (says_exits ended n text says)) [
      | inl two ↦ elim e [ inl zero ↦ omega arith | inr six ↦ omega arith ]
      | inr five ↦ elim e [ inl zero ↦ omega arith | inr six ↦ omega arith ]
    ])
survey_reports {ended = ended} {old = old} {new = new} {sink = sink} {sink' = sink'} n text says reports (was_surveyed surveys) met e =
    let said = subst (λ how. Says how n text) surveys.is says in
    let tells = survey_tells new old.called new.called surveys.result n (says_exits _ n text said) e (surveys.surveys.effect met) in
    let told = subst (λ result. Says (surveyed_outcome result) n text) tells.1 said in
    let line = told_reports {old = sink} {new = sink'} (Survey tells.0) n text told e reports in
    let counts : tells.0 ≡ survey_of (present old) = tells.2.of_account ∙ ap survey_of ((surveys.surveys.grows.on.kept met.observable).accounts old.called (omega arith)) in
    subst (λ (s : Surveyed). Reports (surveyed_line s) sink sink') counts line
