-- A sweep that forgets what is before no moment forgets nothing.
use Rattle.std.specs.Prelude.{◌≡◌, ℕ, zero, suc, nat_lt, false, cond, List, [], ◌∷◌, ◌++◌, map, flat_map, take, Result, Ok, Err}
use Rattle.std.specs.List.{filter}
use Rattle.std.specs.FinMap.{entries}
use Rattle.std.proofs.Common.{refl, ap, ◌∙◌, arith}
use Rattle.std.proofs.lemmas.List.Concat.{flat_map-cons}
use Rattle.s3_machine.specs.State.{Bucket, Completion, State}
use Rattle.swift_calls.specs.History.{History}
use Rattle.upload_records.specs.Native.{s3_state}
use Rattle.account_calls.specs.declared.fault.PlanFault.{PlanFault}
use Rattle.account_calls.specs.declared.fault.PlanFault.TheVariants as fault
use Rattle.account_calls.specs.Calls.{Keeps}
use Rattle.account_calls.specs.Stutters.{Stutters}
use Rattle.sweep.specs.declared.account.Swept.{Swept}
use Rattle.leftovers.specs.declared.fault.SweepFault.{SweepFault}
use Rattle.sweep.specs.Forgetting.{all_old, is_older, old_in, without_kept}
use Rattle.sweep.specs.Swept.{Forgets, ForgetsBy, SweepsAccount, SweepsBefore, TellsSwept}
use Rattle.leftovers.specs.Faults.{as_plan}
use Rattle.sweep.proofs.ForgetCalls.{Pairs, not_lt, without_nothing}

none_older : (es : List (List ℕ × Completion)) → filter (λ (k : List ℕ × Completion). is_older 0 k.1) es ≡ []
none_older [] = refl
none_older (k ∷ es) =
    let later : nat_lt k.1.moment 0 ≡ false = not_lt k.1.moment 0 (omega arith) in
    ap (λ t. cond t (k ∷ filter (λ (x : List ℕ × Completion). is_older 0 x.1) es) (filter (λ (x : List ℕ × Completion). is_older 0 x.1) es)) later ∙ none_older es

none_in : (e : List ℕ × Bucket) → old_in 0 e ≡ []
none_in e = ap (map (λ (k : List ℕ × Completion). (e.0, k.0))) (none_older (entries e.1.kept))

none_of : (es : List (List ℕ × Bucket)) → flat_map (old_in 0) es ≡ []
none_of [] = refl
none_of (e ∷ es) = flat_map-cons (old_in 0) e es ∙ (λ i. none_in e i ++ none_of es i)

none_old : (state : State) → all_old 0 state ≡ []
none_old state = none_of (entries state)

take_nothing : (n : ℕ) (olds : Pairs) → olds ≡ [] → take n olds ≡ []
take_nothing zero [] is = refl
take_nothing zero (x ∷ olds) is = refl
take_nothing (suc n) [] is = refl
take_nothing (suc n) (x ∷ olds) is = cc

stays_so : (state : State) (n : ℕ) → without_kept (take n (all_old 0 state)) state ≡ state
stays_so state n = ap (λ l. without_kept l state) (take_nothing n (all_old 0 state) (none_old state)) ∙ without_nothing state

quiet_of : (h : History) (p q : ℕ) → Forgets 0 h p q → Stutters h p q
quiet_of h p q forgets = record {
  ordered = forgets.ordered;
  same = λ k from to. forgets.is k from to ∙ stays_so (s3_state (h.account_at p)) (forgets.gone k);
  sound = forgets.sound;
}

keeps_by : (h : History) (p q : ℕ) (result : Result Swept PlanFault) → ForgetsBy 0 h p q result → Keeps h p q TellsSwept result
keeps_by h p q (Ok swept) forgets = (quiet_of h p q forgets.0, forgets.1, forgets.2.sweeps)
keeps_by h p q (Err fault.Failed) forgets = (quiet_of h p q forgets.0, forgets.1)
keeps_by h p q (Err fault.Memory) forgets = (quiet_of h p q forgets.0, forgets.1)
keeps_by h p q (Err fault.Inconsistent) never = never

pub sweeps_nothing : {a b : History} (result : Result Swept SweepFault) → SweepsBefore 0 a b result → SweepsAccount a b result
sweeps_nothing {a = a} {b = b} result sweeps = record {
  grows = sweeps.grows;
  cause = sweeps.cause;
  effect = λ met. keeps_by b a.called b.called (as_plan result) (sweeps.effect met);
  settled = sweeps.settled;
}
