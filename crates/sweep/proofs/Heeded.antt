-- Nothing goes from beside a bucket that the listing of the account had and that HEAD misses, over every observable store.
use Rattle.std.specs.Prelude.{◌≡◌, ℕ, Bool, true, false, is_some, List, Result, Ok, Err, IfOk}
use Rattle.std.specs.FinMap.{get}
use Rattle.std.specs.Result.{IsErrAnd}
use Rattle.std.proofs.Common.{sym, ap, ◌∙◌, true≢false}
use Rattle.gate_base.specs.Maps.{Names}
use Rattle.swift_calls.specs.History.{History}
use Rattle.account_calls.specs.Calls.{GoesOn}
use Rattle.account_calls.specs.Told.{LeavesThroughout}
use Rattle.account_calls.specs.declared.fault.PlanFault.{PlanFault}
use Rattle.account_calls.proofs.lemmas.Left.{throughout_end}
use Rattle.leftovers.specs.Strays.{SaysThere}
use Rattle.sweep.specs.Containers.{HeedsListed}
use Rattle.sweep.specs.declared.account.Swept.{Swept}

no_ok : (result : Result Swept PlanFault) (f : PlanFault) → IsErrAnd result (λ e. e ≡ f) → IfOk result (λ swept. ⊥)
no_ok (Ok swept) f is = absurd is
no_ok (Err e) f is = tt

pub heeds_unknown : (table : Names Bool) (bucket : List ℕ) {old new : History} (f : PlanFault) → GoesOn old new → LeavesThroughout old new
    → (result : Result Swept PlanFault) → IsErrAnd result (λ e. e ≡ f) → HeedsListed table bucket old new result
heeds_unknown table bucket f on leaves result is = record { so = λ observable listed missing. (throughout_end on leaves observable, no_ok result f is) }

pub heeds_listed : (table : Names Bool) (bucket : List ℕ) {old new : History} {f : PlanFault} → GoesOn old new → LeavesThroughout old new → HeedsListed table bucket old new (Err f)
heeds_listed table bucket on leaves = record { so = λ observable listed missing. (throughout_end on leaves observable, tt) }

-- HEAD found the bucket
pub not_there : (table : Names Bool) (bucket : List ℕ) {old new : History} (told : Bool) → SaysThere {E = PlanFault} bucket old (Ok told) → told ≡ true → {result : Result Swept PlanFault} → HeedsListed table bucket old new result
not_there table bucket told says is = record { so = λ observable listed missing. absurd (true≢false (sym is ∙ says observable ∙ ap is_some missing)) }

-- the listing didn't have it
pub unlisted : (table : Names Bool) (bucket : List ℕ) {old new : History} → is_some (get table bucket) ≡ false → {result : Result Swept PlanFault} → HeedsListed table bucket old new result
unlisted table bucket not = record { so = λ observable listed missing. absurd (true≢false (sym listed ∙ not)) }
