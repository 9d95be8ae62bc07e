-- The ends of the plan of CompleteUpload, before a completion is sealed.
use Rattle.std.specs.Prelude.{◌≡◌, ◌≤◌, ℕ, Result, Ok, Err}
use Rattle.std.specs.Result.{IsErrAnd}
use Rattle.std.proofs.Common.{refl, sym, subst, arith}
use Rattle.s3_machine.specs.declared.operation.Label.{Label}
use Rattle.s3_machine.specs.declared.operation.Op.{Op}
use Rattle.s3_machine.specs.declared.code.Code.{Code}
use Rattle.s3_machine.specs.declared.operation.Reply.{Reply}
use Rattle.s3_machine.specs.declared.operation.Reply.TheVariants.{Refused}
use Rattle.s3_machine.specs.declared.operation.Settings.{Settings}
use Rattle.swift_calls.specs.Account.{SwiftAccount}
use Rattle.swift_calls.specs.History.{History, present}
use Rattle.account_calls.specs.declared.fault.PlanFault.{PlanFault}
use Rattle.account_calls.specs.declared.fault.PlanFault.TheVariants.{Memory}
use Rattle.account_calls.specs.declared.state.Known.TheVariants.{Settled}
use Rattle.account_calls.specs.Calls.{Bound, always, by_account, Any, Asks, GivenOf, Met}
use Rattle.account_calls.specs.Plan.{Plans}
use Rattle.account_calls.specs.Puts.{EnsuresIfDone}
use Rattle.account_calls.proofs.lemmas.Ends.{goes_on_from, out_of_memory}
use Rattle.account_calls.proofs.lemmas.Faults.{err_is}
use Rattle.account_calls.proofs.lemmas.Puts.{done_so}
use Rattle.plan_uploads.specs.declared.complete.Completing.{Completing}
use Rattle.plan_uploads.specs.Completing.{answered_by, end_in, known_in}

module _ {most : Bound} {a b : History} {settings : Settings} {given : SwiftAccount → Type 0} {op : Op} {label : Label} where
  -- a fault is handed on
  pub ends_with_fault : {f : PlanFault} (result : Result Completing PlanFault) → IsErrAnd result (λ e. e ≡ f) → Plans most a b settings given op label Settled (Err f)
      → Plans most a b settings given op label (known_in result) (end_in result)
  ends_with_fault {f = f} result is plans = subst (λ r. Plans most a b settings given op label (known_in r) (end_in r)) (sym (err_is result f is)) plans

  -- nothing is sealed
  pub ends_answered : (reply : Reply) (completing : Completing) → completing ≡ answered_by reply → Plans most a b settings given op label Settled (Ok reply)
      → Plans most a b settings given op label (known_in (Ok completing)) (end_in (Ok completing))
  ends_answered reply completing is plans = subst (λ r. Plans most a b settings given op label (known_in (Ok r)) (end_in (Ok r))) (sym is) plans

-- calls left the state, and then memory ran out
pub asked_out_of_memory : {T : Type 0} {n most : ℕ} {a b : History} {settings : Settings} {given asked : SwiftAccount → Type 0} {Q : SwiftAccount → SwiftAccount → T → Type 0} {op : Op} {label : Label} {value : T}
    → n ≤ most → (Met (GivenOf given) a → Met asked a) → Asks (always n) a b asked Q (Ok value) → Plans (by_account most) a b settings (GivenOf given) op label Settled (Err Memory)
asked_out_of_memory {n = n} {most = most} {b = b} {settings = settings} {op = op} {label = label} within under asks =
    goes_on_from {rest = Any} {m = always 0} under refl asks (out_of_memory b (Err Memory) refl) (λ has told. tt) (λ told. omega (arith, within))

-- ---- what stands

-- nothing is asked of a completion that is refused
pub refused_ensures : {h : History} {P : SwiftAccount → Type 0} (code : Code) (end : Result Reply PlanFault) → end ≡ Ok (Refused code) → EnsuresIfDone h P end
refused_ensures {h = h} {P = P} code end is = subst (EnsuresIfDone h P) (sym is) (record { so = λ observable. tt })

-- one that was done before
pub again_ensures : {h : History} {P : SwiftAccount → Type 0} (reply : Reply) (end : Result Reply PlanFault) → end ≡ Ok reply → P (present h) → EnsuresIfDone h P end
again_ensures {h = h} {P = P} reply end is so = subst (EnsuresIfDone h P) (sym is) (record { so = λ observable. done_so reply so })
