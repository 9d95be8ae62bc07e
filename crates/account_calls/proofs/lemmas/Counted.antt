-- How one call is counted.
use Rattle.std.specs.Prelude.{◌≡◌, ◌≢◌, ◌<◌, ◌≤◌, ◌⊎◌, ℕ, ◌+◌, Result, Ok, Err}
use Rattle.std.specs.Result.{IsErrAnd}
use Rattle.std.proofs.Common.{refl, sym, subst, inl, inr}
use Rattle.swift_calls.specs.History.{History, budget, Counts, Calls}
use Rattle.swift_calls.specs.declared.calls.SwiftRequest.{SwiftRequest}
use Rattle.swift_calls.specs.declared.calls.SwiftReply.{SwiftReply}
use Rattle.swift_calls.specs.declared.calls.SwiftFault.{SwiftFault}
use Rattle.swift_calls.specs.declared.calls.SwiftFault.TheVariants as swift
use Rattle.account_calls.specs.declared.fault.PlanFault.{PlanFault}
use Rattle.account_calls.specs.declared.fault.PlanFault.TheVariants.{Failed, Memory, Inconsistent}
use Rattle.account_calls.specs.Fault.{plan_fault}
use Rattle.account_calls.specs.Told.{CountsOne}
use Rattle.account_calls.proofs.lemmas.Faults.{err_is}

by_answer : {T : Type 0} (p q : ℕ) (result : Result T PlanFault) → q ≡ p + 1 → result ≢ Err Failed → CountsOne p q result
by_answer p q (Ok told) next own = next
by_answer p q (Err Failed) next own = absurd (own refl)
by_answer p q (Err Memory) next own = tt
by_answer p q (Err Inconsistent) next own = next

-- it was answered
pub counted : {T : Type 0} {old new : History} {request : SwiftRequest} {reply : SwiftReply} → Calls old new request (Ok reply) → (result : Result T PlanFault) → result ≢ Err Failed → CountsOne old.called new.called result
counted {old = old} {new = new} calls result own = by_answer old.called new.called result calls.counts.1 own

by_fault : (T : Type 0) (p q : ℕ) (fault : SwiftFault) → Counts p q (Err fault) → CountsOne {T = T} p q (Err (plan_fault fault))
by_fault T p q swift.Failed (inl counts) = inl counts.1
by_fault T p q swift.Failed (inr spent) = inr spent
by_fault T p q swift.Memory counts = tt

-- it was not
pub not_counted : {T : Type 0} {old new : History} {request : SwiftRequest} {fault : SwiftFault} → Calls old new request (Err fault) → (result : Result T PlanFault) → IsErrAnd result (λ e. e ≡ plan_fault fault) → CountsOne old.called new.called result
not_counted {T = T} {old = old} {new = new} {fault = fault} calls result is = subst (CountsOne old.called new.called) (sym (err_is result (plan_fault fault) is)) (by_fault T old.called new.called fault calls.counts)
