-- What a call adds to the record is what the history tells of it.
use Rattle.std.specs.Prelude.{◌≡◌, ◌⊎◌, ℕ, ◌+◌, cond, Bool, true, false, List, [], ◌∷◌, ◌++◌, length, take, Result, Ok, Err, IfOk, IsTrue, IsErrOf}
use Rattle.std.proofs.Common.{sym, ap, subst, ◌∙◌, inl, inr, true≢false, arith}
use Rattle.std.proofs.Math.Seq.{take-append_seam, take-length}
use Rattle.std.proofs.lemmas.List.{length-append}
use Rattle.std.proofs.lemmas.List.Sums.{sum_by_push}
use Rattle.gate_base.specs.Causes.{Rose}
use Rattle.planned_swift.specs.Accounts.{tree_of}
use Rattle.swift_calls.specs.Step.{swift_step}
use Rattle.swift_calls.specs.History.{History, Called}
use Rattle.planned_swift.specs.MemSwift.{SamePlan, history_of, planned}
use Rattle.swift_calls.specs.Outcomes.{loses_none, is_lost}
use Rattle.planned_swift.specs.Replay.{left_by, replayed, failures, Logs, Goes}
use Rattle.planned_swift.specs.declared.account.Account.{Account}
use Rattle.swift_calls.specs.declared.calls.SwiftRequest.{SwiftRequest}
use Rattle.swift_calls.specs.declared.calls.SwiftReply.{SwiftReply}
use Rattle.swift_calls.specs.declared.calls.SwiftFault.{SwiftFault}
use Rattle.swift_calls.specs.declared.calls.SwiftFault.TheVariants.{Failed, Memory}
use Rattle.swift_calls.specs.declared.outcome.Outcome.{Outcome}
use Rattle.swift_calls.specs.declared.outcome.Outcome.TheVariants.{Answered, LostBefore, LostAfter}
use Rattle.planned_swift.specs.declared.memory.Entry.{Entry}
use Rattle.planned_swift.specs.declared.memory.MemSwift.{MemSwift}
use Rattle.planned_swift.proofs.lemmas.Outcomes.{all_answered}
use Rattle.planned_swift.proofs.Replaying.{replayed_more}
use Rattle.planned_swift.proofs.Serving.{tree_served}

abbrev account_by : Account → List Entry → ℕ → Account
account_by first log k = replayed first (take k log)

abbrev entry : SwiftRequest → Outcome → Entry
entry request outcome = record { request = request; outcome = outcome }

abbrev logged : List Entry → SwiftRequest → Outcome → List Entry
logged log request outcome = log ++ entry request outcome ∷ []

length_logged : (log : List Entry) (request : SwiftRequest) (outcome : Outcome) → length (logged log request outcome) ≡ length log + 1
length_logged log request outcome = length-append log _

-- before the call that is recorded last, and after it
at_old : (first : Account) (log : List Entry) (request : SwiftRequest) (outcome : Outcome) → account_by first (logged log request outcome) (length log) ≡ account_by first log (length log)
at_old first log request outcome = ap (replayed first) (take-append_seam log _ ∙ sym (take-length log))

at_new : (first : Account) (log : List Entry) (request : SwiftRequest) (outcome : Outcome) → account_by first (logged log request outcome) (length (logged log request outcome)) ≡ left_by outcome request (account_by first log (length log))
at_new first log request outcome = ap (replayed first) (take-length _) ∙ replayed_more first log _ ∙ ap (λ l. left_by outcome request (replayed first l)) (sym (take-length log))

counted : (log : List Entry) (request : SwiftRequest) (outcome : Outcome) → failures (take (length (logged log request outcome)) (logged log request outcome)) ≡ failures (take (length log) (logged log request outcome)) + cond (is_lost outcome) 1 0
counted log request outcome =
    let one_more : failures (logged log request outcome) ≡ failures log + cond (is_lost outcome) 1 0 = sum_by_push (λ e. cond (is_lost e.outcome) 1 0) log (entry request outcome) in
    let before : failures (take (length log) (logged log request outcome)) ≡ failures log = ap failures (take-append_seam log _) in
    ap failures (take-length (logged log request outcome)) ∙ one_more ∙ ap (λ n. n + cond (is_lost outcome) 1 0) (sym before)

-- what a call answers and leaves, of accounts at the ends of the record
goes_same : (first : Account) (request : SwiftRequest) (outcome : Outcome) (result : Result SwiftReply SwiftFault) (old new : List Entry) → Logs outcome request result old new → Goes outcome request result (account_by first old (length old)) (account_by first new (length new))
goes_same first request outcome (Ok reply) old new logs = (logs.0, ap (λ l. account_by first l (length l)) logs.1 ∙ at_new first old request outcome ∙ ap (λ o. left_by o request (account_by first old (length old))) logs.0)
goes_same first request outcome (Err Failed) old new logs = (logs.0, ap (λ l. account_by first l (length l)) logs.1 ∙ at_new first old request outcome)
goes_same first request outcome (Err Memory) old new logs = ap (λ l. account_by first l (length l)) logs

-- the same where the first account is kept
pub goes_by : (first first' : Account) → first' ≡ first → (request : SwiftRequest) (outcome : Outcome) (result : Result SwiftReply SwiftFault) (old new : List Entry) → Logs outcome request result old new → Goes outcome request result (account_by first old (length old)) (account_by first' new (length new))
goes_by first first' same request outcome result old new logs = subst (λ f. Goes outcome request result (account_by first old (length old)) (account_by f new (length new))) (sym same) (goes_same first request outcome result old new logs)

either_by : (request : SwiftRequest) (outcome : Outcome) (old new : Account) → new ≡ left_by outcome request old → (tree_of new ≡ tree_of old) ⊎ (tree_of new ≡ (swift_step request (tree_of old)).tree)
either_by request Answered old new e = inr (ap tree_of e ∙ tree_served request old)
either_by request LostBefore old new e = inl (ap tree_of e)
either_by request LostAfter old new e = inr (ap tree_of e ∙ tree_served request old)

rose_by : (lost : Bool) (n m : ℕ) → lost ≡ true → m ≡ n + cond lost 1 0 → Rose n m
rose_by true n m is e = omega arith
rose_by false n m is e = absurd (true≢false (sym is))

-- the history of a store that began with this account, by the record of its calls
abbrev told_by : Bool → Account → List Entry → History
told_by sure first log = record { observable = true; sure = sure; called = length log; faults = failures log; account_at = λ k. tree_of (account_by first log k); faults_at = λ k. failures (take k log) }

abbrev TellsOf : Bool → Account → SwiftRequest → List Entry → List Entry → Result SwiftReply SwiftFault → Type 0
TellsOf sure first request old new result = Called (told_by sure first new) (length old) (length new) request result

answered : (sure : Bool) (first : Account) (request : SwiftRequest) (outcome : Outcome) (reply : SwiftReply) (old : List Entry) → outcome ≡ Answered → reply ≡ (swift_step request (tree_of (account_by first old (length old)))).reply → TellsOf sure first request old (logged old request outcome) (Ok reply)
answered sure first request outcome reply old is replies =
    let before = account_by first old (length old) in
    let from : tree_of (account_by first (logged old request outcome) (length old)) ≡ tree_of before = ap tree_of (at_old first old request outcome) in
    record {
      next = length_logged old request outcome;
      reply = replies ∙ ap (λ t. (swift_step request t).reply) (sym from);
      tree = ap tree_of (at_new first old request outcome) ∙ ap (λ o. tree_of (left_by o request before)) is ∙ tree_served request before ∙ ap (λ t. (swift_step request t).tree) (sym from);
      quiet = counted old request outcome ∙ ap (λ o. failures (take (length old) (logged old request outcome)) + cond (is_lost o) 1 0) is ∙ omega arith;
    }

lost : (sure : Bool) (first : Account) (request : SwiftRequest) (outcome : Outcome) (old : List Entry) → is_lost outcome ≡ true → TellsOf sure first request old (logged old request outcome) (Err Failed)
lost sure first request outcome old is = inl (record {
  next = length_logged old request outcome;
  either = either_by request outcome _ _ (at_new first old request outcome ∙ ap (left_by outcome request) (sym (at_old first old request outcome)));
  rose = rose_by (is_lost outcome) _ _ is (counted old request outcome);
})

-- what the history tells of a call
called_same : (sure : Bool) (first : Account) (request : SwiftRequest) (outcome : Outcome) (result : Result SwiftReply SwiftFault) (old new : List Entry) (present : Account) → Logs outcome request result old new → present ≡ replayed first old → IfOk result (λ reply. reply ≡ (swift_step request (tree_of present)).reply) → TellsOf sure first request old new result
called_same sure first request outcome (Ok reply) old new present logs is replies =
    subst (λ l. TellsOf sure first request old l (Ok reply)) (sym logs.1) (answered sure first request outcome reply old logs.0 (replies ∙ ap (λ a. (swift_step request (tree_of a)).reply) (is ∙ ap (replayed first) (sym (take-length old)))))
called_same sure first request outcome (Err Failed) old new present logs is replies = subst (λ l. TellsOf sure first request old l (Err Failed)) (sym logs.1) (lost sure first request outcome old logs.0)
called_same sure first request outcome (Err Memory) old new present logs is replies = inr (ap length logs)

-- the same where the first account is kept
pub called_by : (sure : Bool) (first first' : Account) → first' ≡ first → (request : SwiftRequest) (outcome : Outcome) (result : Result SwiftReply SwiftFault) (old new : List Entry) (present : Account) → Logs outcome request result old new → present ≡ replayed first old → IfOk result (λ reply. reply ≡ (swift_step request (tree_of present)).reply) → TellsOf sure first' request old new result
called_by sure first first' same request outcome result old new present logs is replies = subst (λ f. TellsOf sure f request old new result) (sym same) (called_same sure first request outcome result old new present logs is replies)

-- ---- a store whose lists lose nothing

-- what it was told is kept
pub sure_kept : (old new : MemSwift) → SamePlan old new → IsTrue (history_of old).sure → IsTrue (history_of new).sure
sure_kept old new plan sure = (λ i. loses_none (plan.before i) (plan.after i) (plan.stop i)) ∙ sure

-- a call that failed was lost
failed_lost : (outcome : Outcome) (request : SwiftRequest) (result : Result SwiftReply SwiftFault) (old new : List Entry) → Logs outcome request result old new → IsErrOf result Failed → is_lost outcome ≡ true
failed_lost outcome request result old new logs failed = (subst (λ r. Logs outcome request r old new) failed logs).0

pub never_failed : (m : MemSwift) (number : ℕ) (request : SwiftRequest) (result : Result SwiftReply SwiftFault) (old new : List Entry) → Logs (planned m number) request result old new → IsTrue (history_of m).sure → IsErrOf result Failed → ⊥
never_failed m number request result old new logs sure failed =
    true≢false (sym (failed_lost (planned m number) request result old new logs failed) ∙ ap is_lost (all_answered m.before m.after m.stop number sure))
