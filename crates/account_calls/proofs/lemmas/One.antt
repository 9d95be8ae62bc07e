-- What one call of the store amounts to, from what the store told when it ended.
use Rattle.std.specs.Prelude.{◌≡◌, ◌≢◌, ◌⊎◌, ◌≤◌, ◌<◌, ℕ, ◌+◌, IsTrue, IsErrOf, Result, Ok, Err}
use Rattle.std.specs.Result.{IsErrAnd}
use Rattle.std.proofs.Common.{refl, sym, ap, subst, ◌∙◌, inl, inr, arith}
use Rattle.std.proofs.Math.Nat.{le_refl}
use Rattle.std.proofs.lemmas.Bool.{cases_lt}
use Rattle.s3_machine.specs.State.{State}
use Rattle.swift_calls.specs.Account.{SwiftAccount}
use Rattle.swift_calls.specs.Step.{swift_step}
use Rattle.swift_calls.specs.History.{History, Extends, budget, present, Counts, CountsFaults, Either, Called, Replied, Lost, Calls}
use Rattle.swift_calls.proofs.lemmas.Histories.{counts_near}
use Rattle.swift_calls.specs.declared.calls.SwiftRequest.{SwiftRequest}
use Rattle.swift_calls.specs.declared.calls.SwiftReply.{SwiftReply}
use Rattle.swift_calls.specs.declared.calls.SwiftFault.{SwiftFault}
use Rattle.swift_calls.specs.declared.calls.SwiftFault.TheVariants.{Failed, Memory}
use Rattle.upload_records.specs.Native.{IsSettled, s3_state}
use Rattle.upload_records.specs.Consistent.{IsConsistent}
use Rattle.account_calls.specs.declared.fault.PlanFault.{PlanFault}
use Rattle.account_calls.specs.declared.fault.PlanFault.TheVariants as fault
use Rattle.account_calls.specs.Fault.{plan_fault, CausesFault}
use Rattle.account_calls.specs.Interpret.{Gives}
use Rattle.account_calls.specs.Listing.{TellsOf}
use Rattle.account_calls.specs.Stutters.{LastFailed}
use Rattle.account_calls.specs.Calls.{Bound, always, GoesOn, Met, Grows, GivenOf, Keeps, Tells, Asks, Commits, Writes, Changes}
use Rattle.account_calls.proofs.lemmas.Causes.{due_cause}
use Rattle.account_calls.proofs.lemmas.Faults.{err_is}
use Rattle.account_calls.proofs.lemmas.Idle.{stays, none_made, grows_none}

-- ---- how the history goes on

-- no call makes the count of faults fall
faults_near : (before now : ℕ) (result : Result SwiftReply SwiftFault) → CountsFaults before now result → before ≤ now
faults_near before now (Ok reply) counts = omega arith
faults_near before now (Err Failed) counts = omega arith
faults_near before now (Err Memory) counts = omega arith

-- the counts that were told at the number of a call and after it are those that it found
counts_told : {old new : History} → Extends old.called old new → (q : ℕ) → q ≡ old.called + 1 → new.faults_at q ≡ new.faults_at old.called → (k : ℕ) → old.called ≤ k → k ≤ q
    → new.faults_at k ≡ old.faults_at old.called
counts_told {old = old} {new = new} kept q next quiet k from to = at (cases_lt old.called k)
  where
    found_it : new.faults_at old.called ≡ old.faults_at old.called
    found_it = kept.counts old.called (le_refl old.called)

    at : (old.called < k) ⊎ (k ≤ old.called) → new.faults_at k ≡ old.faults_at old.called
    at (inl later) = ap new.faults_at (omega arith) ∙ quiet ∙ found_it
    at (inr sooner) = ap new.faults_at (omega arith) ∙ found_it

-- none was counted
counts_left : {old new : History} → Extends old.called old new → new.called ≡ old.called → (k : ℕ) → old.called ≤ k → k ≤ new.called → new.faults_at k ≡ old.faults_at old.called
counts_left {old = old} {new = new} kept same k from to = ap new.faults_at (omega arith) ∙ kept.counts old.called (le_refl old.called)

-- a call of a store that never fails
never_failed : {old new : History} {request : SwiftRequest} (result : Result SwiftReply SwiftFault) → Calls old new request result → IsTrue old.observable → IsTrue old.sure
    → (k : ℕ) → old.called ≤ k → k ≤ new.called → new.faults_at k ≡ old.faults_at old.called
never_failed {old = old} {new = new} {request = request} result calls observable sure = by result calls.counts (calls.effect observable) (calls.never observable sure)
  where
    by : (result : Result SwiftReply SwiftFault) → Counts old.called new.called result → Called new old.called new.called request result
        → (old.called < budget → IsErrOf result Failed → ⊥) → (k : ℕ) → old.called ≤ k → k ≤ new.called → new.faults_at k ≡ old.faults_at old.called
    by (Ok reply) counts called never = counts_told (calls.kept observable) new.called called.next called.quiet
    by (Err Failed) (inl counts) called never = absurd (never counts.0 refl)
    by (Err Failed) (inr counts) called never = counts_left (calls.kept observable) counts.1
    by (Err Memory) counts (inl called) never = counts_told (calls.kept observable) new.called called.next called.quiet
    by (Err Memory) counts (inr same) never = counts_left (calls.kept observable) same

-- one call was
pub goes_one : {old new : History} {request : SwiftRequest} {result : Result SwiftReply SwiftFault} → Calls old new request result → GoesOn old new
goes_one {old = old} {new = new} {result = result} calls = record {
  ordered = (counts_near old.called new.called result calls.counts).0;
  faults = faults_near old.faults new.faults result calls.faults;
  observable = calls.observable;
  told = calls.told;
  sure = calls.sure;
  never = never_failed result calls;
  kept = calls.kept;
}

pub grows_one : {old new : History} {request : SwiftRequest} {result : Result SwiftReply SwiftFault} (given : SwiftAccount → Type 0) → Calls old new request result → Grows (always 1) given old new
grows_one {old = old} {new = new} {result = result} given calls = record { on = goes_one calls; calls = (counts_near old.called new.called result calls.counts).1 }

-- the account at the number before the call is the one that it found
pub found : {old new : History} {request : SwiftRequest} {result : Result SwiftReply SwiftFault} → Calls old new request result → IsTrue old.observable → new.account_at old.called ≡ present old
found {old = old} calls observable = (calls.kept observable).accounts old.called (omega arith)

pub fault_cause : (T : Type 0) (before now : ℕ) (fault : SwiftFault) → CountsFaults before now (Err fault) → CausesFault {T = T} before now (Err (plan_fault fault))
fault_cause T before now Failed counts = counts
fault_cause T before now Memory counts = counts

-- ---- what a call leaves of the account

-- the request leaves it so on each account
abbrev pub LeavesSo : (SwiftAccount → Type 0) → SwiftRequest → Type 0
LeavesSo P request = (tree : SwiftAccount) → P tree → P (swift_step request tree).tree

-- the request leaves each settled account settled
abbrev pub LeavesSettled : SwiftRequest → Type 0
LeavesSettled request = LeavesSo IsSettled request

module _ (P : SwiftAccount → Type 0) (h : History) (p q : ℕ) (request : SwiftRequest) (leaves : LeavesSo P request) (was : P (h.account_at p)) where
  so_done : h.account_at q ≡ (swift_step request (h.account_at p)).tree → P (h.account_at q)
  so_done done = subst P (sym done) (leaves (h.account_at p) was)

  so_same : h.account_at q ≡ h.account_at p → P (h.account_at q)
  so_same same = subst P (sym same) was

  so_either : Either h p q request → P (h.account_at q)
  so_either (inl same) = so_same same
  so_either (inr done) = so_done done

  so_after : (result : Result SwiftReply SwiftFault) → Called h p q request result → P (h.account_at q)
  so_after (Ok reply) c = so_done c.tree
  so_after (Err Failed) (inl c) = so_either c.either
  so_after (Err Failed) (inr (spent, same)) = so_same (ap h.account_at same)
  so_after (Err Memory) (inl c) = so_either c.either
  so_after (Err Memory) (inr same) = so_same (ap h.account_at same)

pub stays_so : {P : SwiftAccount → Type 0} {old new : History} {request : SwiftRequest} {result : Result SwiftReply SwiftFault} → LeavesSo P request → Calls old new request result
    → IsTrue old.observable → P (present old) → P (present new)
stays_so {P = P} {old = old} {new = new} {request = request} {result = result} leaves calls observable was =
    so_after P new old.called new.called request leaves (subst P (sym (found calls observable)) was) result (calls.effect observable)

pub stays_settled : {old new : History} {request : SwiftRequest} {result : Result SwiftReply SwiftFault} → LeavesSettled request → Calls old new request result
    → IsTrue old.observable → IsSettled (present old) → IsSettled (present new)
stays_settled leaves calls observable settled = stays_so {P = IsSettled} leaves calls observable settled

-- ---- a call that failed

pub lost_last : {h : History} {p q : ℕ} {request : SwiftRequest} → Lost h p q request → LastFailed h p q
lost_last {p = p} c = record { last = p; after_p = omega arith; no_fault = refl; fails = inl (c.next, c.rose) }

pub spent_last : {h : History} {p q : ℕ} → budget ≤ p → q ≡ p → LastFailed h p q
spent_last {p = p} spent same = record { last = p; after_p = omega arith; no_fault = refl; fails = inr (same, spent) }

-- ---- a call that tells of the account

-- over each consistent account of which the given holds the request leaves it, and its answer comes to what P says
pub record IsReadingOf {T : Type 0} (given : SwiftAccount → Type 0) (request : SwiftRequest) (due : SwiftReply → Result T PlanFault) (P : SwiftAccount → T → Type 0) : Type 0 where
  pub leaves : (tree : SwiftAccount) → (swift_step request tree).tree ≡ tree
  pub tells : (tree : SwiftAccount) → IsConsistent tree → given tree → (reply : SwiftReply) → reply ≡ (swift_step request tree).reply → (told : T) × (due reply ≡ Ok told) × P tree told

module _ {T : Type 0} {given : SwiftAccount → Type 0} {request : SwiftRequest} {due : SwiftReply → Result T PlanFault} {P : SwiftAccount → T → Type 0} (reading : IsReadingOf given request due P)
    (h : History) (p q : ℕ) (sound : IsConsistent (h.account_at p)) (has : given (h.account_at p)) where
  left : Either h p q request → h.account_at q ≡ h.account_at p
  left (inl same) = same
  left (inr done) = done ∙ reading.leaves (h.account_at p)

  unread : (fault : SwiftFault) → Called h p q request (Err fault) → Keeps h p q (TellsOf P) (Err (plan_fault fault))
  unread Failed (inl c) = let next = c.next in (stays (omega arith) (omega arith) (left c.either) sound, lost_last c)
  unread Failed (inr (spent, same)) = (none_made same sound, spent_last spent same)
  unread Memory (inl c) = let next = c.next in (stays (omega arith) (omega arith) (left c.either) sound, c.quiet)
  unread Memory (inr same) = (none_made same sound, ap h.faults_at same)

  read : (reply : SwiftReply) (result : Result T PlanFault) → Replied h p q request reply → Gives result (due reply) → Keeps h p q (TellsOf P) result
  read reply result c (inl out_of_memory) =
      subst (Keeps h p q (TellsOf P)) (sym out_of_memory) (let next = c.next in (stays (omega arith) (omega arith) (c.tree ∙ reading.leaves (h.account_at p)) sound, c.quiet))
  read reply result c (inr is) =
      let told = reading.tells (h.account_at p) sound has reply c.reply in
      let same = c.tree ∙ reading.leaves (h.account_at p) in
      subst (Keeps h p q (TellsOf P)) (sym (is ∙ told.1)) (let next = c.next in (stays (omega arith) (omega arith) same sound, c.quiet, record { of_account = told.2; same = same }))

-- memory ran out before the call
pub not_asked : {T : Type 0} {given : SwiftAccount → Type 0} {P : SwiftAccount → SwiftAccount → T → Type 0} (most : Bound) (h : History) (result : Result T PlanFault) → IsErrAnd result (λ e. e ≡ fault.Memory) → Asks most h h given P result
not_asked {given = given} {P = P} most h result is =
    subst (Asks most h h given P) (sym (err_is result fault.Memory is)) (record { grows = grows_none most given h; cause = refl; effect = λ met. (none_made refl met.sound, refl); settled = λ observable settled. settled })

-- a request that leaves each account leaves it settled
leaves_settled : {T : Type 0} {given : SwiftAccount → Type 0} {request : SwiftRequest} {due : SwiftReply → Result T PlanFault} {P : SwiftAccount → T → Type 0} → IsReadingOf given request due P → LeavesSettled request
leaves_settled reading tree settled = subst IsSettled (sym (reading.leaves tree)) settled

module _ {T : Type 0} {given : SwiftAccount → Type 0} {request : SwiftRequest} {due : SwiftReply → Result T PlanFault} {P : SwiftAccount → T → Type 0} (reading : IsReadingOf given request due P)
    {old new : History} where
  -- it was not answered
  pub asked_of_in_vain : {fault : SwiftFault} → Calls old new request (Err fault) → (result : Result T PlanFault) → IsErrAnd result (λ e. e ≡ plan_fault fault) → Asks (always 1) old new given (TellsOf P) result
  asked_of_in_vain {fault = fault} calls result is = subst (Asks (always 1) old new given (TellsOf P)) (sym (err_is result (plan_fault fault) is)) (record {
    grows = grows_one given calls;
    cause = fault_cause T old.faults new.faults fault calls.faults;
    effect = λ met.
        let same = sym (found calls met.observable) in
        unread reading new old.called new.called (subst IsConsistent same met.sound) (subst given same met.has) fault (calls.effect met.observable);
    settled = stays_settled (leaves_settled reading) calls;
  })

  -- it was answered
  pub asked_of : {reply : SwiftReply} → Calls old new request (Ok reply) → (result : Result T PlanFault) → Gives result (due reply) → result ≢ Err fault.Failed → Asks (always 1) old new given (TellsOf P) result
  asked_of {reply = reply} calls result gives own = record {
    grows = grows_one given calls;
    cause = due_cause old.faults new.faults result calls.faults own;
    effect = λ met.
        let same = sym (found calls met.observable) in
        read reading new old.called new.called (subst IsConsistent same met.sound) (subst given same met.has) reply result (calls.effect met.observable) gives;
    settled = stays_settled (leaves_settled reading) calls;
  }

-- ---- a call that tells of the state

-- over each consistent and settled account the request leaves it, and its answer comes to what P says of the state
abbrev pub IsReading : {T : Type 0} → SwiftRequest → (SwiftReply → Result T PlanFault) → (State → T → Type 0) → Type 0
IsReading request due P = IsReadingOf IsSettled request due (λ tree. P (s3_state tree))

-- what is told of an account by its state
pub tells_state : {T : Type 0} (P : State → T → Type 0) (h : History) (p q : ℕ) (result : Result T PlanFault) → Keeps h p q (TellsOf (λ tree. P (s3_state tree))) result → Keeps h p q (Tells P) result
tells_state P h p q (Ok told) keeps = (keeps.0, keeps.1, record { of_state = keeps.2.of_account; same = keeps.2.same })
tells_state P h p q (Err fault.Failed) keeps = keeps
tells_state P h p q (Err fault.Memory) keeps = keeps
tells_state P h p q (Err fault.Inconsistent) keeps = keeps

asks_state : {T : Type 0} {P : State → T → Type 0} {most : Bound} {old new : History} {given : SwiftAccount → Type 0} {result : Result T PlanFault} → Asks most old new given (TellsOf (λ tree. P (s3_state tree))) result
    → Asks most old new given (Tells P) result
asks_state {P = P} {old = old} {new = new} {result = result} asks = record { grows = asks.grows; cause = asks.cause; effect = λ met. tells_state P new old.called new.called result (asks.effect met); settled = asks.settled }

-- it was not answered
pub asked_in_vain : {T : Type 0} {given : SwiftAccount → Type 0} {old new : History} {request : SwiftRequest} {due : SwiftReply → Result T PlanFault} {P : State → T → Type 0} {fault : SwiftFault} → IsReadingOf given request due (λ tree. P (s3_state tree))
    → Calls old new request (Err fault) → (result : Result T PlanFault) → IsErrAnd result (λ e. e ≡ plan_fault fault) → Asks (always 1) old new given (Tells P) result
asked_in_vain reading calls result is = asks_state (asked_of_in_vain reading calls result is)

-- it was answered
pub asked : {T : Type 0} {given : SwiftAccount → Type 0} {old new : History} {request : SwiftRequest} {due : SwiftReply → Result T PlanFault} {P : State → T → Type 0} {reply : SwiftReply} → IsReadingOf given request due (λ tree. P (s3_state tree))
    → Calls old new request (Ok reply) → (result : Result T PlanFault) → Gives result (due reply) → result ≢ Err fault.Failed → Asks (always 1) old new given (Tells P) result
asked reading calls result gives own = asks_state (asked_of reading calls result gives own)

-- ---- a call that may change the state

-- the effect of the request on this account is one that S allows where this is told, which its answer comes to; and it leaves
-- the account consistent
pub record Effect {T : Type 0} (tree : SwiftAccount) (request : SwiftRequest) (due : SwiftReply → Result T PlanFault) (S : T → State → State → Type 0) : Type 0 where
  pub answer : T
  pub says : due (swift_step request tree).reply ≡ Ok answer
  pub after : IsConsistent (swift_step request tree).tree
  pub state : S answer (s3_state tree) (s3_state (swift_step request tree).tree)

-- over each consistent and settled account of which the given holds, the request has such an effect, and it leaves accounts
-- settled
pub record IsWritingOf {T : Type 0} (request : SwiftRequest) (due : SwiftReply → Result T PlanFault) (given : SwiftAccount → Type 0) (S : T → State → State → Type 0) : Type 0 where
  pub effect : (tree : SwiftAccount) → IsConsistent tree → IsSettled tree → given tree → Effect tree request due S
  pub settled : LeavesSettled request

-- the same, where it is given of the state
abbrev pub IsWriting : {T : Type 0} → SwiftRequest → (SwiftReply → Result T PlanFault) → (State → Type 0) → (T → State → State → Type 0) → Type 0
IsWriting request due given S = IsWritingOf request due (λ tree. given (s3_state tree)) S

module _ {T : Type 0} (h : History) (p q : ℕ) (request : SwiftRequest) (due : SwiftReply → Result T PlanFault) (S : T → State → State → Type 0)
    (sound : IsConsistent (h.account_at p)) (effect : Effect (h.account_at p) request due S) where
  commits : q ≡ p + 1 → h.account_at q ≡ (swift_step request (h.account_at p)).tree → Commits h p q (S effect.answer)
  commits one done = record {
    last = p;
    quiet = none_made refl sound;
    no_fault = refl;
    next = one;
    sound = subst IsConsistent (sym done) effect.after;
    made = subst (λ tree. S effect.answer (s3_state (h.account_at p)) (s3_state tree)) (sym done) effect.state;
  }

  -- it was answered
  written : (reply : SwiftReply) → Replied h p q request reply → Writes h p q S (Ok effect.answer)
  written reply c = (commits c.next c.tree, c.quiet)

  lost_by : (c : Lost h p q request) → Either h p q request → Writes h p q S (Err fault.Failed)
  lost_by c (inl same) = let next = c.next in inl (stays (omega arith) (omega arith) same sound, lost_last c)
  lost_by c (inr done) = inr ((effect.answer, commits c.next done), c.rose)

  unread_by : q ≡ p + 1 → h.faults_at q ≡ h.faults_at p → Either h p q request → Writes h p q S (Err fault.Memory)
  unread_by next quiet (inl same) = (inl (stays (omega arith) (omega arith) same sound), quiet)
  unread_by next quiet (inr done) = (inr (effect.answer, commits next done), quiet)

  unwritten : (fault : SwiftFault) → Called h p q request (Err fault) → Writes h p q S (Err (plan_fault fault))
  unwritten Failed (inl c) = lost_by c c.either
  unwritten Failed (inr (spent, same)) = inl (none_made same sound, spent_last spent same)
  unwritten Memory (inl c) = unread_by c.next c.quiet c.either
  unwritten Memory (inr same) = (inl (none_made same sound), ap h.faults_at same)

-- memory ran out before the call
pub not_sent : {T : Type 0} {given : SwiftAccount → Type 0} {S : T → State → State → Type 0} (h : History) (result : Result T PlanFault) → IsErrAnd result (λ e. e ≡ fault.Memory) → Changes (always 1) h h given S result
not_sent {given = given} {S = S} h result is =
    subst (Changes (always 1) h h given S) (sym (err_is result fault.Memory is)) (record { grows = grows_none (always 1) given h; cause = refl; effect = λ met. (inl (none_made refl met.sound), refl); settled = λ observable settled. settled })

-- what is given of the account that the call found
effect_found : {T : Type 0} {old new : History} {request : SwiftRequest} {result : Result SwiftReply SwiftFault} {due : SwiftReply → Result T PlanFault} {given : SwiftAccount → Type 0} {S : T → State → State → Type 0}
    → IsWritingOf request due given S → Calls old new request result → Met (GivenOf given) old → Effect (new.account_at old.called) request due S
effect_found {request = request} {due = due} {S = S} writing calls met =
    subst (λ tree. Effect tree request due S) (sym (found calls met.observable)) (writing.effect _ met.sound met.has.settled met.has.is)

-- it was not answered
pub sent_in_vain : {T : Type 0} {old new : History} {request : SwiftRequest} {due : SwiftReply → Result T PlanFault} {given : SwiftAccount → Type 0} {S : T → State → State → Type 0} {fault : SwiftFault}
    → IsWritingOf request due given S → Calls old new request (Err fault) → (result : Result T PlanFault) → IsErrAnd result (λ e. e ≡ plan_fault fault) → Changes (always 1) old new (GivenOf given) S result
sent_in_vain {T = T} {old = old} {new = new} {request = request} {due = due} {given = given} {S = S} {fault = fault} writing calls result is = subst (Changes (always 1) old new (GivenOf given) S) (sym (err_is result (plan_fault fault) is)) (record {
  grows = grows_one (GivenOf given) calls;
  cause = fault_cause T old.faults new.faults fault calls.faults;
  effect = λ met. unwritten new old.called new.called request due S (subst IsConsistent (sym (found calls met.observable)) met.sound) (effect_found writing calls met) fault (calls.effect met.observable);
  settled = stays_settled writing.settled calls;
})

-- it was answered
pub sent : {T : Type 0} {old new : History} {request : SwiftRequest} {due : SwiftReply → Result T PlanFault} {given : SwiftAccount → Type 0} {S : T → State → State → Type 0} {reply : SwiftReply}
    → IsWritingOf request due given S → Calls old new request (Ok reply) → (result : Result T PlanFault) → result ≡ due reply → result ≢ Err fault.Failed → Changes (always 1) old new (GivenOf given) S result
sent {old = old} {new = new} {request = request} {due = due} {given = given} {S = S} {reply = reply} writing calls result is own = record {
  grows = grows_one (GivenOf given) calls;
  cause = due_cause old.faults new.faults result calls.faults own;
  effect = λ met.
      let replied = calls.effect met.observable in
      let effect = effect_found writing calls met in
      subst (Writes new old.called new.called S) (sym (is ∙ ap due replied.reply ∙ effect.says))
      (written new old.called new.called request due S (subst IsConsistent (sym (found calls met.observable)) met.sound) effect reply replied);
  settled = stays_settled writing.settled calls;
}
