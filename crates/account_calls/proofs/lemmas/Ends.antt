-- What the calls of a plan amount to at each of its ends: after a call that tells of the state, and after the call
-- that changes it.
use Rattle.std.specs.Prelude.{◌≡◌, ◌≢◌, ◌≤◌, ◌⊎◌, ℕ, ◌+◌, Bool, true, false, Result, Ok, Err, IfOk}
use Rattle.std.specs.Result.{IsErrAnd}
use Rattle.std.proofs.Common.{refl, sym, subst, ◌∙◌, inl, inr, arith}
use Rattle.gate_base.specs.Causes.{Rose}
use Rattle.s3_machine.specs.declared.operation.Label.{Label}
use Rattle.s3_machine.specs.declared.operation.Settings.{Settings}
use Rattle.s3_machine.specs.declared.operation.Op.{Op}
use Rattle.s3_machine.specs.declared.operation.Op.TheVariants.{OnObjects}
use Rattle.s3_machine.specs.declared.operation.ObjectsOp.{ObjectsOp}
use Rattle.s3_machine.specs.declared.operation.ObjectsOp.TheVariants as op
use Rattle.s3_machine.specs.declared.operation.Reply.{Reply}
use Rattle.s3_machine.specs.State.{State}
use Rattle.s3_machine.specs.Step.{S3Step}
use Rattle.swift_calls.specs.Account.{SwiftAccount}
use Rattle.swift_calls.specs.History.{History, present}
use Rattle.upload_records.specs.Native.{IsSettled, s3_state}
use Rattle.account_calls.specs.declared.fault.PlanFault.{PlanFault}
use Rattle.account_calls.specs.declared.fault.PlanFault.TheVariants.{Failed, Memory, Inconsistent}
use Rattle.account_calls.specs.declared.state.Known.{Known}
use Rattle.account_calls.specs.declared.state.Known.TheVariants.{Settled, Unsure}
use Rattle.account_calls.specs.Fault.{CausesFault}
use Rattle.account_calls.specs.Stutters.{Stutters, OldBefore, LastFailed}
use Rattle.account_calls.specs.Calls.{Bound, always, by_account, amount, IsWithin, Met, Grows, GivenOf, Given, Keeps, Tells, Asks, Commits, CommitsUntold, Writes, Changes, Any}
use Rattle.account_calls.specs.Answers.{steps_of, is_old_if_failed, is_old_if_out_of_memory, OldIf, machine, unavailable, memory, ends_by_commit, beside_of, nothing_beside, SaysBeside}
use Rattle.account_calls.proofs.lemmas.Agree.{last_within, quiet_agree, passes_still, passes_at_once, passes_once, answers_after}
use Rattle.account_calls.proofs.lemmas.Causes.{due_cause}
use Rattle.account_calls.proofs.lemmas.Faults.{err_is}
use Rattle.account_calls.proofs.lemmas.Idle.{none_made, goes_trans, grows_none}
use Rattle.account_calls.specs.Plan.{reply_of, IsOwnReply, EndsPlan, ended, CausesEnd, Plans, Answered}
use Rattle.account_calls.specs.Refusals.{Stops, shows}
use Rattle.account_calls.proofs.lemmas.Refusals.{shown_of}
use Rattle.account_calls.proofs.lemmas.Replies.{rose_of, steady_of, consistent_of, showable_of}

-- quiet calls leave the old state at each number
old_quiet : {h : History} {p n q : ℕ} → n ≤ q + 1 → Stutters h p q → OldBefore h p n
old_quiet within quiet = λ k from to. quiet.same k from (omega arith)

-- so it is where that is asked for
old_if : (t : Bool) (h : History) (p q : ℕ) → OldBefore h p q → OldIf t h p q
old_if true h p q old = old
old_if false h p q old = tt

module _ (settings : Settings) (h : History) (p q : ℕ) (op : Op) (label : Label) where
  -- quiet calls, and one failed
  quiet_failed : Stutters h p q → LastFailed h p q → EndsPlan settings h p q op label (Err Failed)
  quiet_failed quiet failed = let within = last_within failed in record {
    committed = p;
    takes = 0;
    answers = record { passes = passes_still quiet; by = unavailable refl failed (old_if (is_old_if_failed op) h p (failed.last + 1) (old_quiet (omega arith) quiet)) };
    consistent = λ e. cc;
  }

  -- quiet calls, and memory ran out
  quiet_memory : Stutters h p q → EndsPlan settings h p q op label (Err Memory)
  quiet_memory quiet = record {
    committed = p;
    takes = 0;
    answers = record { passes = passes_still quiet; by = memory refl (old_if (is_old_if_out_of_memory op) h p q (old_quiet (omega arith) quiet)) };
    consistent = λ e. cc;
  }

  -- what was read is answered, after quiet calls: a step that leaves the state, at the last number
  quiet_step : (reply : Reply) → Stutters h p q → S3Step settings (s3_state (h.account_at p)) op label reply (s3_state (h.account_at p)) → EndsPlan settings h p q op label (Ok reply)
  quiet_step reply quiet step = record {
    committed = p;
    takes = steps_of op;
    answers = record {
      passes = passes_at_once quiet step;
      by = machine refl (subst (S3Step settings (s3_state (h.account_at p)) op label reply) (sym (quiet.same q quiet.ordered (omega arith))) step);
    };
    consistent = λ e. cc;
  }

  module _ {T : Type 0} (P : SwiftAccount → SwiftAccount → T → Type 0) where
    -- the calls told nothing
    not_read : (fault : PlanFault) → Keeps h p q P (Err fault) → EndsPlan settings h p q op label (Err fault)
    not_read Failed (quiet, failed) = quiet_failed quiet failed
    not_read Memory (quiet, same) = quiet_memory quiet
    not_read Inconsistent never = absurd never

  module _ {T : Type 0} (S : T → State → State → Type 0) (reply : T → Reply) (step : (told : T) (new : State) → S told (s3_state (h.account_at p)) new → S3Step settings (s3_state (h.account_at p)) op label (reply told) new) where
    stepped : (told : T) → Commits h p q (S told) → S3Step settings (s3_state (h.account_at p)) op label (reply told) (s3_state (h.account_at q))
    stepped told done = step told (s3_state (h.account_at q)) done.made

    old_before : {told : T} {n : ℕ} (done : Commits h p q (S told)) → n ≤ done.last + 1 → OldBefore h p n
    old_before done within = λ k from to. done.quiet.same k from (omega arith)

    last_lost : {told : T} → Commits h p q (S told) → Rose (h.faults_at p) (h.faults_at q) → LastFailed h p q
    last_lost done rose = record { last = done.last; after_p = done.quiet.ordered; no_fault = done.no_fault; fails = inl (done.next, subst (λ n. Rose n (h.faults_at q)) (sym done.no_fault) rose) }

    commit_failed : CommitsUntold h p q S → Rose (h.faults_at p) (h.faults_at q) → EndsPlan settings h p q op label (Err Failed)
    unfolding last_lost
    commit_failed (told, done) rose = record {
      committed = q;
      takes = steps_of op;
      answers = record { passes = passes_once done (stepped told done); by = unavailable refl (last_lost done rose) (old_if (is_old_if_failed op) h p (done.last + 1) (old_before done (omega arith))) };
      consistent = λ e. cc;
    }

    write_memory : Stutters h p q ⊎ CommitsUntold h p q S → EndsPlan settings h p q op label (Err Memory)
    write_memory (inl quiet) = quiet_memory quiet
    write_memory (inr (told, done)) = let next = done.next in record {
      committed = q;
      takes = steps_of op;
      answers = record { passes = passes_once done (stepped told done); by = memory refl (old_if (is_old_if_out_of_memory op) h p q (old_before done (omega arith))) };
      consistent = λ e. cc;
    }

    -- the call that may change the state ended
    is_written : (end : Result T PlanFault) → Writes h p q S end → EndsPlan settings h p q op label (ended end reply)
    is_written (Ok told) (done, same) = record {
      committed = q;
      takes = steps_of op;
      answers = record { passes = passes_once done (stepped told done); by = machine refl (stepped told done) };
      consistent = λ e. cc;
    }
    is_written (Err Failed) (inl (quiet, failed)) = quiet_failed quiet failed
    is_written (Err Failed) (inr (done, rose)) = commit_failed done rose
    is_written (Err Memory) (either, same) = write_memory either
    is_written (Err Inconsistent) never = absurd never

-- ---- the shapes of a plan

-- one bound is no narrower than another
abbrev pub IsWider : Bound → Bound → Type 0
IsWider (always n) (always most) = n ≤ most
IsWider (always n) (by_account most) = n ≤ most
IsWider (by_account n) (always most) = ⊥
IsWider (by_account n) (by_account most) = n ≤ most

pub as_wide : (n : Bound) → IsWider n n
as_wide (always n) = omega arith
as_wide (by_account n) = omega arith

-- a call, and then what the second bound allows
abbrev pub IsOneMore : Bound → Bound → Type 0
IsOneMore (always n) (always most) = 1 + n ≤ most
IsOneMore (always n) (by_account most) = 1 + n ≤ most
IsOneMore (by_account n) (always most) = ⊥
IsOneMore (by_account n) (by_account most) = 1 + n ≤ most

-- more calls are allowed than were made, under premises that say more
within_more : (n most : Bound) {P Q : Type 0} (p q : ℕ) → IsWider n most → (Q → P) → IsWithin n P p q → IsWithin most Q p q
within_more (always n) (always most) p q wider from within = omega arith
within_more (always n) (by_account most) p q wider from within = λ met. omega arith
within_more (by_account n) (always most) p q wider from within = absurd wider
within_more (by_account n) (by_account most) p q wider from within = λ met. let near = within (from met) in omega arith

grows_more : {n most : Bound} {given given' : SwiftAccount → Type 0} {a b : History} → IsWider n most → (Met given' a → Met given a) → Grows n given a b → Grows most given' a b
grows_more {n = n} {most = most} {a = a} {b = b} wider from grows = record { on = grows.on; calls = within_more n most a.called b.called wider from grows.calls }

-- calls within one bound, and then calls within another, are within the third, if need be by what the calls told of the account
abbrev pub IsBoth : Bound → Bound → Bound → Type 0 → Type 0
IsBoth (always n) (always m) (always most) told = n + m ≤ most
IsBoth (by_account n) (always m) (always most) told = ⊥
IsBoth (always n) (by_account m) (always most) told = ⊥
IsBoth (by_account n) (by_account m) (always most) told = ⊥
IsBoth n m (by_account most) told = told → amount n + amount m ≤ most

within_both : (n m most : Bound) {N M P R : Type 0} (p q r : ℕ) → IsBoth n m most R → (P → N) → (P → M) → (P → R) → IsWithin n N p q → IsWithin m M q r → IsWithin most P p r
within_both (always n) (always m) (always most) p q r both first then told near far = omega arith
within_both (by_account n) (always m) (always most) p q r both first then told near far = absurd both
within_both (always n) (by_account m) (always most) p q r both first then told near far = absurd both
within_both (by_account n) (by_account m) (always most) p q r both first then told near far = absurd both
within_both (always n) (always m) (by_account most) p q r both first then told near far = λ met. let sum = both (told met) in omega arith
within_both (by_account n) (always m) (by_account most) p q r both first then told near far = λ met. let sum = both (told met) in let one = near (first met) in omega arith
within_both (always n) (by_account m) (by_account most) p q r both first then told near far = λ met. let sum = both (told met) in let two = far (then met) in omega arith
within_both (by_account n) (by_account m) (by_account most) p q r both first then told near far = λ met. let sum = both (told met) in let one = near (first met) in let two = far (then met) in omega arith

-- so it is after one call
one_more : (m most : Bound) (R : Type 0) → IsOneMore m most → IsBoth (always 1) m most R
one_more (always m) (always most) R more = more
one_more (always m) (by_account most) R more = λ told. more
one_more (by_account m) (always most) R more = absurd more
one_more (by_account m) (by_account most) R more = λ told. more

-- the cause of an end after a call that left the count of faults
cause_from : (t : Bool) (before middle now : ℕ) (end : Result Reply PlanFault) → middle ≡ before → CausesEnd t middle now end → CausesEnd t before now end
cause_from t before middle now end same cause = subst (λ n. CausesEnd t n now end) same cause

cause_of : (t : Bool) (before now : ℕ) (end : Result Reply PlanFault) → CausesFault before now end → CausesEnd t before now end
cause_of true before now end cause = cause
cause_of false before now end cause = λ is. subst (CausesFault before now) is cause

-- the account is settled, of which something is given
pub met_settled : {given : SwiftAccount → Type 0} {h : History} → Met (GivenOf given) h → Met IsSettled h
met_settled met = record { observable = met.observable; sound = met.sound; has = met.has.settled }

-- what calls ask is given, where what is given of the plan says it
pub met_within : {given asked : SwiftAccount → Type 0} {h : History} → ((tree : SwiftAccount) → given tree → asked tree) → Met (GivenOf given) h → Met (GivenOf asked) h
met_within gives met = record { observable = met.observable; sound = met.sound; has = record { settled = met.has.settled; is = gives _ met.has.is } }

-- after calls that left the state the rest of a plan begins on an account of which is given what it asks
met_after : {asked given rest : SwiftAccount → Type 0} {T : Type 0} {Q : SwiftAccount → SwiftAccount → T → Type 0} {n : Bound} {a b : History} {value : T} → Asks n a b asked Q (Ok value)
    → (Met (GivenOf given) a → Met asked a) → (given (present a) → Q (present a) (present b) value → rest (present b)) → Met (GivenOf given) a → Met (GivenOf rest) b
met_after {Q = Q} {a = a} {b = b} {value = value} asks under gives met =
    let ordered = asks.grows.on.ordered in
    let reads = asks.effect (under met) in
    let from : b.account_at a.called ≡ present a = (asks.grows.on.kept met.observable).accounts a.called (omega arith) in
    record {
      observable = asks.grows.on.observable met.observable;
      sound = reads.0.sound b.called ordered (omega arith);
      has = record { settled = asks.settled met.observable met.has.settled; is = gives met.has.is (subst (λ tree. Q tree (present b) value) from reads.2) };
    }

-- what is given after a call that told of the state, by what it told
pub after_told : {T : Type 0} {P : State → T → Type 0} {value : T} {old new : SwiftAccount} (given rest : SwiftAccount → Type 0) (told : T) → value ≡ told → ((tree : SwiftAccount) → given tree → P (s3_state tree) told → rest tree)
    → given old → Tells P old new value → rest new
after_told {P = P} {old = old} given rest told is gives has tells = subst rest (sym tells.same) (gives old has (subst (P (s3_state old)) is tells.of_state))

module _ {settings : Settings} {given : SwiftAccount → Type 0} {op : Op} {label : Label} {most : Bound} where
  -- no call is needed
  pub needs_none : (h : History) {reply : Reply} → IsOwnReply reply → ((tree : SwiftAccount) → given tree → S3Step settings (s3_state tree) op label reply (s3_state tree)) → Plans most h h settings (GivenOf given) op label Settled (Ok reply)
  needs_none h {reply = reply} own step = record {
    grows = grows_none most (GivenOf given) h;
    cause = cause_of (ends_by_commit op reply) h.faults h.faults (Ok reply) refl;
    own = own;
    effect = λ met. quiet_step settings h h.called h.called op label reply (none_made refl met.sound) (step _ met.has.is);
    knows = λ observable settled is. settled;
  }

  -- memory ran out before a call
  pub out_of_memory : (h : History) (end : Result Reply PlanFault) → IsErrAnd end (λ e. e ≡ Memory) → Plans most h h settings (GivenOf given) op label Settled end
  out_of_memory h end is = subst (Plans most h h settings (GivenOf given) op label Settled) (sym (err_is end Memory is)) (record {
    grows = grows_none most (GivenOf given) h;
    cause = cause_of (ends_by_commit op (reply_of (Err Memory))) h.faults h.faults (Err Memory) refl;
    own = tt;
    effect = λ met. quiet_memory settings h h.called h.called op label (none_made refl met.sound);
    knows = λ observable settled is. settled;
  })

  module _ {T : Type 0} {P : State → T → Type 0} {asked : SwiftAccount → Type 0} {a b : History} (m : Bound) (within : IsWider m most) (under : Met (GivenOf given) a → Met asked a) where
    -- the calls told nothing, and their fault is handed on
    pub calls_in_vain : {fault : PlanFault} → Asks m a b asked (Tells P) (Err fault) → (end : Result Reply PlanFault) → IsErrAnd end (λ e. e ≡ fault) → Plans most a b settings (GivenOf given) op label Settled end
    calls_in_vain {fault = fault} asks end is = subst (Plans most a b settings (GivenOf given) op label Settled) (sym (err_is end fault is)) (record {
      grows = grows_more within under asks.grows;
      cause = cause_of (ends_by_commit op (reply_of (Err fault))) a.faults b.faults (Err fault) (cause_same fault asks.cause);
      own = tt;
      effect = λ met. not_read settings b a.called b.called op label (Tells P) fault (asks.effect (under met));
      knows = λ observable settled is. asks.settled observable settled;
    })
      where
        cause_same : (fault : PlanFault) → CausesFault {T = T} a.faults b.faults (Err fault) → CausesFault {T = Reply} a.faults b.faults (Err fault)
        cause_same Failed cause = cause
        cause_same Memory cause = cause
        cause_same Inconsistent cause = cause

    -- by what they told the plan ends
    pub calls_end : {value : T} (told : T) → value ≡ told → (end : Result Reply PlanFault) → Asks m a b asked (Tells P) (Ok value) → IfOk end IsOwnReply → end ≢ Err Failed
        → ((tree : SwiftAccount) → given tree → P (s3_state tree) told → (reply : Reply) × (end ≡ Ok reply) × S3Step settings (s3_state tree) op label reply (s3_state tree)) → Plans most a b settings (GivenOf given) op label Settled end
    calls_end told is end asks own no_failure step = record {
      grows = grows_more within under asks.grows;
      cause = cause_of (ends_by_commit op (reply_of end)) a.faults b.faults end (due_cause a.faults b.faults end asks.cause no_failure);
      own = own;
      effect = λ met.
          let reads = asks.effect (under met) in
          let from : b.account_at a.called ≡ present a = (asks.grows.on.kept met.observable).accounts a.called (omega arith) in
          let does = step _ (subst given (sym from) met.has.is) (subst (P (s3_state (b.account_at a.called))) is reads.2.of_state) in
          subst (EndsPlan settings b a.called b.called op label) (sym does.1) (quiet_step settings b a.called b.called op label does.0 reads.0 does.2);
      knows = λ observable settled is. asks.settled observable settled;
    }

  -- the same of one call
  module _ {T : Type 0} {P : State → T → Type 0} {a b : History} (within : IsWider (always 1) most) where
    pub told_nothing : {fault : PlanFault} → Asks (always 1) a b IsSettled (Tells P) (Err fault) → (end : Result Reply PlanFault) → IsErrAnd end (λ e. e ≡ fault) → Plans most a b settings (GivenOf given) op label Settled end
    told_nothing asks end is = calls_in_vain (always 1) within met_settled asks end is

    pub ends_by : {value : T} (told : T) → value ≡ told → (end : Result Reply PlanFault) → Asks (always 1) a b IsSettled (Tells P) (Ok value) → IfOk end IsOwnReply → end ≢ Err Failed
        → ((tree : SwiftAccount) → given tree → P (s3_state tree) told → (reply : Reply) × (end ≡ Ok reply) × S3Step settings (s3_state tree) op label reply (s3_state tree)) → Plans most a b settings (GivenOf given) op label Settled end
    ends_by told is end asks own no_failure step = calls_end (always 1) within met_settled told is end asks own no_failure step

    -- what it told is answered
    pub answers : {value : T} (told : T) → value ≡ told → (reply : Reply) → Asks (always 1) a b IsSettled (Tells P) (Ok value) → IsOwnReply reply
        → ((tree : SwiftAccount) → given tree → P (s3_state tree) told → S3Step settings (s3_state tree) op label reply (s3_state tree)) → Plans most a b settings (GivenOf given) op label Settled (Ok reply)
    answers told is reply asks own step = ends_by told is (Ok reply) asks own (λ e. cc) (λ tree has known. (reply, refl, step tree has known))

  -- calls left the state, whether they wrote or not, and the rest of the plan goes on
  pub goes_on_from : {T : Type 0} {Q : SwiftAccount → SwiftAccount → T → Type 0} {asked rest : SwiftAccount → Type 0} {a b c : History} {n m : Bound} {now : Settings} {after : Known} {end : Result Reply PlanFault} {value : T}
      → (Met (GivenOf given) a → Met asked a) → now ≡ settings → Asks n a b asked Q (Ok value) → Plans m b c now (GivenOf rest) op label after end
      → (given (present a) → Q (present a) (present b) value → rest (present b)) → IsBoth n m most (given (present a) × Q (present a) (present b) value)
      → Plans most a c settings (GivenOf given) op label after end
  goes_on_from {Q = Q} {a = a} {b = b} {c = c} {n = n} {m = m} {end = end} {value = value} under same asks plans gives both = record {
    grows = record {
      on = goes_trans asks.grows.on plans.grows.on;
      calls = within_both n m most a.called b.called c.called both under (met_after asks under gives) told asks.grows.calls plans.grows.calls;
    };
    cause = cause_from (ends_by_commit op (reply_of end)) a.faults b.faults c.faults end asks.cause plans.cause;
    own = plans.own;
    effect = λ met.
        let reads = asks.effect (under met) in
        let ends = subst (λ s. EndsPlan s c b.called c.called op label end) same (plans.effect (met_after asks under gives met)) in
        let later = plans.grows.on.kept (asks.grows.on.observable met.observable) in
        let ordered = asks.grows.on.ordered in
        record {
          committed = ends.committed;
          takes = ends.takes;
          answers = answers_after (quiet_agree later reads.0) (later.counts b.called (omega arith) ∙ reads.1 ∙ sym (later.counts a.called (omega arith))) ends.answers;
          consistent = ends.consistent;
        };
    knows = λ observable settled is. plans.knows (asks.grows.on.observable observable) (asks.settled observable settled) is;
  }
    where
      told : Met (GivenOf given) a → given (present a) × Q (present a) (present b) value
      told met =
          let ordered = asks.grows.on.ordered in
          let from : b.account_at a.called ≡ present a = (asks.grows.on.kept met.observable).accounts a.called (omega arith) in
          (met.has.is, subst (λ tree. Q tree (present b) value) from (asks.effect (under met)).2)

  -- a call told of the state, and the rest of the plan goes on
  pub goes_on : {T : Type 0} {P : State → T → Type 0} {a b c : History} {m : Bound} {now : Settings} {rest : SwiftAccount → Type 0} {after : Known} {end : Result Reply PlanFault} {value : T} → IsOneMore m most → (told : T) → value ≡ told → now ≡ settings
      → Asks (always 1) a b IsSettled (Tells P) (Ok value) → Plans m b c now (GivenOf rest) op label after end → ((tree : SwiftAccount) → given tree → P (s3_state tree) told → rest tree) → Plans most a c settings (GivenOf given) op label after end
  goes_on {m = m} {rest = rest} within told is same asks plans gives = goes_on_from met_settled same asks plans (after_told given rest told is gives) (one_more m most _ within)

  -- the call that changes the state is the last one, and its answer says how
  pub commits : {T : Type 0} {given' : SwiftAccount → Type 0} {S : T → State → State → Type 0} {a b : History} {end : Result T PlanFault} (reply : T → Reply) → IsWider (always 1) most → Changes (always 1) a b (GivenOf given') S end
      → ((told : T) → IsOwnReply (reply told)) → ((tree : SwiftAccount) → given tree → given' tree) → ((tree : SwiftAccount) (told : T) (new : State) → given tree → S told (s3_state tree) new → S3Step settings (s3_state tree) op label (reply told) new)
      → Plans most a b settings (GivenOf given) op label Settled (ended end reply)
  commits {T = T} {given' = given'} {S = S} {a = a} {b = b} {end = end} reply within changes own gives step = record {
    grows = grows_more within (met_within gives) changes.grows;
    cause = cause_of (ends_by_commit op (reply_of (ended end reply))) a.faults b.faults (ended end reply) (cause_ended end changes.cause);
    own = own_ended end;
    effect = λ met.
        let from : b.account_at a.called ≡ present a = (changes.grows.on.kept met.observable).accounts a.called (omega arith) in
        let here : given (b.account_at a.called) = subst given (sym from) met.has.is in
        is_written settings b a.called b.called op label S reply (λ told new does. step _ told new here does) end (changes.effect (met_within gives met));
    knows = λ observable settled is. changes.settled observable settled;
  }
    where
      cause_ended : (end : Result T PlanFault) → CausesFault a.faults b.faults end → CausesFault a.faults b.faults (ended end reply)
      cause_ended (Ok done) cause = cause
      cause_ended (Err Failed) cause = cause
      cause_ended (Err Memory) cause = cause
      cause_ended (Err Inconsistent) cause = cause

      own_ended : (end : Result T PlanFault) → IfOk (ended end reply) IsOwnReply
      own_ended (Ok told) = own told
      own_ended (Err fault) = tt

-- a change that tells nothing is a step to the state that it gives
pub becomes : {settings : Settings} {op : Op} {label : Label} {reply : Reply} {old new changed : State} → S3Step settings old op label reply changed → new ≡ changed → S3Step settings old op label reply new
becomes {settings = settings} {op = op} {label = label} {reply = reply} {old = old} step is = subst (S3Step settings old op label reply) (sym is) step

-- the reply by the end of a whole plan
pub answered_by : {most : Bound} {a b : History} {settings : Settings} {op : Op} {label : Label} {end : Result Reply PlanFault} → beside_of op ≡ nothing_beside → Stops (shows op) 0 a b end → Plans most a b settings (Given Any) op label Settled end → Answered most a b settings op label Settled (reply_of end)
answered_by {most = most} {a = a} {b = b} {op = op} {label = label} {end = end} none stops plans = record {
  grows = record { on = plans.grows.on; calls = within_same most a.called b.called any plans.grows.calls };
  refused = shown_of op a b end stops;
  showable = showable_of end plans.own;
  unavailable = rose_of (ends_by_commit op (reply_of end)) a.faults b.faults end plans.own plans.cause;
  unsure = λ is. absurd (let no : Settled ≡ Unsure = is in cc);
  steady = steady_of (ends_by_commit op (reply_of end)) a.faults b.faults end plans.cause;
  effect = λ met. let ends = plans.effect (any met) in (ends.committed, ends.takes, ends.answers);
  beside = λ met. subst (λ w. SaysBeside w label b a.called b.called (reply_of end)) (sym none) tt;
  consistent = λ met. consistent_of end plans.own (plans.effect (any met)).consistent;
  knows = plans.knows;
}
  where
    any : Met IsSettled a → Met (Given Any) a
    any met = record { observable = met.observable; sound = met.sound; has = record { settled = met.has; is = tt } }

    within_same : (most : Bound) {P Q : Type 0} (p q : ℕ) → (Q → P) → IsWithin most P p q → IsWithin most Q p q
    within_same (always n) p q from within = within
    within_same (by_account n) p q from within = λ met. within (from met)

-- of an operation on buckets and objects nothing is asked of the account beside the state
pub none_beside : (op : ObjectsOp) → beside_of (OnObjects op) ≡ nothing_beside
none_beside (op.ListBuckets asked) = refl
none_beside (op.CreateBucket made) = refl
none_beside (op.DeleteBucket bucket) = refl
none_beside (op.HeadBucket bucket) = refl
none_beside (op.GetLocation bucket) = refl
none_beside (op.GetBucketAcl bucket) = refl
none_beside (op.PutBucketAcl set) = refl
none_beside (op.ListObjects list) = refl
none_beside (op.PutObject put) = refl
none_beside (op.HeadObject read) = refl
none_beside (op.DeleteObject name) = refl
none_beside (op.DeleteObjects many) = refl
none_beside (op.GetObjectAcl name) = refl
none_beside (op.PutObjectAcl set) = refl
none_beside (op.GetSetting read) = refl
