-- One call that may write and leaves the state, from what the store told when it ended; and calls that leave the state, one
-- stretch after another.
use Rattle.std.specs.Prelude.{◌≡◌, ◌≢◌, ◌≤◌, ℕ, ◌+◌, Result, Ok, Err}
use Rattle.std.specs.Result.{IsErrAnd}
use Rattle.std.proofs.Common.{sym, ap, subst, ◌∙◌, inl, inr, arith}
use Rattle.std.proofs.lemmas.Bool.{cases_lt}
use Rattle.swift_calls.specs.Account.{SwiftAccount}
use Rattle.swift_calls.specs.Step.{swift_step}
use Rattle.swift_calls.specs.History.{History, Extends, Either, Called, Replied, Calls, present}
use Rattle.swift_calls.specs.declared.calls.SwiftRequest.{SwiftRequest}
use Rattle.swift_calls.specs.declared.calls.SwiftReply.{SwiftReply}
use Rattle.swift_calls.specs.declared.calls.SwiftFault.{SwiftFault}
use Rattle.swift_calls.specs.declared.calls.SwiftFault.TheVariants.{Failed, Memory}
use Rattle.upload_records.specs.Native.{s3_state}
use Rattle.upload_records.specs.Consistent.{IsConsistent}
use Rattle.account_calls.specs.declared.fault.PlanFault.{PlanFault}
use Rattle.account_calls.specs.declared.fault.PlanFault.TheVariants as fault
use Rattle.account_calls.specs.Fault.{plan_fault, CausesFault}
use Rattle.account_calls.specs.Interpret.{Gives}
use Rattle.account_calls.specs.Stutters.{Stutters}
use Rattle.account_calls.specs.Calls.{Bound, always, Met, Keeps, Asks}
use Rattle.account_calls.proofs.lemmas.Agree.{quiet_agree, quiet_trans, failed_after}
use Rattle.account_calls.proofs.lemmas.Causes.{due_cause}
use Rattle.account_calls.proofs.lemmas.Faults.{err_is}
use Rattle.account_calls.proofs.lemmas.Idle.{none_made, goes_trans}
use Rattle.account_calls.proofs.lemmas.One.{LeavesSettled, found, fault_cause, grows_one, lost_last, spent_last, stays_settled}

-- ---- one call

-- the answer to the request on this account comes to what is told; the account after it is consistent and represents the same
-- state, and P holds of both
pub record QuietEffect {T : Type 0} (tree : SwiftAccount) (request : SwiftRequest) (due : SwiftReply → Result T PlanFault) (P : SwiftAccount → SwiftAccount → T → Type 0) : Type 0 where
  pub told : T
  pub says : due (swift_step request tree).reply ≡ Ok told
  pub sound : IsConsistent (swift_step request tree).tree
  pub same : s3_state (swift_step request tree).tree ≡ s3_state tree
  pub tells : P tree (swift_step request tree).tree told

-- over each consistent account of which the given holds the request has such an effect, and it leaves accounts settled
pub record IsQuietOf {T : Type 0} (given : SwiftAccount → Type 0) (request : SwiftRequest) (due : SwiftReply → Result T PlanFault) (P : SwiftAccount → SwiftAccount → T → Type 0) : Type 0 where
  pub effect : (tree : SwiftAccount) → IsConsistent tree → given tree → QuietEffect tree request due P
  pub settled : LeavesSettled request

-- a call, after which the account is consistent and represents the same state
one_quiet : {h : History} {p q : ℕ} → q ≡ p + 1 → IsConsistent (h.account_at p) → IsConsistent (h.account_at q) → s3_state (h.account_at q) ≡ s3_state (h.account_at p) → Stutters h p q
one_quiet {h = h} {p = p} {q = q} next before after same = record {
  ordered = omega arith;
  same = λ k from to. elim (cases_lt k q) as (λ _. s3_state (h.account_at k) ≡ s3_state (h.account_at p)) [
    | inl near ↦ let e : k ≡ p = omega arith in ap (λ j. s3_state (h.account_at j)) e
    | inr far ↦ let e : k ≡ q = omega arith in ap (λ j. s3_state (h.account_at j)) e ∙ same
  ];
  sound = λ k from to. elim (cases_lt k q) as (λ _. IsConsistent (h.account_at k)) [
    | inl near ↦ let e : p ≡ k = omega arith in subst (λ j. IsConsistent (h.account_at j)) e before
    | inr far ↦ let e : q ≡ k = omega arith in subst (λ j. IsConsistent (h.account_at j)) e after
  ];
}

module _ {T : Type 0} {request : SwiftRequest} {due : SwiftReply → Result T PlanFault} {P : SwiftAccount → SwiftAccount → T → Type 0} (h : History) (p q : ℕ) (sound : IsConsistent (h.account_at p))
    (effect : QuietEffect (h.account_at p) request due P) where
  done_quiet : q ≡ p + 1 → h.account_at q ≡ (swift_step request (h.account_at p)).tree → Stutters h p q
  done_quiet next done = one_quiet next sound (subst IsConsistent (sym done) effect.sound) (ap s3_state done ∙ effect.same)

  either_quiet : q ≡ p + 1 → Either h p q request → Stutters h p q
  either_quiet next (inl same) = one_quiet next sound (subst IsConsistent (sym same) sound) (ap s3_state same)
  either_quiet next (inr done) = done_quiet next done

  in_vain : (fault : SwiftFault) → Called h p q request (Err fault) → Keeps h p q P (Err (plan_fault fault))
  in_vain Failed (inl c) = (either_quiet c.next c.either, lost_last c)
  in_vain Failed (inr (spent, same)) = (none_made same sound, spent_last spent same)
  in_vain Memory (inl c) = (either_quiet c.next c.either, c.quiet)
  in_vain Memory (inr same) = (none_made same sound, ap h.faults_at same)

  told_by : (reply : SwiftReply) (result : Result T PlanFault) → Replied h p q request reply → Gives result (due reply) → Keeps h p q P result
  told_by reply result c (inl out_of_memory) = subst (Keeps h p q P) (sym out_of_memory) (done_quiet c.next c.tree, c.quiet)
  told_by reply result c (inr is) =
      subst (Keeps h p q P) (sym (is ∙ ap due c.reply ∙ effect.says)) (done_quiet c.next c.tree, c.quiet, subst (λ tree. P (h.account_at p) tree effect.told) (sym c.tree) effect.tells)

module _ {T : Type 0} {given : SwiftAccount → Type 0} {request : SwiftRequest} {due : SwiftReply → Result T PlanFault} {P : SwiftAccount → SwiftAccount → T → Type 0} (quiet : IsQuietOf given request due P)
    {old new : History} where
  -- what is given of the account that the call found
  effect_here : {result : Result SwiftReply SwiftFault} → Calls old new request result → Met given old → QuietEffect (new.account_at old.called) request due P
  effect_here calls met = subst (λ tree. QuietEffect tree request due P) (sym (found calls met.observable)) (quiet.effect _ met.sound met.has)

  -- it was not answered
  pub quiet_in_vain : {fault : SwiftFault} → Calls old new request (Err fault) → (result : Result T PlanFault) → IsErrAnd result (λ e. e ≡ plan_fault fault) → Asks (always 1) old new given P result
  quiet_in_vain {fault = fault} calls result is = subst (Asks (always 1) old new given P) (sym (err_is result (plan_fault fault) is)) (record {
    grows = grows_one given calls;
    cause = fault_cause T old.faults new.faults fault calls.faults;
    effect = λ met. in_vain new old.called new.called (subst IsConsistent (sym (found calls met.observable)) met.sound) (effect_here calls met) fault (calls.effect met.observable);
    settled = stays_settled quiet.settled calls;
  })

  -- it was answered
  pub quieted : {reply : SwiftReply} → Calls old new request (Ok reply) → (result : Result T PlanFault) → Gives result (due reply) → result ≢ Err fault.Failed → Asks (always 1) old new given P result
  quieted {reply = reply} calls result gives own = record {
    grows = grows_one given calls;
    cause = due_cause old.faults new.faults result calls.faults own;
    effect = λ met. told_by new old.called new.called (subst IsConsistent (sym (found calls met.observable)) met.sound) (effect_here calls met) reply result (calls.effect met.observable) gives;
    settled = stays_settled quiet.settled calls;
  }

-- ---- one stretch after another

-- more is given than the calls ask
pub asks_under : {T : Type 0} {n : ℕ} {a b : History} {given given' : SwiftAccount → Type 0} {P : SwiftAccount → SwiftAccount → T → Type 0} {result : Result T PlanFault}
    → ((tree : SwiftAccount) → given' tree → given tree) → Asks (always n) a b given P result → Asks (always n) a b given' P result
asks_under gives asks = record {
  grows = record { on = asks.grows.on; calls = asks.grows.calls };
  cause = asks.cause;
  effect = λ met. asks.effect (record { observable = met.observable; sound = met.sound; has = gives _ met.has });
  settled = asks.settled;
}

-- the account at the number before the calls is the one that they found
pub asked_here : {T : Type 0} {m : Bound} {a b : History} {given : SwiftAccount → Type 0} {P : SwiftAccount → SwiftAccount → T → Type 0} {result : Result T PlanFault}
    → Asks m a b given P result → Met given a → b.account_at a.called ≡ present a
asked_here {a = a} asks met = (asks.grows.on.kept met.observable).accounts a.called (omega arith)

-- what is told was of the account that the calls found
pub told_here : {T : Type 0} {m : Bound} {a b : History} {given : SwiftAccount → Type 0} {P : SwiftAccount → SwiftAccount → T → Type 0} {x : T}
    → Asks m a b given P (Ok x) → Met given a → P (present a) (present b) x
told_here {b = b} {P = P} {x = x} asks met = subst (λ tree. P tree (present b) x) (asked_here asks met) (asks.effect met).2

-- the state is the one that the calls found
pub state_here : {T : Type 0} {m : Bound} {a b : History} {given : SwiftAccount → Type 0} {P : SwiftAccount → SwiftAccount → T → Type 0} {x : T}
    → Asks m a b given P (Ok x) → Met given a → s3_state (present b) ≡ s3_state (present a)
state_here {b = b} asks met =
    let quiet = (asks.effect met).0 in
    let order = quiet.ordered in
    quiet.same b.called order (omega arith) ∙ ap s3_state (asked_here asks met)

-- and they are told with it
pub asks_same_state : {T : Type 0} {m : Bound} {a b : History} {given : SwiftAccount → Type 0} {P : SwiftAccount → SwiftAccount → T → Type 0} {x : T}
    → Asks m a b given P (Ok x) → Asks m a b given (λ old new y. P old new y × (s3_state new ≡ s3_state old)) (Ok x)
asks_same_state {b = b} asks = record {
  grows = asks.grows;
  cause = asks.cause;
  effect = λ met. let keeps = asks.effect met in let order = keeps.0.ordered in (keeps.0, keeps.1, (keeps.2, keeps.0.same b.called order (omega arith)));
  settled = asks.settled;
}

-- calls that weren't answered told nothing, whatever they would have told
pub asks_untold : {T U : Type 0} {m : Bound} {a b : History} {given : SwiftAccount → Type 0} {P : SwiftAccount → SwiftAccount → T → Type 0} {R : SwiftAccount → SwiftAccount → U → Type 0} (f : PlanFault)
    → Asks m a b given P (Err f) → Asks m a b given R (Err f)
asks_untold {T = T} {U = U} {a = a} {b = b} {P = P} {R = R} f asks = record { grows = asks.grows; cause = cause_same f asks.cause; effect = λ met. keeps_same f (asks.effect met); settled = asks.settled }
  where
    cause_same : (f : PlanFault) → CausesFault {T = T} a.faults b.faults (Err f) → CausesFault {T = U} a.faults b.faults (Err f)
    cause_same fault.Failed cause = cause
    cause_same fault.Memory cause = cause
    cause_same fault.Inconsistent cause = cause

    keeps_same : (f : PlanFault) → Keeps b a.called b.called P (Err f) → Keeps b a.called b.called R (Err f)
    keeps_same fault.Failed keeps = keeps
    keeps_same fault.Memory keeps = keeps
    keeps_same fault.Inconsistent never = never

module _ {U : Type 0} (a b c : History) (Q R : SwiftAccount → SwiftAccount → U → Type 0) (quiet : Stutters b a.called b.called) (still : b.faults_at b.called ≡ b.faults_at a.called) (kept : Extends b.called b c)
    (tells : (y : U) → Q (c.account_at b.called) (c.account_at c.called) y → R (c.account_at a.called) (c.account_at c.called) y) where
  still_then : c.faults_at b.called ≡ c.faults_at a.called
  still_then = let order = quiet.ordered in kept.counts b.called (omega arith) ∙ still ∙ sym (kept.counts a.called order)

  keeps_then : (result : Result U PlanFault) → Keeps c b.called c.called Q result → Keeps c a.called c.called R result
  keeps_then (Ok y) keeps = (quiet_trans (quiet_agree kept quiet) keeps.0, keeps.1 ∙ still_then, tells y keeps.2)
  keeps_then (Err fault.Failed) keeps = let first = quiet_agree kept quiet in (quiet_trans first keeps.0, failed_after first still_then keeps.1)
  keeps_then (Err fault.Memory) keeps = (quiet_trans (quiet_agree kept quiet) keeps.0, keeps.1 ∙ still_then)
  keeps_then (Err fault.Inconsistent) never = never

module _ {T U : Type 0} {n most : ℕ} {a b : History} {given : SwiftAccount → Type 0} {P : SwiftAccount → SwiftAccount → T → Type 0} {R : SwiftAccount → SwiftAccount → U → Type 0} where
  -- calls were answered, and then others ask what those left
  pub asks_then : {m : ℕ} {c : History} {rest : SwiftAccount → Type 0} {Q : SwiftAccount → SwiftAccount → U → Type 0} {x : T} {result : Result U PlanFault} → n + m ≤ most
      → Asks (always n) a b given P (Ok x) → Asks (always m) b c rest Q result
      → ((old new : SwiftAccount) → IsConsistent old → s3_state new ≡ s3_state old → given old → P old new x → rest new)
      → ((old new last : SwiftAccount) (y : U) → IsConsistent old → given old → P old new x → Q new last y → R old last y)
      → Asks (always most) a c given R result
  asks_then {c = c} {rest = rest} {Q = Q} {x = x} {result = result} within first then gives tells = record {
    grows = record {
      on = goes_trans first.grows.on then.grows.on;
      calls = let near = first.grows.calls in let far = then.grows.calls in omega arith;
    };
    cause = subst (λ f. CausesFault f c.faults result) first.cause then.cause;
    effect = λ met.
        let keeps = first.effect met in
        let order = first.grows.on.ordered in
        let observable = first.grows.on.observable met.observable in
        let kept = then.grows.on.kept observable in
        let has = gives (present a) (present b) met.sound (state_here first met) met.has (told_here first met) in
        let from : c.account_at a.called ≡ present a = kept.accounts a.called order ∙ asked_here first met in
        let middle : c.account_at b.called ≡ present b = kept.accounts b.called (omega arith) in
        keeps_then a b c Q R keeps.0 keeps.1 kept
        (λ y told. subst (λ tree. R tree (present c) y) (sym from) (tells (present a) (present b) (present c) y met.sound met.has (told_here first met) (subst (λ tree. Q tree (present c) y) middle told)))
        result (then.effect (record { observable = observable; sound = keeps.0.sound b.called order (omega arith); has = has }));
    settled = λ observable settled. then.settled (first.grows.on.observable observable) (first.settled observable settled);
  }

  -- they were not
  pub asks_failed : {f : PlanFault} → n ≤ most → Asks (always n) a b given P (Err f) → (result : Result U PlanFault) → IsErrAnd result (λ e. e ≡ f) → Asks (always most) a b given R result
  asks_failed {f = f} within asks result is =
      let untold : Asks (always n) a b given R (Err f) = asks_untold f asks in
      subst (Asks (always most) a b given R) (sym (err_is result f is)) (record {
        grows = record { on = asks.grows.on; calls = let near = asks.grows.calls in omega arith };
        cause = untold.cause;
        effect = untold.effect;
        settled = asks.settled;
      })

  -- what they told is what is wanted
  pub asks_left : {x : T} (y : U) → n ≤ most → Asks (always n) a b given P (Ok x)
      → ((old new : SwiftAccount) → IsConsistent old → s3_state new ≡ s3_state old → given old → P old new x → R old new y) → Asks (always most) a b given R (Ok y)
  asks_left {x = x} y within asks gives = record {
    grows = record { on = asks.grows.on; calls = let near = asks.grows.calls in omega arith };
    cause = asks.cause;
    effect = λ met.
        let keeps = asks.effect met in
        (keeps.0, keeps.1, subst (λ tree. R tree (present b) y) (sym (asked_here asks met)) (gives (present a) (present b) met.sound (state_here asks met) met.has (told_here asks met)));
    settled = asks.settled;
  }

  -- and then memory ran out
  pub asks_no_memory : {x : T} → n ≤ most → Asks (always n) a b given P (Ok x) → (result : Result U PlanFault) → IsErrAnd result (λ e. e ≡ fault.Memory) → Asks (always most) a b given R result
  asks_no_memory within asks result is = subst (Asks (always most) a b given R) (sym (err_is result fault.Memory is)) (record {
    grows = record { on = asks.grows.on; calls = let near = asks.grows.calls in omega arith };
    cause = asks.cause;
    effect = λ met. let keeps = asks.effect met in (keeps.0, keeps.1);
    settled = asks.settled;
  })
