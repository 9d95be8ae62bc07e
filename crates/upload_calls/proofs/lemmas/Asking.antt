-- Calls that leave the account, one after another, and plans that end with them or go on behind them.
use Rattle.std.specs.Prelude.{◌≡◌, ◌≢◌, ◌≤◌, ℕ, ◌+◌, Result, Ok, Err, IfOk}
use Rattle.std.specs.Result.{IsErrAnd}
use Rattle.std.proofs.Common.{refl, sym, subst, ◌∙◌, arith}
use Rattle.s3_machine.specs.declared.operation.Label.{Label}
use Rattle.s3_machine.specs.declared.operation.Settings.{Settings}
use Rattle.s3_machine.specs.declared.operation.Op.{Op}
use Rattle.s3_machine.specs.declared.operation.Reply.{Reply}
use Rattle.s3_machine.specs.State.{State}
use Rattle.s3_machine.specs.Step.{S3Step}
use Rattle.swift_calls.specs.Account.{SwiftAccount}
use Rattle.swift_calls.specs.History.{History, present}
use Rattle.upload_records.specs.Native.{s3_state}
use Rattle.upload_records.specs.Consistent.{IsConsistent}
use Rattle.account_calls.specs.declared.fault.PlanFault.{PlanFault}
use Rattle.account_calls.specs.declared.fault.PlanFault.TheVariants.{Failed, Memory, Inconsistent}
use Rattle.account_calls.specs.declared.state.Known.TheVariants.{Settled}
use Rattle.account_calls.specs.Fault.{CausesFault}
use Rattle.account_calls.specs.Stutters.{Stutters}
use Rattle.account_calls.specs.Listing.{TellsOf}
use Rattle.account_calls.specs.Calls.{Bound, always, Met, GivenOf, Keeps, Tells, Asks}
use Rattle.account_calls.specs.Plan.{IsOwnReply, Plans}
use Rattle.account_calls.proofs.lemmas.Agree.{quiet_agree, quiet_trans, failed_after}
use Rattle.account_calls.proofs.lemmas.Ask.{asks_told}
use Rattle.account_calls.proofs.lemmas.Ends.{IsWider, calls_in_vain, calls_end}
use Rattle.account_calls.proofs.lemmas.Faults.{err_is}
use Rattle.account_calls.proofs.lemmas.Idle.{goes_trans}

-- ---- calls that leave the account

-- what is given of an account says what calls ask
pub met_asked : {given asked : SwiftAccount → Type 0} {h : History} → ((tree : SwiftAccount) → given tree → asked tree) → Met given h → Met asked h
met_asked gives met = record { observable = met.observable; sound = met.sound; has = gives _ met.has }

same_cause : (T U : Type 0) (before now : ℕ) (f : PlanFault) → CausesFault {T = T} before now (Err f) → CausesFault {T = U} before now (Err f)
same_cause T U before now Failed cause = cause
same_cause T U before now Memory cause = cause
same_cause T U before now Inconsistent cause = cause

same_keeps : {T U : Type 0} (P : SwiftAccount → SwiftAccount → T → Type 0) (Q : SwiftAccount → SwiftAccount → U → Type 0) (h : History) (p q : ℕ) (f : PlanFault)
    → Keeps h p q P (Err f) → Keeps h p q Q (Err f)
same_keeps P Q h p q Failed keeps = keeps
same_keeps P Q h p q Memory keeps = keeps
same_keeps P Q h p q Inconsistent never = never

-- calls that failed told nothing
pub asks_nothing : {T U : Type 0} {n most : ℕ} {given : SwiftAccount → Type 0} {P : SwiftAccount → SwiftAccount → T → Type 0} {Q : SwiftAccount → SwiftAccount → U → Type 0} {a b : History} {f : PlanFault}
    → n ≤ most → Asks (always n) a b given P (Err f) → (result : Result U PlanFault) → IsErrAnd result (λ e. e ≡ f) → Asks (always most) a b given Q result
asks_nothing {T = T} {U = U} {most = most} {given = given} {P = P} {Q = Q} {a = a} {b = b} {f = f} within asks result is = subst (Asks (always most) a b given Q) (sym (err_is result f is)) (record {
  grows = record { on = asks.grows.on; calls = let near = asks.grows.calls in omega (arith, near, within) };
  cause = same_cause T U a.faults b.faults f asks.cause;
  effect = λ met. same_keeps P Q b a.called b.called f (asks.effect met);
  settled = asks.settled;
})

module _ {T U : Type 0} {given : SwiftAccount → Type 0} {P : State → T → Type 0} {Q : SwiftAccount → U → Type 0} {a b : History} {n most : ℕ} {x : T} (within : n ≤ most) where
  -- calls told of the state, and this of the account
  pub asks_as : (y : U) → ((tree : SwiftAccount) → IsConsistent tree → given tree → P (s3_state tree) x → Q tree y) → Asks (always n) a b given (Tells P) (Ok x) → Asks (always most) a b given (TellsOf Q) (Ok y)
  asks_as y tells asks = record {
    grows = record { on = asks.grows.on; calls = let near = asks.grows.calls in omega (arith, near, within) };
    cause = asks.cause;
    effect = λ met.
        let keeps = asks.effect met in
        let from : b.account_at a.called ≡ present a = (asks.grows.on.kept met.observable).accounts a.called (omega arith) in
        let sound : IsConsistent (b.account_at a.called) = subst IsConsistent (sym from) met.sound in
        let has : given (b.account_at a.called) = subst given (sym from) met.has in
        (keeps.0, keeps.1, record { of_account = tells _ sound has keeps.2.of_state; same = keeps.2.same });
    settled = asks.settled;
  }

module _ {U : Type 0} (Q : SwiftAccount → U → Type 0) {h : History} {p q : ℕ} (r : ℕ) (quiet : Stutters h p q) (steady : h.faults_at q ≡ h.faults_at p) (same : h.account_at q ≡ h.account_at p) where
  keeps_after : (result : Result U PlanFault) → Keeps h q r (TellsOf Q) result → Keeps h p r (TellsOf Q) result
  keeps_after (Ok told) keeps = (
    quiet_trans quiet keeps.0,
    keeps.1 ∙ steady,
    record { of_account = subst (λ tree. Q tree told) same keeps.2.of_account; same = keeps.2.same ∙ same },
  )
  keeps_after (Err Failed) keeps = (quiet_trans quiet keeps.0, failed_after quiet steady keeps.1)
  keeps_after (Err Memory) keeps = (quiet_trans quiet keeps.0, keeps.1 ∙ steady)
  keeps_after (Err Inconsistent) never = never

-- calls told of the state, and further calls tell of the account
pub asks_on : {T U : Type 0} {given rest : SwiftAccount → Type 0} {P : State → T → Type 0} {Q : SwiftAccount → U → Type 0} {a b c : History} {n m most : ℕ} {x : T} {result : Result U PlanFault}
    → n + m ≤ most → Asks (always n) a b given (Tells P) (Ok x) → ((tree : SwiftAccount) → given tree → P (s3_state tree) x → rest tree) → Asks (always m) b c rest (TellsOf Q) result → Asks (always most) a c given (TellsOf Q) result
asks_on {given = given} {rest = rest} {P = P} {Q = Q} {a = a} {b = b} {c = c} {x = x} {result = result} within first gives then = record {
  grows = record { on = goes_trans first.grows.on then.grows.on; calls = let near = first.grows.calls in let far = then.grows.calls in omega (arith, near, far, within) };
  cause = subst (λ f. CausesFault f c.faults result) first.cause then.cause;
  effect = λ met.
      let keeps = first.effect met in
      let ordered = first.grows.on.ordered in
      let observable = first.grows.on.observable met.observable in
      let from : b.account_at a.called ≡ present a = (first.grows.on.kept met.observable).accounts a.called (omega arith) in
      let same : present b ≡ present a = keeps.2.same ∙ from in
      let told : P (s3_state (present a)) x = subst (λ tree. P (s3_state tree) x) from keeps.2.of_state in
      let here : Met rest b = record { observable = observable; sound = subst IsConsistent (sym same) met.sound; has = subst rest (sym same) (gives (present a) met.has told) } in
      let later = then.grows.on.kept observable in
      keeps_after Q c.called (quiet_agree later keeps.0)
      (later.counts b.called (omega arith) ∙ keeps.1 ∙ sym (later.counts a.called ordered))
      (later.accounts b.called (omega arith) ∙ keeps.2.same ∙ sym (later.accounts a.called ordered))
      result (then.effect here);
  settled = λ observable settled. then.settled (first.grows.on.observable observable) (first.settled observable settled);
}

-- ---- plans that end with them

-- what is told of the account by the state alone
as_tells : {T : Type 0} {given : SwiftAccount → Type 0} {P : State → T → Type 0} {most : Bound} {a b : History} {x : T} → Asks most a b given (TellsOf (λ tree told. P (s3_state tree) told)) (Ok x) → Asks most a b given (Tells P) (Ok x)
as_tells asks = record {
  grows = asks.grows;
  cause = asks.cause;
  effect = λ met. let keeps = asks.effect met in (keeps.0, keeps.1, record { of_state = keeps.2.of_account; same = keeps.2.same });
  settled = asks.settled;
}

-- the step that an end is, if it is one
pub record IsStep (settings : Settings) (op : Op) (label : Label) (end : Result Reply PlanFault) (state : State) : Type 0 where
  pub reply : Reply
  pub is : end ≡ Ok reply
  pub step : S3Step settings state op label reply state

module _ {settings : Settings} {given : SwiftAccount → Type 0} {op : Op} {label : Label} {most : Bound} {T : Type 0} {asked : SwiftAccount → Type 0} {a b : History} (m : Bound) (within : IsWider m most) where
  -- they told nothing, and their fault is handed on
  pub asked_in_vain : {Q : SwiftAccount → SwiftAccount → T → Type 0} {fault : PlanFault} → (Met (GivenOf given) a → Met asked a) → Asks m a b asked Q (Err fault) → (end : Result Reply PlanFault) → IsErrAnd end (λ e. e ≡ fault)
      → Plans most a b settings (GivenOf given) op label Settled end
  asked_in_vain {Q = Q} {fault = fault} under asks end is = calls_in_vain {T = T} {P = λ state told. Unit {0}} m within under (record {
    grows = asks.grows;
    cause = same_cause T T a.faults b.faults fault asks.cause;
    effect = λ met. same_keeps {U = T} Q (Tells (λ state told. Unit {0})) b a.called b.called fault (asks.effect met);
    settled = asks.settled;
  }) end is

  -- by what they told the plan ends
  pub asked_end : {P : SwiftAccount → T → Type 0} {value : T} → ((tree : SwiftAccount) → GivenOf given tree → asked tree) → (end : Result Reply PlanFault) → Asks m a b asked (TellsOf P) (Ok value) → IfOk end IsOwnReply → end ≢ Err Failed
      → ((tree : SwiftAccount) → IsConsistent tree → GivenOf given tree → P tree value → IsStep settings op label end (s3_state tree)) → Plans most a b settings (GivenOf given) op label Settled end
  asked_end {value = value} gives end asks own no_failure step =
      calls_end m within (λ met. met) value refl end (as_tells {P = λ state told. IsStep settings op label end state} (asks_told gives value (λ tree sound has told. step tree sound has told) asks)) own no_failure
      (λ tree has is. (is.reply, is.is, is.step))

  -- with this reply
  pub asked_reply : {P : SwiftAccount → T → Type 0} {value : T} → ((tree : SwiftAccount) → GivenOf given tree → asked tree) → (told : T) → value ≡ told → (reply : Reply) → Asks m a b asked (TellsOf P) (Ok value) → IsOwnReply reply
      → ((tree : SwiftAccount) → IsConsistent tree → GivenOf given tree → P tree told → S3Step settings (s3_state tree) op label reply (s3_state tree)) → Plans most a b settings (GivenOf given) op label Settled (Ok reply)
  asked_reply {P = P} gives told is reply asks own step =
      asked_end gives (Ok reply) asks own (λ e. cc) (λ tree sound has tells. record { reply = reply; is = refl; step = step tree sound has (subst (P tree) is tells) })

-- what is given of the account after calls that told of it, by what they told
pub after_told_of : {T : Type 0} {P : SwiftAccount → T → Type 0} {value : T} {old new : SwiftAccount} (told : T) → value ≡ told → TellsOf P old new value → P new told
after_told_of {P = P} {value = value} {new = new} told is tells = subst (P new) is (subst (λ tree. P tree value) (sym tells.same) tells.of_account)
