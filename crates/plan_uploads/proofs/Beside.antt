-- What plans leave beside the state.
use Rattle.std.specs.Prelude.{◌≡◌, ℕ, is_some, List, Result, Ok, Err}
use Rattle.std.specs.Result.{IsErrAnd}
use Rattle.std.specs.FinMap.{get}
use Rattle.std.proofs.Common.{refl, sym, ap, subst, ◌∙◌, arith, true≢false}
use Rattle.s3_machine.specs.declared.operation.Label.{Label}
use Rattle.s3_machine.specs.declared.operation.Reply.{Reply}
use Rattle.swift_calls.specs.Account.{SwiftAccount}
use Rattle.swift_calls.specs.History.{History, present}
use Rattle.upload_records.specs.Native.{s3_state}
use Rattle.account_calls.specs.declared.fault.PlanFault.{PlanFault}
use Rattle.account_calls.specs.declared.fault.PlanFault.TheVariants.{Failed, Memory, Inconsistent}
use Rattle.account_calls.specs.Answers.{Beside, IsFirstFree, SaysBeside, opens_in, upload_at}
use Rattle.account_calls.specs.Calls.{Bound, Asks, GivenOf, GoesOn, Keeps, Met}
use Rattle.account_calls.specs.Plan.{reply_of}
use Rattle.account_calls.specs.Stutters.{Stutters}
use Rattle.account_calls.proofs.lemmas.Agree.{beside_memory}
use Rattle.account_calls.proofs.lemmas.Faults.{err_is}
use Rattle.account_calls.proofs.lemmas.Idle.{none_made}
use Rattle.plan_uploads.specs.Plans.{LeavesBeside}

-- no call was made, and memory ran out
pub beside_none : (what : Beside) (label : Label) (h : History) (given : SwiftAccount → Type 0) (end : Result Reply PlanFault) → IsErrAnd end (λ e. e ≡ Memory) → LeavesBeside what label h h given end
beside_none what label h given end is = record { says = λ met. subst (λ e. SaysBeside what label h h.called h.called (reply_of e)) (sym (err_is end Memory is)) (beside_memory what label h h.called) }

-- calls that leave the state
pub quiet_of : {T : Type 0} (P : SwiftAccount → SwiftAccount → T → Type 0) (h : History) (p q : ℕ) (result : Result T PlanFault) → Keeps h p q P result → Stutters h p q
quiet_of P h p q (Ok told) keeps = keeps.0
quiet_of P h p q (Err Failed) keeps = keeps.0
quiet_of P h p q (Err Memory) keeps = keeps.0
quiet_of P h p q (Err Inconsistent) never = absurd never

-- calls left the state, and the rest of a plan begins on an account of which is given what it asks
pub met_next : {T : Type 0} {asked given rest : SwiftAccount → Type 0} {Q : SwiftAccount → SwiftAccount → T → Type 0} {n : Bound} {a b : History} {value : T} → Asks n a b asked Q (Ok value)
    → (Met (GivenOf given) a → Met asked a) → (given (present a) → Q (present a) (present b) value → rest (present b)) → Met (GivenOf given) a → Met (GivenOf rest) b
met_next {Q = Q} {a = a} {b = b} {value = value} asks under gives met =
    let ordered = asks.grows.on.ordered in
    let reads = asks.effect (under met) in
    let from : b.account_at a.called ≡ present a = (asks.grows.on.kept met.observable).accounts a.called (omega arith) in
    record {
      observable = asks.grows.on.observable met.observable;
      sound = reads.0.sound b.called ordered (omega arith);
      has = record { settled = asks.settled met.observable met.has.settled; is = gives met.has.is (subst (λ tree. Q tree (present b) value) from reads.2) };
    }

-- ---- an upload that is opened

-- quiet calls open none
pub opens_nothing : (bucket : List ℕ) (label : Label) (h : History) (p q : ℕ) (reply : Reply) → Stutters h p q → SaysBeside (opens_in bucket) label h p q reply
opens_nothing bucket label h p q reply quiet = λ id none some.
    let same = quiet.same q quiet.ordered (omega arith) in
    absurd (true≢false (sym some ∙ ap (λ s. is_some (upload_at (get s bucket) id)) same ∙ ap is_some none))

-- no call was needed
pub opens_still : (bucket : List ℕ) (label : Label) (h : History) (given : SwiftAccount → Type 0) (end : Result Reply PlanFault) → LeavesBeside (opens_in bucket) label h h given end
opens_still bucket label h given end = record { says = λ met. opens_nothing bucket label h h.called h.called (reply_of end) (none_made refl met.sound) }

-- a plan ended with calls that leave the state
pub opens_none : {T : Type 0} {asked given : SwiftAccount → Type 0} {Q : SwiftAccount → SwiftAccount → T → Type 0} {n : Bound} {a b : History} {result : Result T PlanFault} (bucket : List ℕ) (label : Label)
    → (Met given a → Met asked a) → Asks n a b asked Q result → (end : Result Reply PlanFault) → LeavesBeside (opens_in bucket) label a b given end
opens_none {Q = Q} {a = a} {b = b} {result = result} bucket label under asks end = record { says = λ met. opens_nothing bucket label b a.called b.called (reply_of end) (quiet_of Q b a.called b.called result (asks.effect (under met))) }

-- calls left the account, and the rest of the plan goes on
pub opens_on : {T : Type 0} {asked given rest : SwiftAccount → Type 0} {Q : SwiftAccount → SwiftAccount → T → Type 0} {n : Bound} {a b c : History} {value : T} {end : Result Reply PlanFault} {bucket : List ℕ} {label : Label}
    → (Met (GivenOf given) a → Met asked a) → Asks n a b asked Q (Ok value) → ((old new : SwiftAccount) → Q old new value → new ≡ old) → (given (present a) → Q (present a) (present b) value → rest (present b))
    → GoesOn b c → LeavesBeside (opens_in bucket) label b c (GivenOf rest) end → LeavesBeside (opens_in bucket) label a c (GivenOf given) end
opens_on {Q = Q} {a = a} {b = b} {c = c} {bucket = bucket} {label = label} under asks left gives on leaves = record {
  says = λ met.
      let ordered = asks.grows.on.ordered in
      let later = on.kept (asks.grows.on.observable met.observable) in
      let same : c.account_at b.called ≡ c.account_at a.called =
      later.accounts b.called (omega arith) ∙ left (b.account_at a.called) (present b) (asks.effect (under met)).2 ∙ sym (later.accounts a.called ordered) in
      let says = leaves.says (met_next asks under gives met) in
      λ id none some. subst (λ tree. IsFirstFree tree bucket label.draw id) same (says id (ap (λ tree. upload_at (get (s3_state tree) bucket) id) same ∙ none) some);
}
