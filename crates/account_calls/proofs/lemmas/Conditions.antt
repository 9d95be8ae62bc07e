-- What HEAD of a key tells of the condition of its write.
use Rattle.std.specs.Prelude.{◌≡◌, ◌⊎◌, ℕ, Bool, true, false, cond, List, Option, None, Some, IfSome, Result, Ok, Err, IfOk}
use Rattle.std.specs.Option.{option_map}
use Rattle.std.specs.Result.{IsErrAnd}
use Rattle.std.specs.FinMap.{get}
use Rattle.std.proofs.Common.{refl, sym, ap, subst, ◌∙◌, arith}
use Rattle.s3_machine.specs.declared.code.Code.{Code}
use Rattle.s3_machine.specs.declared.only_if.OnlyIf.{OnlyIf}
use Rattle.s3_machine.specs.declared.only_if.OnlyIf.TheVariants.{Always, Missing, Present, Holds}
use Rattle.s3_machine.specs.declared.operation.ObjectHead.{ObjectHead}
use Rattle.s3_machine.specs.OnlyIf.{is_always, refusal}
use Rattle.s3_machine.specs.State.{Object, State}
use Rattle.s3_machine.specs.Step.{etag_of_object, head_of}
use Rattle.s3_machine.proofs.lemmas.StepLemmas.{refusal_is}
use Rattle.swift_calls.specs.Account.{SwiftAccount}
use Rattle.swift_calls.specs.History.{History}
use Rattle.upload_records.specs.Native.{IsSettled, object_at, s3_state}
use Rattle.upload_records.specs.Consistent.{IsConsistent}
use Rattle.account_calls.specs.Answers.{condition_calls}
use Rattle.account_calls.specs.Calls.{always, Asks, Keeps, Tells, TellsObject}
use Rattle.account_calls.specs.Condition.{IsOfCondition, RefusesByCondition, TellsRefusal, etag_of_head}
use Rattle.account_calls.specs.declared.fault.PlanFault.{PlanFault}
use Rattle.account_calls.specs.declared.fault.PlanFault.TheVariants as fault
use Rattle.account_calls.specs.Fault.{CausesFault}
use Rattle.account_calls.proofs.lemmas.Faults.{err_is}
use Rattle.account_calls.proofs.lemmas.Idle.{grows_none, none_made}

-- where nothing is asked, nothing refuses
pub none_asked : (only_if : OnlyIf) (etag : Option (List ℕ)) → is_always only_if ≡ true → refusal only_if etag ≡ None
none_asked Always etag is = refl
none_asked Missing etag is = cc
none_asked Present etag is = cc
none_asked (Holds asked) etag is = cc

-- the ETag of an object is that of its head
etag_by_head : (o : Option Object) (told : Option ObjectHead) → option_map head_of o ≡ told → option_map etag_of_object o ≡ option_map etag_of_head told
etag_by_head None told is = ap (option_map etag_of_head) is
etag_by_head (Some o) told is = ap (option_map etag_of_head) is

tells_refusal : (bucket key : List ℕ) (only_if : OnlyIf) (state : State) (told : Option ObjectHead) → TellsObject bucket key state told → TellsRefusal bucket key only_if state (refusal only_if (option_map etag_of_head told))
tells_refusal bucket key only_if state told tells = ap (refusal only_if) (etag_by_head (object_at (get state bucket) key) told tells)

module _ (bucket key : List ℕ) (only_if : OnlyIf) {a b : History} where
  -- by the head of the object
  pub asks_refusal : {head : Option ObjectHead} (result : Option Code) → Asks (always 1) a b IsSettled (Tells (TellsObject bucket key)) (Ok head) → result ≡ refusal only_if (option_map etag_of_head head)
      → Asks (always 1) a b IsSettled (Tells (TellsRefusal bucket key only_if)) (Ok result)
  asks_refusal {head = head} result asks is = record {
    grows = asks.grows;
    cause = asks.cause;
    effect = λ met.
        let keeps = asks.effect met in
        (keeps.0, keeps.1, record { of_state = tells_refusal bucket key only_if _ head keeps.2.of_state ∙ sym is; same = keeps.2.same });
    settled = asks.settled;
  }

  -- the fault of the call is handed on
  pub asks_no_refusal : {f : PlanFault} → Asks (always 1) a b IsSettled (Tells (TellsObject bucket key)) (Err f) → (result : Result (Option Code) PlanFault) → IsErrAnd result (λ e. e ≡ f)
      → Asks (always 1) a b IsSettled (Tells (TellsRefusal bucket key only_if)) result
  asks_no_refusal {f = f} asks result is = subst (Asks (always 1) a b IsSettled (Tells (TellsRefusal bucket key only_if))) (sym (err_is result f is)) (record {
    grows = asks.grows;
    cause = same_cause f asks.cause;
    effect = λ met. same_keeps f (asks.effect met);
    settled = asks.settled;
  })
    where
      same_cause : (f : PlanFault) → CausesFault {T = Option ObjectHead} a.faults b.faults (Err f) → CausesFault {T = Option Code} a.faults b.faults (Err f)
      same_cause fault.Failed cause = cause
      same_cause fault.Memory cause = cause
      same_cause fault.Inconsistent cause = cause

      same_keeps : (f : PlanFault) → Keeps b a.called b.called (Tells (TellsObject bucket key)) (Err f) → Keeps b a.called b.called (Tells (TellsRefusal bucket key only_if)) (Err f)
      same_keeps fault.Failed keeps = keeps
      same_keeps fault.Memory keeps = keeps
      same_keeps fault.Inconsistent never = never

  -- where it is asked, that is the one call
  pub asks_by_call : {result : Result (Option Code) PlanFault} → is_always only_if ≡ false → Asks (always 1) a b IsSettled (Tells (TellsRefusal bucket key only_if)) result
      → Asks (always (condition_calls only_if)) a b IsSettled (Tells (TellsRefusal bucket key only_if)) result
  asks_by_call {result = result} some asks = subst (λ n. Asks (always n) a b IsSettled (Tells (TellsRefusal bucket key only_if)) result) (sym (ap (λ b. cond b 0 1) some)) asks

-- and else none is made
pub asks_without : (h : History) (bucket key : List ℕ) (only_if : OnlyIf) → is_always only_if ≡ true → Asks (always (condition_calls only_if)) h h IsSettled (Tells (TellsRefusal bucket key only_if)) (Ok None)
asks_without h bucket key only_if none = record {
  grows = grows_none (always (condition_calls only_if)) IsSettled h;
  cause = refl;
  effect = λ met. (none_made refl met.sound, refl, record { of_state = none_asked only_if _ none; same = refl });
  settled = λ observable settled. settled;
}

-- its codes
pub codes_by : (only_if : OnlyIf) (etag : Option (List ℕ)) (result : Option Code) → result ≡ refusal only_if etag → IfSome result IsOfCondition
codes_by only_if etag None is = tt
codes_by only_if etag (Some code) is = refusal_is only_if etag code (sym is)
