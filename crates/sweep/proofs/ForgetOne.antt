-- One call that forgets completions, from what the store told when it ended.
use Rattle.std.specs.Prelude.{◌≡◌, ◌≢◌, ◌≤◌, ◌<◌, ◌+◌, ℕ, nat_lt, cond, length, take, Result, Ok, Err}
use Rattle.std.specs.Result.{IsErrAnd}
use Rattle.std.proofs.Common.{sym, ap, subst, ◌∙◌, inl, inr, arith}
use Rattle.std.proofs.Math.Seq.{take-length}
use Rattle.std.proofs.lemmas.Bool.{cases_lt}
use Rattle.swift_calls.specs.Account.{SwiftAccount}
use Rattle.swift_calls.specs.Step.{swift_step}
use Rattle.swift_calls.specs.History.{History, Either, Called, Replied, Calls, present}
use Rattle.swift_calls.specs.declared.calls.SwiftRequest.{SwiftRequest}
use Rattle.swift_calls.specs.declared.calls.SwiftReply.{SwiftReply}
use Rattle.swift_calls.specs.declared.calls.SwiftFault.{SwiftFault}
use Rattle.swift_calls.specs.declared.calls.SwiftFault.TheVariants.{Failed, Memory}
use Rattle.upload_records.specs.Native.{s3_state}
use Rattle.upload_records.specs.Consistent.{IsConsistent}
use Rattle.account_calls.specs.declared.fault.PlanFault.{PlanFault}
use Rattle.account_calls.specs.declared.fault.PlanFault.TheVariants as fault
use Rattle.account_calls.specs.Calls.{Met}
use Rattle.account_calls.specs.Fault.{plan_fault}
use Rattle.account_calls.specs.Interpret.{Gives}
use Rattle.account_calls.proofs.lemmas.Causes.{due_cause}
use Rattle.account_calls.proofs.lemmas.Faults.{err_is}
use Rattle.account_calls.proofs.lemmas.Idle.{stays, none_made}
use Rattle.account_calls.proofs.lemmas.One.{LeavesSettled, found, fault_cause, goes_one, lost_last, spent_last, stays_settled}
use Rattle.sweep.specs.Aging.{Forgetting, ForgetsFirst, ForgetsOf}
use Rattle.sweep.specs.Forgetting.{without_kept}
use Rattle.sweep.proofs.ForgetCalls.{Pairs, first_quiet, lt_is, not_lt, without_none}

-- the answer to the request on this account comes to what is told; the account after it is consistent, and represents the state without
-- these completions; and P holds of both accounts
pub record ForgetEffect {T : Type 0} (tree : SwiftAccount) (request : SwiftRequest) (due : SwiftReply → Result T PlanFault) (olds : Pairs) (P : SwiftAccount → SwiftAccount → T → Type 0) : Type 0 where
  pub told : T
  pub says : due (swift_step request tree).reply ≡ Ok told
  pub sound : IsConsistent (swift_step request tree).tree
  pub state : s3_state (swift_step request tree).tree ≡ without_kept olds (s3_state tree)
  pub tells : P tree (swift_step request tree).tree told

pub record IsForgetOf {T : Type 0} (given : SwiftAccount → Type 0) (request : SwiftRequest) (due : SwiftReply → Result T PlanFault) (olds : SwiftAccount → Pairs) (P : SwiftAccount → SwiftAccount → T → Type 0) : Type 0 where
  pub effect : (tree : SwiftAccount) → IsConsistent tree → given tree → ForgetEffect tree request due (olds tree) P
  pub settled : LeavesSettled request

one_forgets : (olds : Pairs) {h : History} {p q : ℕ} → q ≡ p + 1 → IsConsistent (h.account_at p) → IsConsistent (h.account_at q) → s3_state (h.account_at q) ≡ without_kept olds (s3_state (h.account_at p)) → ForgetsFirst olds h p q
one_forgets olds {h = h} {p = p} {q = q} next before after forgot = record {
  ordered = omega (arith, next);
  gone = count;
  most = few;
  rises = up;
  is = here;
  sound = λ k from to. elim (cases_lt k q) as (λ _. IsConsistent (h.account_at k)) [
    | inl near ↦ let e : p ≡ k = omega (arith, next, near, from) in subst (λ j. IsConsistent (h.account_at j)) e before
    | inr far ↦ let e : q ≡ k = omega (arith, far, to) in subst (λ j. IsConsistent (h.account_at j)) e after
  ];
}
  where
    count : ℕ → ℕ
    count k = cond (nat_lt k q) 0 (length olds)

    below : (k : ℕ) → k < q → count k ≡ 0
    below k near = ap (λ t. cond t 0 (length olds)) (lt_is k q near)

    above : (k : ℕ) → q ≤ k → count k ≡ length olds
    above k far = ap (λ t. cond t 0 (length olds)) (not_lt k q far)

    few : (k : ℕ) → p ≤ k → k ≤ q → count k ≤ length olds
    few k from to = elim (cases_lt k q) as (λ _. count k ≤ length olds) [
      | inl near ↦ let e = below k near in omega (arith, e)
      | inr far ↦ let e = above k far in omega (arith, e)
    ]

    up : (j k : ℕ) → p ≤ j → j ≤ k → k ≤ q → count j ≤ count k
    up j k from on to = elim (cases_lt j q) as (λ _. count j ≤ count k) [
      | inl near ↦ let e = below j near in omega (arith, e)
      | inr far ↦ let e = above j far in let f = above k (omega (arith, far, on)) in omega (arith, e, f)
    ]

    here : (k : ℕ) → p ≤ k → k ≤ q → s3_state (h.account_at k) ≡ without_kept (take (count k) olds) (s3_state (h.account_at p))
    here k from to = elim (cases_lt k q) as (λ _. s3_state (h.account_at k) ≡ without_kept (take (count k) olds) (s3_state (h.account_at p))) [
      | inl near ↦
          let e : k ≡ p = omega (arith, next, near, from) in
          ap (λ j. s3_state (h.account_at j)) e ∙ sym (ap (λ n. without_kept (take n olds) (s3_state (h.account_at p))) (below k near) ∙ without_none olds (s3_state (h.account_at p)))
      | inr far ↦
          let e : k ≡ q = omega (arith, far, to) in
          ap (λ j. s3_state (h.account_at j)) e ∙ forgot
          ∙ sym (ap (λ n. without_kept (take n olds) (s3_state (h.account_at p))) (above k far) ∙ ap (λ l. without_kept l (s3_state (h.account_at p))) (take-length olds))
    ]

module _ {T : Type 0} {request : SwiftRequest} {due : SwiftReply → Result T PlanFault} {olds : Pairs} {P : SwiftAccount → SwiftAccount → T → Type 0} (h : History) (p q : ℕ) (sound : IsConsistent (h.account_at p))
    (effect : ForgetEffect (h.account_at p) request due olds P) where
  state_done : h.account_at q ≡ (swift_step request (h.account_at p)).tree → s3_state (h.account_at q) ≡ without_kept olds (s3_state (h.account_at p))
  state_done done = ap s3_state done ∙ effect.state

  first_done : q ≡ p + 1 → h.account_at q ≡ (swift_step request (h.account_at p)).tree → ForgetsFirst olds h p q
  first_done next done = one_forgets olds next sound (subst IsConsistent (sym done) effect.sound) (state_done done)

  first_either : q ≡ p + 1 → Either h p q request → ForgetsFirst olds h p q
  first_either next (inl same) = first_quiet olds (stays (omega (arith, next)) (omega (arith, next)) same sound)
  first_either next (inr done) = first_done next done

  in_vain : (fault : SwiftFault) → Called h p q request (Err fault) → ForgetsOf olds h p q P (Err (plan_fault fault))
  in_vain Failed (inl c) = (first_either c.next c.either, lost_last c)
  in_vain Failed (inr (spent, same)) = (first_quiet olds (none_made same sound), spent_last spent same)
  in_vain Memory (inl c) = (first_either c.next c.either, c.quiet)
  in_vain Memory (inr same) = (first_quiet olds (none_made same sound), ap h.faults_at same)

  told_by : (reply : SwiftReply) (result : Result T PlanFault) → Replied h p q request reply → Gives result (due reply) → ForgetsOf olds h p q P result
  told_by reply result c (inl out_of_memory) = subst (ForgetsOf olds h p q P) (sym out_of_memory) (first_done c.next c.tree, c.quiet)
  told_by reply result c (inr is) =
      subst (ForgetsOf olds h p q P) (sym (is ∙ ap due c.reply ∙ effect.says))
      (first_done c.next c.tree, state_done c.tree, c.quiet, subst (λ (tree : SwiftAccount). P (h.account_at p) tree effect.told) (sym c.tree) effect.tells)

module _ {T : Type 0} {given : SwiftAccount → Type 0} {request : SwiftRequest} {due : SwiftReply → Result T PlanFault} {olds : SwiftAccount → Pairs} {P : SwiftAccount → SwiftAccount → T → Type 0} (forget : IsForgetOf given request due olds P)
    {old new : History} where
  -- what is given of the account that the call found
  effect_here : {result : Result SwiftReply SwiftFault} → Calls old new request result → Met given old → ForgetEffect (new.account_at old.called) request due (olds (present old)) P
  effect_here calls met = subst (λ (tree : SwiftAccount). ForgetEffect tree request due (olds (present old)) P) (sym (found calls met.observable)) (forget.effect _ met.sound met.has)

  -- it was not answered
  pub forget_in_vain : {fault : SwiftFault} → Calls old new request (Err fault) → (result : Result T PlanFault) → IsErrAnd result (λ e. e ≡ plan_fault fault) → Forgetting old new given olds P result
  forget_in_vain {fault = fault} calls result is = subst (Forgetting old new given olds P) (sym (err_is result (plan_fault fault) is)) (record {
    on = goes_one calls;
    cause = fault_cause T old.faults new.faults fault calls.faults;
    effect = λ met. in_vain new old.called new.called (subst IsConsistent (sym (found calls met.observable)) met.sound) (effect_here calls met) fault (calls.effect met.observable);
    settled = stays_settled forget.settled calls;
  })

  -- it was answered
  pub forgot : {reply : SwiftReply} → Calls old new request (Ok reply) → (result : Result T PlanFault) → Gives result (due reply) → result ≢ Err fault.Failed → Forgetting old new given olds P result
  forgot {reply = reply} calls result gives own = record {
    on = goes_one calls;
    cause = due_cause old.faults new.faults result calls.faults own;
    effect = λ met. told_by new old.called new.called (subst IsConsistent (sym (found calls met.observable)) met.sound) (effect_here calls met) reply result (calls.effect met.observable) gives;
    settled = stays_settled forget.settled calls;
  }
