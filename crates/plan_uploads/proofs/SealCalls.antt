-- What PUT of the text of a completion does to an account on which none is sealed: in its state the completion is finished.
use Rattle.std.specs.Prelude.{◌≡◌, ◌≢◌, ◌≤◌, ◌+◌, ℕ, true, false, cond, codes, is_some, List, [], length, Option, None, Some, Result, Ok, Err, IfOk}
use Rattle.std.specs.FinMap.{get, insert}
use Rattle.std.specs.Option.{option_map}
use Rattle.std.specs.Result.{IsErrAnd}
use Rattle.std.proofs.Common.{refl, sym, ap, subst, ◌∙◌, inl, inr, arith}
use Rattle.gate_base.proofs.lemmas.Maps.{at_adjust, by_name, some_value}
use Rattle.s3_machine.specs.ETag.{body_etag}
use Rattle.s3_machine.specs.State.{State}
use Rattle.swift_calls.specs.Account.{SwiftAccount, SwiftContainer, SwiftObject, on_files}
use Rattle.swift_calls.specs.History.{History, Called, Calls, Either, Lost, present}
use Rattle.swift_calls.specs.Limits.{IsObjectName}
use Rattle.swift_calls.specs.Step.{Answer, Fit, IsContainerName, put_object, swift_step}
use Rattle.swift_calls.specs.declared.calls.SwiftFault.{SwiftFault}
use Rattle.swift_calls.specs.declared.calls.SwiftFault.TheVariants as swift
use Rattle.swift_calls.specs.declared.calls.SwiftReply.{SwiftReply}
use Rattle.swift_calls.specs.declared.calls.SwiftRequest.{SwiftRequest}
use Rattle.upload_texts.specs.Sealed.{read_sealed}
use Rattle.upload_texts.specs.declared.sealed.Sealed.{Sealed}
use Rattle.upload_records.specs.Layout.{gateway_name, sealed_name}
use Rattle.upload_records.specs.Native.{seal_by, seal_of, s3_state}
use Rattle.upload_records.specs.Consistent.{IsConsistent, IsStored}
use Rattle.upload_records.specs.Laws.{CompletionSealed, SealsCompletion, file_put}
use Rattle.upload_records.proofs.lemmas.Settled.{unsealed_of}
use Rattle.account_calls.specs.Calls.{always, Becomes, Commits, GivenOf, Met, Writes}
use Rattle.account_calls.specs.Fault.{plan_fault}
use Rattle.account_calls.specs.Interpret.{stored_due}
use Rattle.account_calls.specs.Puts.{Ensures, StandsIn}
use Rattle.account_calls.specs.declared.fault.PlanFault.{PlanFault}
use Rattle.account_calls.specs.declared.fault.PlanFault.TheVariants.{Failed, Memory, Inconsistent}
use Rattle.account_calls.proofs.lemmas.Causes.{due_cause}
use Rattle.account_calls.proofs.lemmas.Etags.{etag_agrees}
use Rattle.account_calls.proofs.lemmas.Faults.{err_is}
use Rattle.account_calls.proofs.lemmas.Idle.{grows_none, none_made, stays}
use Rattle.account_calls.proofs.lemmas.Markers.{folder_is_marker, text_is_marker}
use Rattle.account_calls.proofs.lemmas.One.{Effect, fault_cause, found, grows_one, lost_last, spent_last, stays_so}
use Rattle.account_calls.proofs.lemmas.Puts.{file_stands}
use Rattle.account_calls.proofs.lemmas.SideNames.{file_name}
use Rattle.recovery.specs.Rolls.{HasGateway, IsSealed, KeepsGateway}
use Rattle.plan_uploads.specs.Completing.{MaySeal, Seals, finishes, most_sealed_text, put_sealed_text}

-- ---- the place of what is sealed

gateway_fits : IsContainerName gateway_name
unfolding gateway_name
gateway_fits =
    let text = folder_is_marker gateway_name (inr (inr refl)) in
    record { filled = omega arith; within = omega arith; text = text.utf8; no_zero = text.no_zero }

sealed_fits : IsObjectName sealed_name
unfolding sealed_name
sealed_fits =
    let text = text_is_marker (codes "sealed") refl (omega arith) in
    (omega arith, record { within = omega arith; utf8 = text.utf8; no_zero = text.no_zero })

-- the PUT of such a text is one that a store takes
pub seal_fits : (text : List ℕ) → length text ≤ most_sealed_text → Fit (put_sealed_text text)
seal_fits text short = (gateway_fits, sealed_fits, refl, refl, omega (arith, short))

-- ---- what it does to an account

-- the request, for the text of a completion
pub record IsSealOf (request : SwiftRequest) (s : Sealed) (text : List ℕ) : Type 0 where
  pub same : request ≡ put_sealed_text text
  pub reads : read_sealed text ≡ Some s
  pub short : length text ≤ most_sealed_text

-- the container stays where it is
put_there : (o : Option SwiftContainer) (file : SwiftObject) (tree : SwiftAccount) → get tree gateway_name ≡ o → is_some o ≡ true → is_some (get (put_object o gateway_name sealed_name file tree).tree gateway_name) ≡ true
put_there None file tree is there = cc
put_there (Some folder) file tree is there =
    ap is_some (at_adjust by_name gateway_name (on_files (λ fs. insert fs sealed_name file)) tree) ∙ ap (λ o. is_some (option_map (on_files (λ fs. insert fs sealed_name file)) o)) is

gateway_stays : (text : List ℕ) (tree : SwiftAccount) → HasGateway tree → HasGateway (swift_step (put_sealed_text text) tree).tree
gateway_stays text tree there = put_there (get tree gateway_name) (file_put (codes "application/json") [] text) tree refl there

module _ (law : CompletionSealed) (tree : SwiftAccount) (request : SwiftRequest) (s : Sealed) (text : List ℕ) (put : IsSealOf request s text)
    (sound : IsConsistent tree) (given : GivenOf (MaySeal s) tree) where
  stored : IsStored sealed_name (file_put (codes "application/json") [] text)
  stored = let short = put.short in record { named = file_name _ sealed_fits; sized = (omega (arith, short)) }

  done : SealsCompletion tree (put_sealed_text text) s
  done = law tree (codes "application/json") [] text false s put.reads given.settled.gateway given.is stored sound (unsealed_of given.settled)

  answered : swift_step request tree ≡ put_object (Some (some_value _ given.settled.gateway).0) gateway_name sealed_name (file_put (codes "application/json") [] text) tree
  answered =
      ap (λ r. swift_step r tree) put.same
      ∙ ap (λ o. put_object o gateway_name sealed_name (file_put (codes "application/json") [] text) tree) (some_value _ given.settled.gateway).1

  same_tree : (swift_step request tree).tree ≡ (swift_step (put_sealed_text text) tree).tree
  same_tree = ap (λ r. (swift_step r tree).tree) put.same

  -- the completion is finished in the state, and the store says that it has the text
  seal_effect : Effect tree request (stored_due (body_etag text)) (Becomes (finishes s tree))
  seal_effect = record {
    answer = tt;
    says = ap (λ (a : Answer). stored_due (body_etag text) a.reply) answered ∙ ap (λ t. cond t (Ok tt) (Err Inconsistent)) (etag_agrees text);
    after = subst IsConsistent (sym same_tree) done.sound;
    state = ap s3_state same_tree ∙ done.state;
  }

  -- and it is sealed
  seal_leaves : IsSealed s (swift_step request tree).tree
  seal_leaves = record { gateway = subst HasGateway (sym same_tree) (gateway_stays text tree given.settled.gateway); is = ap seal_of same_tree ∙ done.seals }

-- ---- what the call amounts to

module _ (h : History) (p q : ℕ) (request : SwiftRequest) (due : SwiftReply → Result (Unit {0}) PlanFault) (f : State → State)
    (sound : IsConsistent (h.account_at p)) (effect : Effect (h.account_at p) request due (Becomes f)) where
  commits : q ≡ p + 1 → h.account_at q ≡ (swift_step request (h.account_at p)).tree → Commits h p q (Becomes f tt)
  commits next done = record {
    last = p;
    quiet = none_made refl sound;
    no_fault = refl;
    next = next;
    sound = subst IsConsistent (sym done) effect.after;
    made = ap s3_state done ∙ effect.state;
  }

  lost : (c : Lost h p q request) → Either h p q request → Writes h p q (Becomes f) (Err Failed)
  lost c (inl same) = let next = c.next in inl (stays (omega arith) (omega arith) same sound, lost_last c)
  lost c (inr done) = inr ((tt, commits c.next done), c.rose)

  unread : q ≡ p + 1 → h.faults_at q ≡ h.faults_at p → Either h p q request → Writes h p q (Becomes f) (Err Memory)
  unread next quiet (inl same) = (inl (stays (omega arith) (omega arith) same sound), quiet)
  unread next quiet (inr done) = (inr (tt, commits next done), quiet)

  unwritten : (fault : SwiftFault) → Called h p q request (Err fault) → Writes h p q (Becomes f) (Err (plan_fault fault))
  unwritten swift.Failed (inl c) = lost c c.either
  unwritten swift.Failed (inr (spent, same)) = inl (none_made same sound, spent_last spent same)
  unwritten swift.Memory (inl c) = unread c.next c.quiet c.either
  unwritten swift.Memory (inr same) = (inl (none_made same sound), ap h.faults_at same)

-- memory ran out before it
pub not_sealed : (h : History) (s : Sealed) (result : Result (Unit {0}) PlanFault) → IsErrAnd result (λ e. e ≡ Memory) → Seals h h s result
not_sealed h s result is = subst (Seals h h s) (sym (err_is result Memory is)) (record {
  grows = grows_none (always 1) (GivenOf (MaySeal s)) h;
  cause = refl;
  effect = λ met. (inl (none_made refl met.sound), refl);
  leaves = λ met. tt;
  gateway = λ observable has. has;
})

module _ {old new : History} {request : SwiftRequest} {s : Sealed} {text : List ℕ} (law : CompletionSealed) (put : IsSealOf request s text) where
  keeps : (result : Result SwiftReply SwiftFault) → Calls old new request result → KeepsGateway old new
  keeps result calls = stays_so {P = HasGateway} (gateway_stays text) (subst (λ r. Calls old new r result) put.same calls)

  module _ {result : Result SwiftReply SwiftFault} (calls : Calls old new request result) (met : Met (GivenOf (MaySeal s)) old) where
    -- the account that the call found
    sound_found : IsConsistent (new.account_at old.called)
    sound_found = subst IsConsistent (sym (found calls met.observable)) met.sound

    effect_found : Effect (new.account_at old.called) request (stored_due (body_etag text)) (Becomes (finishes s (present old)))
    effect_found =
        subst (λ tree. Effect tree request (stored_due (body_etag text)) (Becomes (finishes s (present old)))) (sym (found calls met.observable))
        (seal_effect law (present old) request s text put met.sound met.has)

    leaves_found : IsSealed s (swift_step request (new.account_at old.called)).tree
    leaves_found = subst (λ tree. IsSealed s (swift_step request tree).tree) (sym (found calls met.observable)) (seal_leaves law (present old) request s text put met.sound met.has)

  -- it was not answered
  pub sealed_in_vain : {fault : SwiftFault} → Calls old new request (Err fault) → (result : Result (Unit {0}) PlanFault) → IsErrAnd result (λ e. e ≡ plan_fault fault) → Seals old new s result
  sealed_in_vain {fault = fault} calls result is = subst (Seals old new s) (sym (err_is result (plan_fault fault) is)) (record {
    grows = grows_one (GivenOf (MaySeal s)) calls;
    cause = fault_cause (Unit {0}) old.faults new.faults fault calls.faults;
    effect = λ met.
        unwritten new old.called new.called request (stored_due (body_etag text)) (finishes s (present old)) (sound_found calls met) (effect_found calls met) fault (calls.effect met.observable);
    leaves = λ met. tt;
    gateway = keeps (Err fault) calls;
  })

  -- it was answered
  pub seals_by : {reply : SwiftReply} → Calls old new request (Ok reply) → (result : Result (Unit {0}) PlanFault) → result ≡ stored_due (body_etag text) reply → result ≢ Err Failed → Seals old new s result
  seals_by {reply = reply} calls result is own = record {
    grows = grows_one (GivenOf (MaySeal s)) calls;
    cause = due_cause old.faults new.faults result calls.faults own;
    effect = λ met.
        let replied = calls.effect met.observable in
        let effect = effect_found calls met in
        subst (Writes new old.called new.called (Becomes (finishes s (present old)))) (sym (is ∙ ap (stored_due (body_etag text)) replied.reply ∙ effect.says))
        (commits new old.called new.called request (stored_due (body_etag text)) (finishes s (present old)) (sound_found calls met) effect replied.next replied.tree, replied.quiet);
    leaves = λ met. left_if result (let replied = calls.effect met.observable in subst (IsSealed s) (sym replied.tree) (leaves_found calls met));
    gateway = keeps (Ok reply) calls;
  }
    where
      left_if : (result : Result (Unit {0}) PlanFault) → IsSealed s (present new) → IfOk result (λ done. IsSealed s (present new))
      left_if (Ok told) sealed = sealed
      left_if (Err fault) sealed = tt

-- ---- over every observable store

seal_reads : (tree : SwiftAccount) (s : Sealed) (text : List ℕ) → read_sealed text ≡ Some s → StandsIn tree (put_sealed_text text) → seal_of tree ≡ Some s
unfolding seal_of
seal_reads tree s text reads stands = ap seal_by stands ∙ reads

-- what is sealed is this completion, where the PUT of its text was answered so
pub seal_stands : {a b : History} {request : SwiftRequest} {reply : SwiftReply} {s : Sealed} {text : List ℕ} (etag : List ℕ) → request ≡ put_sealed_text text → read_sealed text ≡ Some s → Calls a b request (Ok reply)
    → (result : Result (Unit {0}) PlanFault) → result ≡ stored_due etag reply → Ensures b (λ tree. seal_of tree ≡ Some s) result
seal_stands {b = b} {s = s} {text = text} etag same reads calls (Ok told) is = record { so = λ observable. seal_reads (present b) s text reads (subst (StandsIn (present b)) same (file_stands etag calls (sym is) observable)) }
seal_stands etag same reads calls (Err fault) is = record { so = λ observable. tt }
