-- What follows from the connections of a run, one after another: their numbers, counts of faults and spans, for whatever is
-- said of their replies; what is said of them said otherwise; and over an observable store, what the account goes through.
use Rattle.std.specs.Prelude.{◌≡◌, ◌≤◌, ℕ, ◌+◌, ◌-◌, Bool, true, false, List, [], ◌∷◌, ◌++◌, length, replicate, slice_set, if◌then◌else◌}
use Rattle.std.proofs.Common.{refl, sym, ap, ◌∙◌, arith}
use Rattle.std.proofs.lemmas.List.{length-set, length-append, same_from_push, set_at, replicate_more, append_assoc}
use Rattle.gate_base.specs.Causes.{Rose}
use Rattle.swift_calls.specs.History.{History, Extends}
use Rattle.upload_records.specs.Consistent.{IsConsistent}
use Rattle.gateway.specs.declared.service.Service.{Service}
use Rattle.gateway.specs.Exchange.{ReplyRelation, StoreCursor, Span, Replies, RepliesBy, CountedReplies, FaultFreeReplies}
use Rattle.gateway.specs.Connection.{is_failed_end}
use Rattle.gateway.specs.Stands.{Follows, AllPass, StandsThroughout}
use Rattle.gateway.proofs.lemmas.Counted.{replies_take}
use Rattle.gateway.proofs.lemmas.Ending.{no_store_end}
use Rattle.gateway.proofs.lemmas.Order.{follows_none, follows_append, connection_trace_order, connection_trace_order_faults, connection_trace_follow}
use Rattle.gateway.proofs.lemmas.Map.{Between, between_ends, FollowsBetween, connection_trace_map, by_agree, fault_free_map}
use Rattle.gateway.proofs.lemmas.Passing.{all_pass_none, all_pass_append, connection_trace_pass}
use Rattle.gateway.proofs.lemmas.Standing.{stands_throughout}
use Rattle.gateway_cmd.specs.Laws.{Unbroken, none_served, one_more}
use Rattle.gateway_cmd.specs.Run.{RunCursor, ServesNext, RunTrace, none, more}

-- ---- whatever is said of replies

-- one more connection, faulty or not
faulty_more : (failed : Bool) (faulty : List Bool) (i : ℕ) → length (if failed then slice_set (faulty ++ false ∷ []) i true else faulty ++ false ∷ []) ≡ length faulty + 1
faulty_more true faulty i = length-set (faulty ++ false ∷ []) i true ∙ length-append faulty (false ∷ [])
faulty_more false faulty i = length-append faulty (false ∷ [])

-- one more connection was not faulty, where of all that began none was
last_good : (failed : Bool) (faulty before : List Bool) (n i : ℕ) → length faulty ≡ i → (if failed then slice_set (faulty ++ false ∷ []) i true else faulty ++ false ∷ []) ≡ before ++ replicate (n + 1) false
    → (failed ≡ false) × (faulty ≡ before ++ replicate n false)
last_good true faulty before n i placed same =
    let last : faulty ++ true ∷ [] ≡ (before ++ replicate n false) ++ false ∷ [] = sym (set_at faulty false [] true i placed) ∙ same ∙ ap (λ more. before ++ more) (sym (replicate_more n false)) ∙ sym (append_assoc before (replicate n false) (false ∷ [])) in
    let clash : true ≡ false = (same_from_push faulty (before ++ replicate n false) true false last).1 in
    cc
last_good false faulty before n i placed same =
    let last : faulty ++ false ∷ [] ≡ (before ++ replicate n false) ++ false ∷ [] = same ∙ ap (λ more. before ++ more) (sym (replicate_more n false)) ∙ sym (append_assoc before (replicate n false) (false ∷ [])) in
    (refl, (same_from_push faulty (before ++ replicate n false) false false last).0)

module _ {service : Service} {R : ReplyRelation} where
  -- the numbers rise
  pub run_trace_order : {old new : RunCursor} {spans : List Span} → RunTrace service R old spans new → old.progress.store.number ≤ new.progress.store.number
  run_trace_order (none cursor) = omega arith
  run_trace_order (more old middle new spans next trace serves) = let first = run_trace_order trace in let last = connection_trace_order serves.trace in omega arith

  -- and so do the counts of faults
  pub run_trace_faults : {old new : RunCursor} {spans : List Span} → RunTrace service R old spans new → old.progress.store.faults ≤ new.progress.store.faults
  run_trace_faults (none cursor) = omega arith
  run_trace_faults (more old middle new spans next trace serves) = let first = run_trace_faults trace in let last = connection_trace_order_faults serves.trace in omega arith

  -- the spans of all requests follow one another
  pub run_trace_follow : {old new : RunCursor} {spans : List Span} → RunTrace service R old spans new → Follows old.progress.store.number spans new.progress.store.number
  run_trace_follow (none cursor) = follows_none refl
  run_trace_follow (more old middle new spans next trace serves) =
      follows_append old.progress.store.number middle.progress.store.number new.progress.store.number spans next (run_trace_follow trace) (connection_trace_follow serves.trace)

  -- ---- how many began, and which were faulty

  pub run_trace_begun : {old new : RunCursor} {spans : List Span} → RunTrace service R old spans new → old.begun ≤ new.begun
  run_trace_begun (none cursor) = omega arith
  run_trace_begun (more old middle new spans next trace serves) = let rises = run_trace_begun trace in let begun = serves.begun in omega arith

  -- each connection that began has its place in `faulty`
  pub run_trace_faulty : {old new : RunCursor} {spans : List Span} → RunTrace service R old spans new → length new.faulty ≡ length old.faulty + (new.begun - old.begun)
  run_trace_faulty (none cursor) = omega arith
  run_trace_faulty (more old middle new spans next trace serves) =
      let rises = run_trace_begun trace in
      let before = run_trace_faulty trace in
      let begun = serves.begun in
      let one = ap length serves.faulty ∙ faulty_more (is_failed_end serves.ended) middle.faulty (new.begun - 1) in
      omega arith

-- ---- what is said of replies, said otherwise

module _ {R R' : ReplyRelation} {first last : StoreCursor} (f : FollowsBetween R R' first last) where
  serves_next_map : {service : Service} {old new : RunCursor} {spans : List Span} → Between first last old.progress.store new.progress.store → ServesNext service R old spans new → ServesNext service R' old spans new
  serves_next_map between serves = record {
    bytes = serves.bytes;
    ended = serves.ended;
    waiting = serves.waiting;
    begun = serves.begun;
    faulty = serves.faulty;
    trace = connection_trace_map f between serves.trace;
  }

  pub run_trace_map : {service : Service} {old new : RunCursor} {spans : List Span} → Between first last old.progress.store new.progress.store → RunTrace service R old spans new → RunTrace service R' old spans new
  run_trace_map between (none cursor) = none cursor
  run_trace_map between (more old middle new spans next trace serves) =
      let rises = run_trace_order trace in
      let rises_faults = run_trace_faults trace in
      let rises_then = connection_trace_order serves.trace in
      let rises_faults_then = connection_trace_order_faults serves.trace in
      more old middle new spans next
      (run_trace_map (record { since = between.since; until = omega arith; since_faults = between.since_faults; until_faults = omega arith }) trace)
      (serves_next_map (record { since = omega arith; until = between.until; since_faults = omega arith; until_faults = between.until_faults }) serves)

-- what the connections were in a history, they are in each later one
pub run_trace_agree : (all : Bool) (service : Service) {h h' : History} {old new : RunCursor} {spans : List Span} → Extends new.progress.store.number h h'
    → RunTrace service (RepliesBy all service.settings h) old spans new → RunTrace service (RepliesBy all service.settings h') old spans new
run_trace_agree all service {old = old} {new = new} kept trace =
    run_trace_map (by_agree all service.settings {first = old.progress.store} {last = new.progress.store} kept) (between_ends old.progress.store new.progress.store) trace

-- where the count of faults did not rise, no request of theirs is answered ServiceUnavailable
pub run_trace_fault_free : (all : Bool) (service : Service) (h : History) {old new : RunCursor} {spans : List Span} → (Rose old.progress.store.faults new.progress.store.faults → ⊥)
    → RunTrace service (RepliesBy all service.settings h) old spans new → RunTrace service (FaultFreeReplies (RepliesBy all service.settings h)) old spans new
run_trace_fault_free all service h {old = old} {new = new} still trace =
    run_trace_map (fault_free_map all service.settings h old.progress.store new.progress.store still) (between_ends old.progress.store new.progress.store) trace

-- an operation of theirs that the service itself answered took all its steps
pub run_trace_counted : (service : Service) (h : History) {old new : RunCursor} {spans : List Span} → RunTrace service (Replies service.settings h) old spans new
    → RunTrace service (CountedReplies (Replies service.settings h)) old spans new
run_trace_counted service h {old = old} {new = new} trace =
    run_trace_map (λ old new span request label reply is_span between replies. record { replies = replies; counted = λ op asks known steady. replies_take op asks known steady replies })
    (between_ends old.progress.store new.progress.store) trace

-- ---- over an observable store

module _ {service : Service} {h : History} where
  -- where none was faulty and none was answered ServiceUnavailable, the line failed under none and no read broke off
  pub run_trace_unbroken : {old new : RunCursor} {spans : List Span} → RunTrace service (FaultFreeReplies (Replies service.settings h)) old spans new → length old.faulty ≡ old.begun → new.faulty ≡ old.faulty ++ replicate (new.begun - old.begun) false
      → Unbroken service (FaultFreeReplies (Replies service.settings h)) old spans new
  run_trace_unbroken (none cursor) placed same = none_served cursor
  run_trace_unbroken (more old middle new spans next trace serves) placed same =
      let rises = run_trace_begun trace in
      let before = run_trace_faulty trace in
      let begun = serves.begun in
      let one : new.begun - old.begun ≡ (middle.begun - old.begun) + 1 = omega arith in
      let good = last_good (is_failed_end serves.ended) middle.faulty old.faulty (middle.begun - old.begun) (new.begun - 1) (omega arith) (sym serves.faulty ∙ same ∙ ap (λ n. old.faulty ++ replicate n false) one) in
      one_more old middle new spans next (run_trace_unbroken trace placed good.1) serves good.0 (no_store_end serves.ended serves.trace)

  -- the account goes through the steps of all requests
  pub run_trace_pass : {old new : RunCursor} {spans : List Span} → RunTrace service (Replies service.settings h) old spans new → AllPass service.settings h spans
  run_trace_pass (none cursor) = all_pass_none service.settings h
  run_trace_pass (more old middle new spans next trace serves) = all_pass_append service.settings h spans next (run_trace_pass trace) (connection_trace_pass serves.trace)

  -- at each number it is consistent, and one that the request which has the number goes through
  pub run_trace_stands : {old new : RunCursor} {spans : List Span} → IsConsistent (h.account_at old.progress.store.number) → RunTrace service (Replies service.settings h) old spans new
      → StandsThroughout service.settings h spans old.progress.store.number new.progress.store.number
  run_trace_stands {old = old} {new = new} {spans = spans} sound trace =
      stands_throughout service.settings h spans old.progress.store.number new.progress.store.number sound (run_trace_follow trace) (run_trace_pass trace)
