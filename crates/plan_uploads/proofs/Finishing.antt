-- The call that seals a completion, and those behind it that finish it.
use Rattle.std.specs.Prelude.{◌≡◌, ◌⊎◌, ◌+◌, ℕ, IsTrue, List, Some, Result, Ok, Err, IfOk}
use Rattle.std.proofs.Common.{refl, sym, ap, subst, ◌∙◌, inl, inr, arith}
use Rattle.gate_base.specs.Causes.{Rose}
use Rattle.s3_machine.specs.State.{State}
use Rattle.s3_machine.specs.Step.{S3Step}
use Rattle.s3_machine.specs.declared.operation.Label.{Label}
use Rattle.s3_machine.specs.declared.operation.Listed.{Listed}
use Rattle.s3_machine.specs.declared.operation.Op.{Op}
use Rattle.s3_machine.specs.declared.only_if.OnlyIf.TheVariants.{Always}
use Rattle.s3_machine.specs.Ops.{CompleteUpload}
use Rattle.s3_machine.specs.declared.operation.Reply.{Reply}
use Rattle.s3_machine.specs.Replies.{Completed}
use Rattle.s3_machine.specs.declared.operation.Settings.{Settings}
use Rattle.swift_calls.specs.Account.{SwiftAccount, files}
use Rattle.swift_calls.specs.History.{History, present}
use Rattle.upload_texts.specs.declared.sealed.Sealed.{Sealed}
use Rattle.upload_records.specs.Layout.{gateway_name}
use Rattle.upload_records.specs.Native.{IsSettled, s3_state, seal_of, sealed_sub_manifests}
use Rattle.upload_records.proofs.lemmas.Settled.{seal_holds}
use Rattle.account_calls.specs.Answers.{ends_by_commit, machine, memory, steps_of, unavailable}
use Rattle.account_calls.specs.Calls.{always, Asks, Becomes, Commits, CommitsUntold, GivenOf, Keeps, Met, Writes}
use Rattle.account_calls.specs.Fault.{CausesFault}
use Rattle.account_calls.specs.Plan.{CausesEnd, EndsPlan, IsOwnReply, Plans, reply_of}
use Rattle.account_calls.specs.Known.{IsKnown}
use Rattle.account_calls.specs.Puts.{Ensures, EnsuresIfDone}
use Rattle.account_calls.specs.Stutters.{LastFailed, Stutters}
use Rattle.account_calls.specs.declared.fault.PlanFault.{PlanFault}
use Rattle.account_calls.specs.declared.fault.PlanFault.TheVariants.{Failed, Memory, Inconsistent}
use Rattle.account_calls.specs.declared.state.Known.TheVariants.{Settled, Unsure}
use Rattle.account_calls.proofs.lemmas.Agree.{last_within, passes_once, passes_rest, passes_still}
use Rattle.account_calls.proofs.lemmas.Ends.{met_within}
use Rattle.account_calls.proofs.lemmas.Idle.{goes_trans}
use Rattle.account_calls.proofs.lemmas.Puts.{done_so}
use Rattle.recovery.specs.Rolls.{HoldsOrFinished, IsFinished, IsSealed, Leaves, LeavesClear}
use Rattle.plan_uploads.specs.Completing.{CompletesBy, EndsQuietly, MaySeal, Seals, StandsAs, end_complete_upload_sealed, finishes, known_after_completion}
use Rattle.plan_uploads.specs.declared.complete.Completing.{Completing}
use Rattle.plan_uploads.proofs.Behind.{commits_agree}

abbrev completes : Sealed → Reply
completes s = Completed s.bucket s.key s.etag

abbrev asked : Sealed → List ℕ → List Listed → Op
asked s text list = CompleteUpload s.bucket s.key text list Always

completed_is_own : (s : Sealed) → IsOwnReply (completes s)
completed_is_own s = record { showable = tt; no_memory = λ e. cc; no_failure = λ e. cc; no_inconsistency = λ e. cc }

met_sealing : {settings : Settings} {text : List ℕ} {list : List Listed} {label : Label} {s : Sealed} {h : History} → Met (GivenOf (CompletesBy settings text list label s)) h → Met (GivenOf (MaySeal s)) h
met_sealing met = met_within (λ tree completes. completes.stands) met

-- ---- it was not answered

module _ (settings : Settings) (h : History) (p q : ℕ) (s : Sealed) (text : List ℕ) (list : List Listed) (label : Label) (f : State → State) where
  -- the state stayed
  old_failed : Stutters h p q → LastFailed h p q → EndsPlan settings h p q (asked s text list) label (Err Failed)
  old_failed quiet failed = let within = last_within failed in record {
    committed = p;
    takes = 0;
    answers = record { passes = passes_still quiet; by = unavailable refl failed (λ k from to. quiet.same k from (omega arith)) };
    consistent = λ e. cc;
  }

  old_no_memory : Stutters h p q → EndsPlan settings h p q (asked s text list) label (Err Memory)
  old_no_memory quiet = record {
    committed = p;
    takes = 0;
    answers = record { passes = passes_still quiet; by = memory refl (λ k from to. quiet.same k from (omega arith)) };
    consistent = λ e. cc;
  }

  -- or the call took its effect
  module _ (made : Commits h p q (Becomes f tt)) (step : S3Step settings (s3_state (h.account_at p)) (asked s text list) label (completes s) (s3_state (h.account_at q))) where
    last_lost : Rose (h.faults_at p) (h.faults_at q) → LastFailed h p q
    last_lost rose = record { last = made.last; after_p = made.quiet.ordered; no_fault = made.no_fault; fails = inl (made.next, subst (λ n. Rose n (h.faults_at q)) (sym made.no_fault) rose) }

    new_failed : Rose (h.faults_at p) (h.faults_at q) → EndsPlan settings h p q (asked s text list) label (Err Failed)
    unfolding last_lost
    new_failed rose = record {
      committed = q;
      takes = steps_of (asked s text list);
      answers = record { passes = passes_once made step; by = unavailable refl (last_lost rose) (λ k from to. made.quiet.same k from (omega arith)) };
      consistent = λ e. cc;
    }

    new_no_memory : EndsPlan settings h p q (asked s text list) label (Err Memory)
    new_no_memory = let next = made.next in record {
      committed = q;
      takes = steps_of (asked s text list);
      answers = record { passes = passes_once made step; by = memory refl (λ k from to. made.quiet.same k from (omega arith)) };
      consistent = λ e. cc;
    }

  module _ (step : (new : State) → new ≡ f (s3_state (h.account_at p)) → S3Step settings (s3_state (h.account_at p)) (asked s text list) label (completes s) new) where
    no_memory_by : Stutters h p q ⊎ CommitsUntold h p q (Becomes f) → EndsPlan settings h p q (asked s text list) label (Err Memory)
    no_memory_by (inl quiet) = old_no_memory quiet
    no_memory_by (inr (told, made)) = new_no_memory made (step _ made.made)

    not_sealed_by : (fault : PlanFault) → Writes h p q (Becomes f) (Err fault) → EndsPlan settings h p q (asked s text list) label (Err fault)
    not_sealed_by Failed (inl (quiet, failed)) = old_failed quiet failed
    not_sealed_by Failed (inr ((told, made), rose)) = new_failed made (step _ made.made) rose
    not_sealed_by Memory (either, same) = no_memory_by either
    not_sealed_by Inconsistent never = absurd never

module _ (settings : Settings) (s : Sealed) (text : List ℕ) (list : List Listed) (label : Label) where
  -- the step, by what is given of the account at a number
  step_at : (h : History) (p : ℕ) (tree : SwiftAccount) → h.account_at p ≡ tree → CompletesBy settings text list label s tree → (new : State) → new ≡ finishes s tree (s3_state (h.account_at p))
      → S3Step settings (s3_state (h.account_at p)) (asked s text list) label (completes s) new
  step_at h p tree from has new made =
      subst (S3Step settings (s3_state (h.account_at p)) (asked s text list) label (completes s)) (sym made)
      (subst (λ t. S3Step settings (s3_state t) (asked s text list) label (completes s) (finishes s tree (s3_state t))) (sym from) has.step)

  fault_cause : (before now : ℕ) (fault : PlanFault) → CausesFault {T = Unit {0}} before now (Err fault) → CausesEnd (ends_by_commit (asked s text list) (reply_of (Err fault))) before now (Err fault)
  fault_cause before now Failed cause = cause
  fault_cause before now Memory cause = cause
  fault_cause before now Inconsistent cause = cause

  pub seal_fails : {a b : History} (fault : PlanFault) → Seals a b s (Err fault) → Plans (always (4 + sealed_sub_manifests s)) a b settings (GivenOf (CompletesBy settings text list label s)) (asked s text list) label Unsure (Err fault)
  seal_fails {a = a} {b = b} fault seals = record {
    grows = record { on = seals.grows.on; calls = let near = seals.grows.calls in omega (arith, near) };
    cause = fault_cause a.faults b.faults fault seals.cause;
    own = tt;
    effect = λ met.
        let from : b.account_at a.called ≡ present a = (seals.grows.on.kept met.observable).accounts a.called (omega arith) in
        not_sealed_by settings b a.called b.called s text list label (finishes s (present a)) (step_at b a.called (present a) from met.has.is) fault (seals.effect (met_sealing met));
    knows = λ observable settled is. absurd (let no : Unsure ≡ Settled = is in cc);
  }

  -- ---- it was, and these calls came behind it

  module _ {a b c : History} {finished : Result (Unit {0}) PlanFault} (seals : Seals a b s (Ok tt)) (asks : Asks (always (3 + sealed_sub_manifests s)) b c (IsSealed s) (Leaves IsSettled) finished)
      (clear : LeavesClear tt b c finished) where
    met_behind : Met (GivenOf (CompletesBy settings text list label s)) a → Met (IsSealed s) b
    met_behind met = record {
      observable = seals.grows.on.observable met.observable;
      sound = (seals.effect (met_sealing met)).0.sound;
      has = seals.leaves (met_sealing met);
    }

    cause_by : (finished : Result (Unit {0}) PlanFault) → CausesFault b.faults c.faults finished
        → CausesEnd (ends_by_commit (asked s text list) (reply_of (end_complete_upload_sealed finished (completes s)).end)) a.faults c.faults (end_complete_upload_sealed finished (completes s)).end
    cause_by (Ok done) cause = λ e. cc
    cause_by (Err Failed) cause = λ e. cc
    cause_by (Err Memory) cause = λ e. cc
    cause_by (Err Inconsistent) cause = cause ∙ seals.cause

    own_by : (finished : Result (Unit {0}) PlanFault) → IfOk (end_complete_upload_sealed finished (completes s)).end IsOwnReply
    own_by (Ok done) = completed_is_own s
    own_by (Err Failed) = completed_is_own s
    own_by (Err Memory) = completed_is_own s
    own_by (Err Inconsistent) = tt

    knows_by : (finished : Result (Unit {0}) PlanFault) → (finished ≡ Ok tt → IsSettled (present c)) → IsKnown (known_after_completion (end_complete_upload_sealed finished (completes s)).unfinished) (present c)
    knows_by (Ok done) settled = λ is. settled refl
    knows_by (Err Failed) settled = λ is. absurd (let no : Unsure ≡ Settled = is in cc)
    knows_by (Err Memory) settled = λ is. absurd (let no : Unsure ≡ Settled = is in cc)
    knows_by (Err Inconsistent) settled = λ is. absurd (let no : Unsure ≡ Settled = is in cc)

    module _ (made : Commits c a.called b.called (Becomes (finishes s (present a)) tt))
        (step : S3Step settings (s3_state (c.account_at a.called)) (asked s text list) label (completes s) (s3_state (c.account_at b.called))) where
      completed_by : Stutters c b.called c.called → EndsPlan settings c a.called c.called (asked s text list) label (Ok (completes s))
      completed_by quiet = record {
        committed = b.called;
        takes = steps_of (asked s text list);
        answers = record {
          passes = passes_rest (passes_once made step) quiet;
          by = machine refl (subst (S3Step settings (s3_state (c.account_at a.called)) (asked s text list) label (completes s)) (sym (quiet.same c.called quiet.ordered (omega arith))) step);
        };
        consistent = λ e. cc;
      }

      ends_by : (finished : Result (Unit {0}) PlanFault) → Keeps c b.called c.called (Leaves IsSettled) finished → EndsPlan settings c a.called c.called (asked s text list) label (end_complete_upload_sealed finished (completes s)).end
      ends_by (Ok done) keeps = completed_by keeps.0
      ends_by (Err Failed) keeps = completed_by keeps.0
      ends_by (Err Memory) keeps = completed_by keeps.0
      ends_by (Err Inconsistent) never = absurd never

    -- they amount to the operation
    amounts : Plans (always (4 + sealed_sub_manifests s)) a c settings (GivenOf (CompletesBy settings text list label s)) (asked s text list) label
        (known_after_completion (end_complete_upload_sealed finished (completes s)).unfinished) (end_complete_upload_sealed finished (completes s)).end
    amounts = record {
      grows = record { on = goes_trans seals.grows.on asks.grows.on; calls = let near = seals.grows.calls in let far = asks.grows.calls in omega (arith, near, far) };
      cause = cause_by finished asks.cause;
      own = own_by finished;
      effect = λ met.
          let observable = seals.grows.on.observable met.observable in
          let ordered = seals.grows.on.ordered in
          let kept = asks.grows.on.kept observable in
          let from : c.account_at a.called ≡ present a = kept.accounts a.called ordered ∙ (seals.grows.on.kept met.observable).accounts a.called (omega arith) in
          let made = commits_agree (Becomes (finishes s (present a)) tt) kept (seals.effect (met_sealing met)).0 in
          ends_by made (step_at c a.called (present a) from met.has.is _ made.made) finished (asks.effect (met_behind met));
      knows = λ observable settled. knows_by finished (clear (seals.grows.on.observable observable) (seals.gateway observable settled.gateway));
    }

    -- what is handed on of them is their end
    pub finished_then : (completing : Completing) (reply : Reply) → completing ≡ end_complete_upload_sealed finished reply → reply ≡ completes s
        → Plans (always (4 + sealed_sub_manifests s)) a c settings (GivenOf (CompletesBy settings text list label s)) (asked s text list) label (known_after_completion completing.unfinished) completing.end
    finished_then completing reply is same =
        subst (λ (x : Completing). Plans (always (4 + sealed_sub_manifests s)) a c settings (GivenOf (CompletesBy settings text list label s)) (asked s text list) label (known_after_completion x.unfinished) x.end) (sym (is ∙ ap (end_complete_upload_sealed finished) same)) amounts

-- ---- the last call

-- where one behind the seal failed, it was the last
pub ends_quietly : {s : Sealed} {a b c : History} {finished : Result (Unit {0}) PlanFault} (completing : Completing) (reply : Reply) → completing ≡ end_complete_upload_sealed finished reply → Seals a b s (Ok tt)
    → Asks (always (3 + sealed_sub_manifests s)) b c (IsSealed s) (Leaves IsSettled) finished → Met (GivenOf (MaySeal s)) a → IfOk completing.end (λ told. EndsQuietly c a.called c.called)
ends_quietly {s = s} {a = a} {b = b} {c = c} {finished = finished} completing reply is seals asks met =
    subst (λ (x : Completing). IfOk x.end (λ told. EndsQuietly c a.called c.called)) (sym is) (by finished (asks.effect behind))
  where
    behind : Met (IsSealed s) b
    behind = record { observable = seals.grows.on.observable met.observable; sound = (seals.effect met).0.sound; has = seals.leaves met }

    still : c.faults_at b.called ≡ c.faults_at a.called
    still =
        let ordered = seals.grows.on.ordered in
        let kept = asks.grows.on.kept (seals.grows.on.observable met.observable) in
        kept.counts b.called (omega arith) ∙ (seals.effect met).1 ∙ sym (kept.counts a.called ordered)

    by : (finished : Result (Unit {0}) PlanFault) → Keeps c b.called c.called (Leaves IsSettled) finished → IfOk (end_complete_upload_sealed finished reply).end (λ told. EndsQuietly c a.called c.called)
    by (Ok done) keeps = inl (keeps.1 ∙ still)
    by (Err Failed) keeps =
        let ordered = seals.grows.on.ordered in
        let after = keeps.1.after_p in
        inr (record { last = keeps.1.last; after_p = omega (arith, ordered, after); no_fault = keeps.1.no_fault ∙ still; fails = keeps.1.fails })
    by (Err Memory) keeps = inl (keeps.1 ∙ still)
    by (Err Inconsistent) never = tt

-- ---- over every observable store

-- what was sealed stands, or the files that finish it
held_or_finished : (s : Sealed) (middle new : SwiftAccount) → seal_of middle ≡ Some s → (files new gateway_name ≡ files middle gateway_name) ⊎ IsFinished s new → (seal_of new ≡ Some s) ⊎ IsFinished s new
held_or_finished s middle new sealed (inl same) = inl (seal_holds middle new same ∙ sealed)
held_or_finished s middle new sealed (inr done) = inr done

stands_end : (s : Sealed) (h : History) (finished : Result (Unit {0}) PlanFault) (reply : Reply) → Ensures h (IsFinished s) finished → (IsTrue h.observable → (seal_of (present h) ≡ Some s) ⊎ IsFinished s (present h))
    → EnsuresIfDone h (StandsAs (known_after_completion (end_complete_upload_sealed finished reply).unfinished) s) (end_complete_upload_sealed finished reply).end
stands_end s h (Ok done) reply finishes either = record { so = λ observable. done_so reply (finishes.so observable) }
stands_end s h (Err Failed) reply finishes either = record { so = λ observable. done_so reply (either observable) }
stands_end s h (Err Memory) reply finishes either = record { so = λ observable. done_so reply (either observable) }
stands_end s h (Err Inconsistent) reply finishes either = record { so = λ observable. tt }

pub stands_then : {s : Sealed} {b c : History} {finished : Result (Unit {0}) PlanFault} (reply : Reply) (completing : Completing) → completing ≡ end_complete_upload_sealed finished reply
    → Asks (always (3 + sealed_sub_manifests s)) b c (IsSealed s) (Leaves IsSettled) finished → Ensures c (IsFinished s) finished → (IsTrue b.observable → seal_of (present b) ≡ Some s) → HoldsOrFinished s b c
    → EnsuresIfDone c (StandsAs (known_after_completion completing.unfinished) s) completing.end
stands_then {s = s} {b = b} {c = c} {finished = finished} reply completing is asks ends sealed rolls =
    let told = asks.grows.on.told in
    subst (λ (x : Completing). EnsuresIfDone c (StandsAs (known_after_completion x.unfinished) s) x.end) (sym is)
    (stands_end s c finished reply ends (λ observable. held_or_finished s (present b) (present c) (sealed (told observable)) (rolls (told observable))))
