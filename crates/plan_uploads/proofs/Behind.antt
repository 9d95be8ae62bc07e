-- The call that drops an upload, and those behind it that delete its segments.
use Rattle.std.specs.Prelude.{◌≡◌, ◌≤◌, ◌+◌, ◌⊎◌, ◌==◌, ℕ, true, false, cond, length, List, [], ◌∷◌, ◌++◌, map, None, Some, Result, Ok, Err, IfOk}
use Rattle.std.specs.Result.{IsErrAnd}
use Rattle.std.specs.List.{filter}
use Rattle.std.specs.Ordering.{eq_by_cmp}
use Rattle.std.specs.FinMap.{entries, find, get, get-entries}
use Rattle.std.proofs.Common.{refl, sym, ap, subst, ◌∙◌, inl, inr, arith, append_assoc, true≢false}
use Rattle.std.proofs.lemmas.Bool.{and_from}
use Rattle.std.proofs.lemmas.Bool.Decides.{nat_tests}
use Rattle.gate_base.specs.Causes.{Rose}
use Rattle.gate_base.specs.Maps.{name_cmp}
use Rattle.gate_base.proofs.lemmas.Maps.{by_name, apart}
use Rattle.s3_names.specs.Bucket.{is_bucket}
use Rattle.s3_names.specs.Id.{id_digits}
use Rattle.s3_machine.specs.Items.{begins}
use Rattle.s3_machine.specs.State.{State}
use Rattle.s3_machine.specs.Step.{S3Step}
use Rattle.s3_machine.specs.declared.operation.Label.{Label}
use Rattle.s3_machine.specs.declared.operation.Settings.{Settings}
use Rattle.s3_machine.specs.Ops.{AbortUpload}
use Rattle.s3_machine.specs.declared.operation.Reply.{Reply}
use Rattle.s3_machine.specs.declared.operation.Reply.TheVariants as reply
use Rattle.swift_calls.specs.Account.{SwiftAccount, SwiftObject, files}
use Rattle.swift_calls.specs.History.{History, budget, present, Extends, FaultFree}
use Rattle.upload_records.specs.Layout.{segments_name, segments_prefix}
use Rattle.upload_records.specs.Native.{s3_state}
use Rattle.upload_records.specs.Consistent.{IsConsistent}
use Rattle.account_calls.specs.declared.fault.PlanFault.{PlanFault}
use Rattle.account_calls.specs.declared.fault.PlanFault.TheVariants.{Failed, Memory, Inconsistent}
use Rattle.account_calls.specs.declared.state.Known.TheVariants.{Settled}
use Rattle.account_calls.specs.Answers.{ClearsOrFails, IsNamedBy, clears, ends_by_commit, machine, memory, named_by, pages, steps_of}
use Rattle.account_calls.specs.Calls.{Bound, always, by_account, Asks, Becomes, ChangesTo, Commits, GivenOf, GoesOn, Keeps, Met}
use Rattle.account_calls.specs.Plan.{CausesEnd, EndsPlan, IsOwnReply, Plans, reply_of}
use Rattle.account_calls.specs.Purging.{MayPurge, TellsAllGone, names_under, purge_calls, under}
use Rattle.account_calls.specs.Stutters.{Stutters, LastFailed}
use Rattle.account_calls.proofs.lemmas.Agree.{failed_behind, passes_once, passes_rest, quiet_agree}
use Rattle.account_calls.proofs.lemmas.Ends.{commits, met_within}
use Rattle.account_calls.proofs.lemmas.Faults.{err_is}
use Rattle.account_calls.proofs.lemmas.Idle.{goes_trans}
use Rattle.upload_calls.specs.Found.{IsOpenUpload}
use Rattle.upload_calls.specs.Records.{HasOpen, MayClear, drops_upload}
use Rattle.upload_calls.proofs.lemmas.Opened.{has_open}
use Rattle.plan_uploads.specs.Plans.{LeavesBeside, gone_behind}
use Rattle.plan_uploads.proofs.Beside.{met_next}
use Rattle.plan_uploads.proofs.Steps.{aborted}

-- ---- names under a prefix

begins_own : (front rest : List ℕ) → begins front (front ++ rest) ≡ true
begins_own [] rest = refl
begins_own (c ∷ front) rest = let same : (c == c) ≡ true = grind (arith, nat_tests) in and_from (c == c) (begins front (front ++ rest)) same (begins_own front rest)

-- what an id names begins with it and a slash
begins_named : (id name : List ℕ) → IsNamedBy id name → begins (segments_prefix id) name ≡ true
unfolding segments_prefix
begins_named id name named =
    ap (begins (id ++ 47 ∷ [])) (named.1 ∙ sym (append_assoc id (47 ∷ []) named.0)) ∙ begins_own (id ++ 47 ∷ []) named.0

-- where no name is left under the prefix, nothing stands under one that begins with it
none_found : (prefix name : List ℕ) → begins prefix name ≡ true → (es : List (List ℕ × SwiftObject)) → map (λ e. e.0) (filter (λ key. begins prefix key.0) es) ≡ [] → find name_cmp name es ≡ None
none_found prefix name begun [] none = refl
none_found prefix name begun (e ∷ es) none =
    elim (begins prefix e.0) as (λ t. begins prefix e.0 ≡ t → map (λ e. e.0) (cond t (e ∷ filter (λ key. begins prefix key.0) es) (filter (λ key. begins prefix key.0) es)) ≡ [] → find name_cmp name (e ∷ es) ≡ None) [
      | true ↦ λ here left. cc
      | false ↦ λ off left.
          let other : eq_by_cmp name_cmp name e.0 ≡ false = apart by_name name e.0 (λ same. true≢false (sym begun ∙ ap (begins prefix) same ∙ off)) in
          ap (λ t. cond t (Some e.1) (find name_cmp name es)) other ∙ none_found prefix name begun es left
    ] refl none

none_under : (tree : SwiftAccount) (folder id name : List ℕ) → names_under (segments_prefix id) (files tree folder) ≡ [] → IsNamedBy id name → get (files tree folder) name ≡ None
none_under tree folder id name none named = get-entries (files tree folder) name ∙ none_found (segments_prefix id) name (begins_named id name named) (entries (files tree folder)) none

-- as many as are named by the id
under_named : (tree : SwiftAccount) (bucket id : List ℕ) → length (under (segments_prefix id) (files tree (segments_name bucket))) ≡ named_by tree bucket id
unfolding segments_prefix
under_named tree bucket id = refl

-- ---- a commit in a later history

pub commits_agree : {old new : History} {p q : ℕ} (S : State → State → Type 0) → Extends q old new → Commits old p q S → Commits new p q S
commits_agree {old = old} {new = new} {p = p} {q = q} S kept commits =
    let next = commits.next in
    let order = commits.quiet.ordered in
    record {
      last = commits.last;
      quiet = quiet_agree (record { accounts = λ k to. kept.accounts k (omega arith); counts = λ k to. kept.counts k (omega arith) }) commits.quiet;
      no_fault = kept.counts commits.last (omega arith) ∙ commits.no_fault ∙ sym (kept.counts p (omega arith));
      next = next;
      sound = subst IsConsistent (sym (kept.accounts q (omega arith))) commits.sound;
      made = subst (S (s3_state (new.account_at p))) (ap s3_state (sym (kept.accounts q (omega arith))))
          (subst (λ s. S s (s3_state (old.account_at q))) (ap s3_state (sym (kept.accounts p (omega arith)))) commits.made);
    }

-- ---- the calls of AbortUpload from the one that commits on

gone_is_own : IsOwnReply reply.Gone
gone_is_own = record { showable = tt; no_memory = λ e. cc; no_failure = λ e. cc; no_inconsistency = λ e. cc }

module _ {bucket : List ℕ} {id : ℕ} (is : is_bucket bucket ≡ true) {a b c : History} {ended : Result (Unit {0}) PlanFault}
    (drops : ChangesTo (always 1) a b (GivenOf (HasOpen bucket id)) (Becomes (drops_upload bucket id)) (MayClear bucket id (present a)) (Ok tt))
    (asks : Asks (by_account (purge_calls (present b) (segments_name bucket) (segments_prefix (id_digits id)))) b c (MayPurge (segments_name bucket) bucket (segments_prefix (id_digits id)) [])
    (TellsAllGone (segments_name bucket) (segments_prefix (id_digits id))) ended)
    (key text : List ℕ) where
  met_open : Met (GivenOf (IsOpenUpload bucket key text id)) a → Met (GivenOf (HasOpen bucket id)) a
  met_open met = met_within (λ tree found. has_open found) met

  cleared : Met (GivenOf (IsOpenUpload bucket key text id)) a → MayClear bucket id (present a) (present b)
  cleared met = drops.leaves (met_open met)

  met_behind : Met (GivenOf (IsOpenUpload bucket key text id)) a → Met (MayPurge (segments_name bucket) bucket (segments_prefix (id_digits id)) []) b
  met_behind met = record {
    observable = drops.changes.grows.on.observable met.observable;
    sound = (drops.changes.effect (met_open met)).0.sound;
    has = (cleared met).may;
  }

  counted : Met (GivenOf (IsOpenUpload bucket key text id)) a
      → c.called ≤ a.called + (1 + pages (named_by (present a) bucket (id_digits id)) + named_by (present a) bucket (id_digits id))
  counted met =
      let near = drops.changes.grows.calls in
      let far = asks.grows.calls (met_behind met) in
      let same : length (under (segments_prefix (id_digits id)) (files (present b) (segments_name bucket))) ≡ named_by (present a) bucket (id_digits id) =
      ap (λ fs. length (under (segments_prefix (id_digits id)) fs)) (cleared met).same ∙ under_named (present a) bucket (id_digits id) in
      let paged = ap pages same in
      omega (arith, near, far, same, paged)

  module _ (settings : Settings) (label : Label) where
    cause_by : (ended : Result (Unit {0}) PlanFault) → Asks (by_account (purge_calls (present b) (segments_name bucket) (segments_prefix (id_digits id)))) b c
        (MayPurge (segments_name bucket) bucket (segments_prefix (id_digits id)) []) (TellsAllGone (segments_name bucket) (segments_prefix (id_digits id))) ended
        → CausesEnd (ends_by_commit (AbortUpload bucket key text) (reply_of (gone_behind ended))) a.faults c.faults (gone_behind ended)
    cause_by (Ok done) asks = λ e. cc
    cause_by (Err Failed) asks = λ e. cc
    cause_by (Err Memory) asks = asks.cause ∙ drops.changes.cause
    cause_by (Err Inconsistent) asks = asks.cause ∙ drops.changes.cause

    own_by : (ended : Result (Unit {0}) PlanFault) → IfOk (gone_behind ended) IsOwnReply
    own_by (Ok done) = gone_is_own
    own_by (Err Failed) = gone_is_own
    own_by (Err Memory) = tt
    own_by (Err Inconsistent) = tt

    module _ (made : Commits c a.called b.called (Becomes (drops_upload bucket id) tt))
        (step : S3Step settings (s3_state (c.account_at a.called)) (AbortUpload bucket key text) label reply.Gone (s3_state (c.account_at b.called))) where
      gone_by : Stutters c b.called c.called → EndsPlan settings c a.called c.called (AbortUpload bucket key text) label (Ok reply.Gone)
      gone_by quiet = record {
        committed = b.called;
        takes = steps_of (AbortUpload bucket key text);
        answers = record {
          passes = passes_rest (passes_once made step) quiet;
          by = machine refl (subst (S3Step settings (s3_state (c.account_at a.called)) (AbortUpload bucket key text) label reply.Gone) (sym (quiet.same c.called quiet.ordered (omega arith))) step);
        };
        consistent = λ e. cc;
      }

      ends_by : (ended : Result (Unit {0}) PlanFault) → Keeps c b.called c.called (TellsAllGone (segments_name bucket) (segments_prefix (id_digits id))) ended
          → EndsPlan settings c a.called c.called (AbortUpload bucket key text) label (gone_behind ended)
      ends_by (Ok done) keeps = gone_by keeps.0
      ends_by (Err Failed) keeps = gone_by keeps.0
      ends_by (Err Memory) keeps = record {
        committed = b.called;
        takes = steps_of (AbortUpload bucket key text);
        answers = record { passes = passes_rest (passes_once made step) keeps.0; by = memory refl tt };
        consistent = λ e. cc;
      }
      ends_by (Err Inconsistent) never = absurd never

    -- they amount to the operation
    pub gone_then : Plans (by_account (1 + pages (named_by (present a) bucket (id_digits id)) + named_by (present a) bucket (id_digits id))) a c settings (GivenOf (IsOpenUpload bucket key text id))
        (AbortUpload bucket key text) label Settled (gone_behind ended)
    gone_then = record {
      grows = record { on = goes_trans drops.changes.grows.on asks.grows.on; calls = counted };
      cause = cause_by ended asks;
      own = own_by ended;
      effect = λ met.
          let observable = drops.changes.grows.on.observable met.observable in
          let ordered = drops.changes.grows.on.ordered in
          let kept = asks.grows.on.kept observable in
          let from : c.account_at a.called ≡ present a = kept.accounts a.called ordered ∙ (drops.changes.grows.on.kept met.observable).accounts a.called (omega arith) in
          let found : IsOpenUpload bucket key text id (c.account_at a.called) = subst (IsOpenUpload bucket key text id) (sym from) met.has.is in
          let made = commits_agree (Becomes (drops_upload bucket id) tt) kept (drops.changes.effect (met_open met)).0 in
          ends_by made
          (subst (S3Step settings (s3_state (c.account_at a.called)) (AbortUpload bucket key text) label reply.Gone) (sym made.made) (aborted settings bucket key text label (c.account_at a.called) is id found))
          ended (asks.effect (met_behind met));
      knows = λ observable settled is. asks.settled (drops.changes.grows.on.observable observable) (drops.changes.settled observable settled);
    }

  -- and no segment is left where none of them failed, and the last one failed else
  no_failure : {h : History} {p q r : ℕ} → p ≤ q → FaultFree h p r → LastFailed h q r → ⊥
  no_failure {h = h} {q = q} {r = r} order none failed = by failed.last failed.after_p failed.fails
    where
      by : (last : ℕ) → q ≤ last → ((r ≡ last + 1) × Rose (h.faults_at last) (h.faults_at r)) ⊎ ((r ≡ last) × (budget ≤ last)) → ⊥
      by last after (inl (next, rose)) = none last r (omega arith) (omega arith) (omega arith) (inl rose)
      by last after (inr (same, spent)) = none last last (omega arith) (omega arith) (omega arith) (inr spent)

  cleared_by : (ended : Result (Unit {0}) PlanFault) → Keeps c b.called c.called (TellsAllGone (segments_name bucket) (segments_prefix (id_digits id))) ended → a.called ≤ b.called
      → c.faults_at b.called ≡ c.faults_at a.called → reply_of (gone_behind ended) ≡ reply.Gone → ClearsOrFails bucket (id_digits id) c a.called c.called
  cleared_by (Ok done) keeps order same gone = record {
    cleared = λ none name named. none_under (c.account_at c.called) (segments_name bucket) (id_digits id) name keeps.2.none named;
    last = inl (keeps.1 ∙ same);
  }
  cleared_by (Err Failed) keeps order same gone = record { cleared = λ none. absurd (no_failure order none keeps.1); last = inr (failed_behind order same keeps.1) }
  cleared_by (Err Memory) keeps order same gone = let never : reply.Memory ≡ reply.Gone = gone in cc
  cleared_by (Err Inconsistent) never order same gone = absurd never

  -- the call that drops the upload was acknowledged
  dropped_still : Met (GivenOf (IsOpenUpload bucket key text id)) a → c.faults_at b.called ≡ c.faults_at a.called
  dropped_still met =
      let kept = asks.grows.on.kept (drops.changes.grows.on.observable met.observable) in
      kept.counts b.called (omega arith) ∙ (drops.changes.effect (met_open met)).1 ∙ sym (kept.counts a.called drops.changes.grows.on.ordered)

  pub clears_behind : (label : Label) → LeavesBeside (clears bucket text) label a c (GivenOf (IsOpenUpload bucket key text id)) (gone_behind ended)
  clears_behind label = record {
    says = λ met gone.
        subst (λ t. ClearsOrFails bucket t c a.called c.called) (sym met.has.is.is)
        (cleared_by ended (asks.effect (met_behind met)) drops.changes.grows.on.ordered (dropped_still met) gone);
  }

-- ---- the calls before

-- another reply says nothing of what is left
pub clears_other : {bucket id : List ℕ} {label : Label} {a b : History} {given : SwiftAccount → Type 0} (end : Result Reply PlanFault) → (reply_of end ≡ reply.Gone → ⊥) → LeavesBeside (clears bucket id) label a b given end
clears_other end other = record { says = λ met gone. absurd (other gone) }

no_gone : (f : PlanFault) → reply_of (Err f) ≡ reply.Gone → ⊥
no_gone Failed e = cc
no_gone Memory e = cc
no_gone Inconsistent e = cc

pub clears_fault : {bucket id : List ℕ} {label : Label} {a b : History} {given : SwiftAccount → Type 0} (f : PlanFault) (end : Result Reply PlanFault) → IsErrAnd end (λ e. e ≡ f) → LeavesBeside (clears bucket id) label a b given end
clears_fault f end is = clears_other end (λ gone. no_gone f (sym (ap reply_of (err_is end f is)) ∙ gone))

-- calls left the state, and the rest of the plan goes on
clears_then : {bucket id : List ℕ} {h : History} {p q r : ℕ} → p ≤ q → h.faults_at q ≡ h.faults_at p → ClearsOrFails bucket id h q r → ClearsOrFails bucket id h p r
clears_then {h = h} {p = p} {q = q} {r = r} ordered same says = record { cleared = λ none. says.cleared (λ j k from order to. none j k (omega arith) order to); last = by says.last }
  where
    by : (h.faults_at r ≡ h.faults_at q) ⊎ LastFailed h q r → (h.faults_at r ≡ h.faults_at p) ⊎ LastFailed h p r
    by (inl still) = inl (still ∙ same)
    by (inr failed) = inr (failed_behind ordered same failed)

pub clears_on : {T : Type 0} {asked given rest : SwiftAccount → Type 0} {Q : SwiftAccount → SwiftAccount → T → Type 0} {n : Bound} {a b c : History} {value : T} {end : Result Reply PlanFault} {bucket id : List ℕ} {label : Label}
    → (Met (GivenOf given) a → Met asked a) → Asks n a b asked Q (Ok value) → (given (present a) → Q (present a) (present b) value → rest (present b))
    → GoesOn b c → LeavesBeside (clears bucket id) label b c (GivenOf rest) end → LeavesBeside (clears bucket id) label a c (GivenOf given) end
clears_on {a = a} {b = b} {c = c} under asks gives on leaves = record {
  says = λ met gone.
      let ordered = asks.grows.on.ordered in
      let later = on.kept (asks.grows.on.observable met.observable) in
      clears_then ordered (later.counts b.called (omega arith) ∙ (asks.effect (under met)).1 ∙ sym (later.counts a.called ordered)) (leaves.says (met_next asks under gives met) gone);
}

-- the deletion by these names
pub purged_at : {folder prefix other : List ℕ} {bucket : List ℕ} {b c : History} {ended : Result (Unit {0}) PlanFault} → folder ≡ segments_name bucket → prefix ≡ other
    → Asks (by_account (purge_calls (present b) folder prefix)) b c (MayPurge folder bucket prefix []) (TellsAllGone folder prefix) ended
    → Asks (by_account (purge_calls (present b) (segments_name bucket) other)) b c (MayPurge (segments_name bucket) bucket other []) (TellsAllGone (segments_name bucket) other) ended
purged_at {bucket = bucket} {b = b} {c = c} {ended = ended} named begun asks =
    subst {A = List ℕ × List ℕ} (λ x. Asks (by_account (purge_calls (present b) x.0 x.1)) b c (MayPurge x.0 bucket x.1 []) (TellsAllGone x.0 x.1) ended) (λ i. (named i, begun i)) asks

-- the call that drops the upload was not acknowledged
pub drop_fails : {bucket : List ℕ} {id : ℕ} {key text : List ℕ} {label : Label} {settings : Settings} {most : ℕ} {a b : History} {Q : SwiftAccount → Type 0} {f : PlanFault} → is_bucket bucket ≡ true → 1 ≤ most
    → ChangesTo (always 1) a b (GivenOf (HasOpen bucket id)) (Becomes (drops_upload bucket id)) Q (Err f) → (end : Result Reply PlanFault) → IsErrAnd end (λ e. e ≡ f)
    → Plans (by_account most) a b settings (GivenOf (IsOpenUpload bucket key text id)) (AbortUpload bucket key text) label Settled end
drop_fails {bucket = bucket} {id = id} {key = key} {text = text} {label = label} {settings = settings} {most = most} {a = a} {b = b} {f = f} is some drops end fails =
    subst (Plans (by_account most) a b settings (GivenOf (IsOpenUpload bucket key text id)) (AbortUpload bucket key text) label Settled) (sym (err_is end f fails))
    (commits (λ done. reply.Gone) some drops.changes (λ done. gone_is_own) (λ tree found. has_open found)
    (λ tree done new found made. subst (S3Step settings (s3_state tree) (AbortUpload bucket key text) label reply.Gone) (sym made) (aborted settings bucket key text label tree is id found)))
