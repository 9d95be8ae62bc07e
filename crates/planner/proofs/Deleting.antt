-- The deletion of many keys, one after another: key by key, and to its end.
use Rattle.std.specs.Prelude.{◌≡◌, ◌<◌, ◌≤◌, ℕ, zero, suc, ◌+◌, Bool, true, IsTrue, List, [], ◌∷◌, length, map, take, get_or, slice_get, Option, None, Some, Result, Ok, Err, IfOk}
use Rattle.std.specs.Result.{IsErrAnd}
use Rattle.std.specs.Option.{option_map}
use Rattle.std.specs.FinMap.{get}
use Rattle.std.proofs.Common.{refl, sym, ap, subst, ◌∙◌, inl, inr, arith, rules}
use Rattle.std.proofs.lemmas.List.{length-map, take_all, take-map}
use Rattle.gate_base.specs.Causes.{Rose}
use Rattle.gate_base.specs.Maps.{adjust}
use Rattle.gate_base.proofs.lemmas.Maps.{by_name, adjust_again, adjust_stays, at_adjust}
use Rattle.s3_names.specs.declared.acl.Acl.{Acl}
use Rattle.s3_machine.specs.declared.code.Code.TheVariants.{NoSuchBucket}
use Rattle.s3_machine.specs.declared.operation.Label.{Label}
use Rattle.s3_machine.specs.declared.operation.Op.{Op}
use Rattle.s3_machine.specs.declared.only_if.OnlyIf.TheVariants.{Always}
use Rattle.s3_machine.specs.Ops.{DeleteObjects}
use Rattle.s3_machine.specs.declared.operation.Reply.TheVariants.{Gone, Refused}
use Rattle.s3_machine.specs.Replies.{Deleted}
use Rattle.s3_machine.specs.declared.operation.Settings.{Settings}
use Rattle.s3_machine.specs.State.{Bucket, State}
use Rattle.s3_machine.specs.Step.{Outcome, S3Step, deletes, drop_object, drop_objects}
use Rattle.s3_machine.proofs.lemmas.StepLemmas.{delete_all_without_bucket, in_found, step_deleted, step_gone}
use Rattle.swift_calls.specs.History.{Extends, History, present}
use Rattle.upload_records.specs.Native.{IsSettled, s3_state}
use Rattle.account_calls.specs.Answers.{after_step, before_step, IsStage, machine, memory, part_way, steps_of, StepsThrough, unavailable, deletion}
use Rattle.account_calls.specs.Calls.{acl_of_bucket, always, Any, Becomes, Changes, Commits, drops_object, Given, Grows, HasBucket, Met, TellsBucket, Writes}
use Rattle.account_calls.specs.declared.fault.PlanFault.{PlanFault}
use Rattle.account_calls.specs.declared.fault.PlanFault.TheVariants.{Failed, Memory, Inconsistent}
use Rattle.account_calls.specs.declared.state.Known.TheVariants.{Settled}
use Rattle.account_calls.specs.Fault.{CausesFault}
use Rattle.account_calls.specs.Plan.{ended, EndsPlan, IsOwnReply, Plans}
use Rattle.account_calls.specs.Stutters.{LastFailed, Stutters}
use Rattle.account_calls.proofs.lemmas.Agree.{failed_behind, passes_agree, passes_rest, passes_still}
use Rattle.account_calls.proofs.lemmas.Faults.{err_is}
use Rattle.account_calls.proofs.lemmas.Idle.{goes_trans, grows_none, none_made}
use Rattle.planner.specs.Deletions.{Deletes, DeletesBy, DeletesFirst}
use Rattle.planner.proofs.Stages.{part_done, part_passes, passes_whole, through_none}

-- ---- the steps

bucket_by : (o : Option Bucket) (acl : Acl) → option_map acl_of_bucket o ≡ Some acl → (b : Bucket) × (o ≡ Some b)
bucket_by None acl e = cc
bucket_by (Some b) acl e = (b, refl)

none_by : (o : Option Bucket) → option_map acl_of_bucket o ≡ None → o ≡ None
none_by None e = refl
none_by (Some b) e = cc

-- the bucket is missing
pub delete_missing : (settings : Settings) (state : State) (bucket : List ℕ) (keys : List (List ℕ)) (quiet : Bool) (label : Label) → TellsBucket bucket state None
    → S3Step settings state (DeleteObjects bucket keys quiet) label (Refused NoSuchBucket) state
delete_missing settings state bucket keys quiet label told = delete_all_without_bucket settings state bucket keys quiet label (none_by (get state bucket) told)

-- a bucket that is there, and the state when these keys were deleted one after another
left : (settings : Settings) (label : Label) (bucket : List ℕ) (b : Bucket) (old new : State) (keys : List (List ℕ)) → get old bucket ≡ Some b
    → StepsThrough settings label old (map (deletion bucket) keys) new → new ≡ adjust bucket (drop_objects keys) old
unfolding StepsThrough
left settings label bucket b old new [] found same = same ∙ sym (adjust_stays by_name bucket (drop_objects []) old (λ x is. refl))
left settings label bucket b old new (key ∷ keys) found (middle, reply, one, others) =
    let is : middle ≡ adjust bucket (drop_object key) old = one.goes ∙ ap (λ (o : Outcome). o.state) (in_found old bucket b found (deletes old bucket key Always)) in
    let there : get middle bucket ≡ Some (drop_object key b) = ap (λ s. get s bucket) is ∙ at_adjust by_name bucket (drop_object key) old ∙ ap (option_map (drop_object key)) found in
    left settings label bucket (drop_object key b) middle new keys there others ∙ ap (adjust bucket (drop_objects keys)) is ∙ adjust_again by_name bucket (drop_objects keys) (drop_object key) old

module _ (settings : Settings) (label : Label) (bucket : List ℕ) (old : State) (has : HasBucket bucket old) where
  it : (b : Bucket) × (get old bucket ≡ Some b)
  it = bucket_by (get old bucket) has.0 has.1

  -- the step of one key, by the state that it leaves
  drops_one : (key : List ℕ) (new : State) → new ≡ drops_object bucket key old → S3Step settings old (deletion bucket key) label Gone new
  drops_one key new is = subst (S3Step settings old (deletion bucket key) label Gone) (sym is) (step_gone settings old bucket key label it.0 it.1 Always refl)

  -- the bucket stays
  stays_there : (keys : List (List ℕ)) (n : ℕ) (new : State) → StepsThrough settings label old (take n (map (deletion bucket) keys)) new → HasBucket bucket new
  stays_there keys n new through =
      let front = subst (λ ops. StepsThrough settings label old ops new) (take-map (deletion bucket) n keys) through in
      let there : get new bucket ≡ Some (drop_objects (take n keys) it.0) =
      ap (λ s. get s bucket) (left settings label bucket it.0 old new (take n keys) it.1 front)
      ∙ at_adjust by_name bucket (drop_objects (take n keys)) old ∙ ap (option_map (drop_objects (take n keys))) it.1 in
      ((drop_objects (take n keys) it.0).acl, ap (option_map acl_of_bucket) there)

  module _ (keys : List (List ℕ)) (quiet : Bool) where
    -- the step of all, from those of each
    drops_all : (new : State) → StepsThrough settings label old (map (deletion bucket) keys) new → S3Step settings old (DeleteObjects bucket keys quiet) label (Deleted keys quiet) new
    drops_all new through = subst (S3Step settings old (DeleteObjects bucket keys quiet) label (Deleted keys quiet)) (sym (left settings label bucket it.0 old new keys it.1 through))
        (step_deleted settings old bucket keys quiet label it.0 it.1)

    as_many : length (map (deletion bucket) keys) ≡ length keys
    as_many = length-map keys (deletion bucket)

    all_of : (new : State) → StepsThrough settings label old (take (length keys) (map (deletion bucket) keys)) new → StepsThrough settings label old (map (deletion bucket) keys) new
    all_of new through = subst (λ ops. StepsThrough settings label old ops new) (take_all (length keys) (map (deletion bucket) keys) (omega (arith, as_many))) through

    -- at the stage of the last key the whole is done
    step_by : {new : State} → IsStage settings old (DeleteObjects bucket keys quiet) label (length keys) new → S3Step settings old (DeleteObjects bucket keys quiet) label (Deleted keys quiet) new
    step_by {new = new} (before_step none same) = drops_all new (all_of new (subst (λ n. StepsThrough settings label old (take n (map (deletion bucket) keys)) new) (sym none)
        (subst (StepsThrough settings label old (take 0 (map (deletion bucket) keys))) (sym same) (through_none settings label old (map (deletion bucket) keys)))))
    step_by {new = new} (part_way few through) = drops_all new (all_of new through)
    step_by (after_step all reply step) = absurd (omega (arith, all, as_many))

-- ---- one key after the other

module _ {bucket : List ℕ} {keys : List (List ℕ)} {settings : Settings} {label : Label} where
  -- none is deleted by no call
  first_none : (h : History) (p : ℕ) → Stutters h p p → DeletesFirst bucket keys h p p settings label 0
  first_none h p quiet = record {
    within = omega arith;
    through = through_none settings label (s3_state (h.account_at p)) (map (deletion bucket) keys);
    turn = p;
    passes = λ all. passes_still quiet;
  }

  -- so it is in a later history
  first_agree : {old new : History} {p q n : ℕ} → p ≤ q → Extends q old new → DeletesFirst bucket keys old p q settings label n → DeletesFirst bucket keys new p q settings label n
  first_agree {p = p} {q = q} {n = n} ordered kept first = record {
    within = first.within;
    through = subst {A = State × State} (λ s. StepsThrough settings label s.0 (take n (map (deletion bucket) keys)) s.1)
        (λ i. (ap s3_state (sym (kept.accounts p ordered)) i, ap s3_state (sym (kept.accounts q (omega arith))) i)) first.through;
    turn = first.turn;
    passes = λ quiet. passes_agree kept (first.passes quiet);
  }

  module _ {h : History} {p q n : ℕ} (r : ℕ) (first : DeletesFirst bucket keys h p q settings label n) where
    -- a call left the state
    first_still : Stutters h q r → DeletesFirst bucket keys h p r settings label n
    first_still still = record {
      within = first.within;
      through = subst (StepsThrough settings label (s3_state (h.account_at p)) (take n (map (deletion bucket) keys))) (sym (still.same r still.ordered (omega arith))) first.through;
      turn = first.turn;
      passes = λ quiet. passes_rest (first.passes quiet) still;
    }

    -- it deleted the next key
    first_more : HasBucket bucket (s3_state (h.account_at p)) → (key : List ℕ) → n < length keys → slice_get (map (deletion bucket) keys) n ≡ Some (deletion bucket key) → Commits h q r (Becomes (drops_object bucket key) tt)
        → DeletesFirst bucket keys h p r settings label (suc n)
    first_more has key near at commits =
        let there = stays_there settings label bucket (s3_state (h.account_at p)) has keys n (s3_state (h.account_at q)) first.through in
        let step = drops_one settings label bucket (s3_state (h.account_at q)) there key (s3_state (h.account_at r)) commits.made in
        record {
          within = omega (arith, near);
          through = part_done (first.passes true) first.through commits (deletion bucket key) at Gone step;
          turn = r;
          passes = λ quiet. part_passes (first.passes quiet) first.through commits (deletion bucket key) at Gone step;
        }

    module _ (has : HasBucket bucket (s3_state (h.account_at p))) (key : List ℕ) (near : n < length keys) (at : slice_get (map (deletion bucket) keys) n ≡ Some (deletion bucket key))
        (ordered : p ≤ q) (same : h.faults_at q ≡ h.faults_at p) where
      -- it was lost behind its effect
      lost_last : Commits h q r (Becomes (drops_object bucket key) tt) → Rose (h.faults_at q) (h.faults_at r) → LastFailed h q r
      lost_last done rose = record { last = done.last; after_p = done.quiet.ordered; no_fault = done.no_fault; fails = inl (done.next, subst (λ n. Rose n (h.faults_at r)) (sym done.no_fault) rose) }

      -- it wasn't answered
      first_fault : (f : PlanFault) → Writes h q r (Becomes (drops_object bucket key)) (Err f) → DeletesBy bucket keys h p r settings label (Err f)
      first_fault Failed (inl (still, failed)) = (n, first_still still, failed_behind ordered same failed)
      first_fault Failed (inr ((done, commits), rose)) = (suc n, first_more has key near at commits, failed_behind ordered same (lost_last commits rose))
      first_fault Memory (inl still, steady) = (n, first_still still, steady ∙ same)
      first_fault Memory (inr (done, commits), steady) = (suc n, first_more has key near at commits, steady ∙ same)
      first_fault Inconsistent never = absurd never

-- the first n keys of the list are deleted
pub record Deleting (bucket : List ℕ) (keys : List (List ℕ)) (a b : History) (settings : Settings) (n : ℕ) : Type 0 where
  pub within : n ≤ length keys
  pub grows : Grows (always n) (Given (HasBucket bucket)) a b
  pub cause : b.faults ≡ a.faults
  pub effect : Met (Given (HasBucket bucket)) a → (label : Label) → DeletesFirst bucket keys b a.called b.called settings label n × (b.faults_at b.called ≡ b.faults_at a.called)
  pub settled : IsTrue a.observable → IsSettled (present a) → IsSettled (present b)

pub deleting_none : (bucket : List ℕ) (keys : List (List ℕ)) (a : History) (settings : Settings) → Deleting bucket keys a a settings 0
deleting_none bucket keys a settings = record {
  within = omega arith;
  grows = grows_none (always 0) (Given (HasBucket bucket)) a;
  cause = refl;
  effect = λ met label. (first_none a a.called (none_made refl met.sound), refl);
  settled = λ observable settled. settled;
}

-- the account at a number that is kept has what was given
has_here : (P : State → Type 0) {old new : History} → Extends old.called old new → P (s3_state (present old)) → P (s3_state (new.account_at old.called))
has_here P {old = old} kept has = subst (λ tree. P (s3_state tree)) (sym (kept.accounts old.called (omega arith))) has

abbrev pub Drops : List ℕ → List ℕ → History → History → Result (Unit {0}) PlanFault → Type 0
Drops bucket key b c result = Changes (always 1) b c (Given Any) (Becomes (drops_object bucket key)) result

module _ {bucket : List ℕ} {keys : List (List ℕ)} {a b : History} {settings : Settings} {n : ℕ} (deleting : Deleting bucket keys a b settings n) (key : List ℕ) (near : n < length keys) (is : key ≡ get_or keys n key) where
  at_place : slice_get (map (deletion bucket) keys) n ≡ Some (deletion bucket key)
  at_place = place keys n near is
    where
      place : (keys : List (List ℕ)) (n : ℕ) → n < length keys → key ≡ get_or keys n key → slice_get (map (deletion bucket) keys) n ≡ Some (deletion bucket key)
      place [] n near is = absurd (omega (arith, near))
      place (k ∷ keys) zero near is = ap (λ x. Some (deletion bucket x)) (sym is)
      place (k ∷ keys) (suc n) near is = place keys n (omega (arith, near)) is

  -- what the next call found
  met_next : Met (Given (HasBucket bucket)) a → (label : Label) → Met (Given Any) b
  met_next met label =
      let first = (deleting.effect met label).0 in
      let ordered = deleting.grows.on.ordered in
      record {
        observable = deleting.grows.on.observable met.observable;
        sound = (first.passes true).sound b.called ordered (omega arith);
        has = record { settled = deleting.settled met.observable met.has.settled; is = tt };
      }

  module _ {c : History} (result : Result (Unit {0}) PlanFault) (drops : Drops bucket key b c result) where
    kept : Met (Given (HasBucket bucket)) a → Extends b.called b c
    kept met = drops.grows.on.kept (deleting.grows.on.observable met.observable)

    -- what was done before it, in the history after it
    before_next : Met (Given (HasBucket bucket)) a → (label : Label) → DeletesFirst bucket keys c a.called b.called settings label n × (c.faults_at b.called ≡ c.faults_at a.called)
    before_next met label =
        let ordered = deleting.grows.on.ordered in
        let before = deleting.effect met label in
        (first_agree ordered (kept met) before.0, (kept met).counts b.called (omega arith) ∙ before.1 ∙ sym ((kept met).counts a.called ordered))

    -- the bucket is there, in the history after it
    has_next : Met (Given (HasBucket bucket)) a → HasBucket bucket (s3_state (c.account_at a.called))
    has_next met = subst (λ tree. HasBucket bucket (s3_state tree)) (sym (((goes_trans deleting.grows.on drops.grows.on).kept met.observable).accounts a.called (omega arith))) met.has.is

    grows_next : Grows (always (suc n)) (Given (HasBucket bucket)) a c
    grows_next = let few = deleting.grows.calls in let one = drops.grows.calls in record { on = goes_trans deleting.grows.on drops.grows.on; calls = omega arith }

    settled_next : IsTrue a.observable → IsSettled (present a) → IsSettled (present c)
    settled_next observable settled = drops.settled (deleting.grows.on.observable observable) (deleting.settled observable settled)

  -- it deleted the key
  one_more : {c : History} → Drops bucket key b c (Ok tt) → Deleting bucket keys a c settings (suc n)
  one_more {c = c} drops = record {
    within = omega (arith, near);
    grows = grows_next (Ok tt) drops;
    cause = drops.cause ∙ deleting.cause;
    effect = λ met label.
        let before = before_next (Ok tt) drops met label in
        let writes = drops.effect (met_next met label) in (
          first_more c.called before.0 (has_next (Ok tt) drops met) key near at_place writes.0,
          writes.1 ∙ before.1,
        );
    settled = settled_next (Ok tt) drops;
  }

  pub deleting_more : {c : History} → Drops bucket key b c (Ok tt) → Deleting bucket keys a c settings (n + 1)
  deleting_more {c = c} drops = let same : suc n ≡ n + 1 = omega arith in subst (Deleting bucket keys a c settings) same (one_more drops)

  cause_next : (now : ℕ) (f : PlanFault) → CausesFault {T = Unit {0}} b.faults now (Err f) → CausesFault {T = Unit {0}} a.faults now (Err f)
  cause_next now Failed cause = subst (λ m. Rose m now) deleting.cause cause
  cause_next now Memory cause = cause ∙ deleting.cause
  cause_next now Inconsistent cause = cause ∙ deleting.cause

  -- it failed
  pub deleting_fault : {c : History} {f : PlanFault} → Drops bucket key b c (Err f) → (result : Result (Unit {0}) PlanFault) → IsErrAnd result (λ e. e ≡ f) → Deletes bucket keys a c settings result
  deleting_fault {c = c} {f = f} drops result gives = subst (Deletes bucket keys a c settings) (sym (err_is result f gives)) (record {
    grows = let few = (grows_next (Err f) drops).calls in record { on = (grows_next (Err f) drops).on; calls = omega (arith, near) };
    cause = cause_next c.faults f drops.cause;
    effect = λ met label.
        let before = before_next (Err f) drops met label in
        let ordered = deleting.grows.on.ordered in
        first_fault c.called before.0 (has_next (Err f) drops met) key near at_place ordered before.1 f (drops.effect (met_next met label));
    settled = settled_next (Err f) drops;
  })

-- all are deleted
pub deleting_all : {bucket : List ℕ} {keys : List (List ℕ)} {a b : History} {settings : Settings} {n : ℕ} → Deleting bucket keys a b settings n → length keys ≤ n → Deletes bucket keys a b settings (Ok tt)
deleting_all {bucket = bucket} {keys = keys} {a = a} {b = b} {settings = settings} {n = n} deleting far =
    let within = deleting.within in
    let same : n ≡ length keys = omega arith in
    let all = subst (Deleting bucket keys a b settings) same deleting in
    record { grows = all.grows; cause = all.cause; effect = all.effect; settled = all.settled }

-- ---- the rest of the plan, in a bucket that is there

module _ (bucket : List ℕ) (keys : List (List ℕ)) (b c : History) (settings : Settings) (quiet : Bool) (label : Label) where
  abbrev op : Op
  op = DeleteObjects bucket keys quiet

  abbrev Ends : Result (Unit {0}) PlanFault → Type 0
  Ends end = EndsPlan settings c b.called c.called op label (ended end (λ done. Deleted keys quiet))

  -- what the calls amount to
  ends_by : HasBucket bucket (s3_state (c.account_at b.called)) → (end : Result (Unit {0}) PlanFault) → DeletesBy bucket keys c b.called c.called settings label end → Ends end
  ends_by has (Ok done) (all, steady) =
      let passes = all.passes quiet in
      let last = passes.up_to_q in
      let first = passes.after_p in
      let step : (k : ℕ) → all.turn ≤ k → k ≤ c.called → S3Step settings (s3_state (c.account_at b.called)) op label (Deleted keys quiet) (s3_state (c.account_at k)) = λ k from to.
      step_by settings label bucket (s3_state (c.account_at b.called)) has keys quiet (subst (λ n. IsStage settings (s3_state (c.account_at b.called)) op label n (s3_state (c.account_at k))) (passes.since k from to) (passes.is k (omega arith) to)) in
      record {
        committed = all.turn;
        takes = steps_of op;
        answers = record { passes = passes_whole passes (omega (arith, length-map keys (deletion bucket))) step; by = machine refl (step c.called last (omega arith)) };
        consistent = λ e. cc;
      }
  ends_by has (Err Failed) (n, first, failed) = record {
    committed = first.turn;
    takes = n;
    answers = record { passes = first.passes quiet; by = unavailable refl failed tt };
    consistent = λ e. cc;
  }
  ends_by has (Err Memory) (n, first, steady) = record {
    committed = first.turn;
    takes = n;
    answers = record { passes = first.passes quiet; by = memory refl tt };
    consistent = λ e. cc;
  }
  ends_by has (Err Inconsistent) never = absurd never

  cause_by : (end : Result (Unit {0}) PlanFault) → CausesFault b.faults c.faults end → CausesFault b.faults c.faults (ended end (λ done. Deleted keys quiet))
  cause_by (Ok done) cause = cause
  cause_by (Err Failed) cause = cause
  cause_by (Err Memory) cause = cause
  cause_by (Err Inconsistent) cause = cause

  own_by : (end : Result (Unit {0}) PlanFault) → IfOk (ended end (λ done. Deleted keys quiet)) IsOwnReply
  own_by (Ok done) = search rules
  own_by (Err f) = tt

  met_by : (list : Acl) → Met (Given (λ s. TellsBucket bucket s (Some list))) b → Met (Given (HasBucket bucket)) b
  met_by list met = record { observable = met.observable; sound = met.sound; has = record { settled = met.has.settled; is = (list, met.has.is) } }

  rest_of : (list : Acl) (end : Result (Unit {0}) PlanFault) → Deletes bucket keys b c settings end
      → Plans (always (length keys)) b c settings (Given (λ s. TellsBucket bucket s (Some list))) op label Settled (ended end (λ done. Deleted keys quiet))
  rest_of list end rest = record {
    grows = record { on = rest.grows.on; calls = rest.grows.calls };
    cause = cause_by end rest.cause;
    own = own_by end;
    effect = λ met. ends_by (has_here (HasBucket bucket) (rest.grows.on.kept met.observable) (list, met.has.is)) end (rest.effect (met_by list met) label);
    knows = λ observable settled is. rest.settled observable settled;
  }

-- the keys are those of the list that was walked
pub deletes_rest : {bucket : List ℕ} {walked : List (List ℕ)} {b c : History} {settings : Settings} {end : Result (Unit {0}) PlanFault} (list : Acl) (keys : List (List ℕ)) (quiet : Bool) (label : Label) → walked ≡ keys → Deletes bucket walked b c settings end
    → Plans (always (length keys)) b c settings (Given (λ s. TellsBucket bucket s (Some list))) (DeleteObjects bucket keys quiet) label Settled (ended end (λ done. Deleted keys quiet))
deletes_rest {bucket = bucket} {b = b} {c = c} {settings = settings} {end = end} list keys quiet label same rest =
    rest_of bucket keys b c settings quiet label list end (subst (λ ks. Deletes bucket ks b c settings end) same rest)
