-- A read, as far as bytes of its object were got: what it would be answered with all of them, and what if no more are got.
use Rattle.std.specs.Prelude.{◌≡◌, ◌≢◌, ◌≤◌, ◌<◌, ◌+◌, ◌*◌, ◌-◌, ℕ, min, Bool, true, false, List, [], ◌++◌, length, take, drop, Option, Some, None, Ok, Err}
use Rattle.std.specs.FinMap.{get}
use Rattle.std.specs.Option.{option_map}
use Rattle.std.proofs.Common.{refl, sym, ap, subst, ◌∙◌, arith}
use Rattle.std.proofs.lemmas.List.{take-append-drop, length-append, drop-drop}
use Rattle.std.proofs.Math.Seq.{take-add, take-append_seam}
use Rattle.s3_machine.specs.declared.code.Code.TheVariants.{ServiceUnavailable}
use Rattle.s3_machine.specs.declared.operation.Label.{Label}
use Rattle.s3_machine.specs.declared.operation.Op.{Op}
use Rattle.s3_machine.specs.declared.operation.Reply.{Reply}
use Rattle.s3_machine.specs.declared.operation.Reply.TheVariants.{Refused, Memory}
use Rattle.s3_machine.specs.declared.operation.Settings.{Settings}
use Rattle.s3_machine.specs.State.{State}
use Rattle.s3_machine.specs.Step.{S3Step, head_of}
use Rattle.swift_calls.specs.History.{History, present, Extends}
use Rattle.upload_records.specs.Native.{object_at, s3_state}
use Rattle.account_calls.specs.declared.fault.PlanFault.{PlanFault}
use Rattle.account_calls.specs.declared.fault.PlanFault.TheVariants as fault
use Rattle.account_calls.specs.declared.state.Known.{Known}
use Rattle.account_calls.specs.Answers.{most_calls, steps_of, is_old_if_failed, is_old_if_out_of_memory, OldIf, machine, unavailable, memory, Answers, pieces}
use Rattle.account_calls.specs.Calls.{always, amount, Any, Asks, Given, Keeps, Met, Tells}
use Rattle.account_calls.specs.Plan.{reply_of}
use Rattle.account_calls.specs.Known.{IsKnown}
use Rattle.account_calls.specs.Stutters.{Stutters, OldBefore, LastFailed}
use Rattle.account_calls.proofs.lemmas.Agree.{quiet_agree, quiet_trans, failed_after, passes_at_once, last_within}
use Rattle.account_calls.proofs.lemmas.Told.{told_by, told_none, told_trans, met_here, same_here}
use Rattle.planner.specs.declared.reading.Found.{Found}
use Rattle.planner.specs.Reading.{found_reply, HasFound, AreFirst, HasBody, TellsPiece}
use Rattle.gateway.specs.Exchange.{SettledBy}
use Rattle.gateway.specs.Reading.{HasSoFar, Reads, Got}
use Rattle.gateway.proofs.Operating.{from_present}
use Rattle.gateway.proofs.lemmas.Map.{settled_by_agree}

-- ---- bytes of an object

-- the first of some bytes, and then others of them
pub first_more : (found : Found) (done bytes : List ℕ) (state : State) → AreFirst found done state → TellsPiece found (length done) (length bytes) state bytes → AreFirst found (done ++ bytes) state
first_more found done bytes state first told o there =
    ap (λ d. d ++ bytes) (first o there)
    ∙ ap (λ b. take (length done) (drop found.from o.bytes) ++ b) (told o there ∙ ap (take (length bytes)) (sym (drop-drop (length done) found.from o.bytes)))
    ∙ sym (take-add (length done) (length bytes) (drop found.from o.bytes))
    ∙ ap (λ n. take n (drop found.from o.bytes)) (sym (length-append done bytes))

there_of : {X Y : Type 0} (f : X → Y) (o : Option X) (y : Y) → option_map f o ≡ Some y → (x : X) × (o ≡ Some x)
there_of f None y e = cc
there_of f (Some x) y e = (x, refl)

-- what is left of the bytes of an object behind the first of them
pub rest_is : (found : Found) (done body : List ℕ) (state : State) → HasFound found state → AreFirst found done state → AreFirst found body state → length done ≤ length body → done ++ drop (length done) body ≡ body
rest_is found done body state has first whole few =
    let here = there_of head_of (object_at (get state found.bucket) found.key) has.0 has.1 in
    let tail : List ℕ = drop found.from here.0.bytes in
    let long : length done + (length body - length done) ≡ length body = omega arith in
    let same : take (length done) body ≡ done =
    ap (take (length done)) (whole here.0 here.1 ∙ ap (λ n. take n tail) (sym long) ∙ take-add (length done) (length body - length done) tail)
    ∙ front (length done) tail (take (length body - length done) (drop (length done) tail)) (sized done tail (first here.0 here.1))
    ∙ sym (first here.0 here.1) in
    ap (λ d. d ++ drop (length done) body) (sym same) ∙ take-append-drop (length done) body
  where
    sized : (done tail : List ℕ) → done ≡ take (length done) tail → length (take (length done) tail) ≡ length done
    sized done tail is = ap length (sym is)

    front : (n : ℕ) (tail more : List ℕ) → length (take n tail) ≡ n → take n (take n tail ++ more) ≡ take n tail
    front n tail more long = ap (λ k. take k (take n tail ++ more)) (sym long) ∙ take-append_seam (take n tail) more

-- ---- pieces that were got

-- a call may be made for another piece
pub few_pieces : (count length : ℕ) → 1048576 * count < length + 1048576 → count ≤ pieces length
few_pieces count length needed = omega arith

pub got_none : (found : Found) (h : History) → Got found h h [] 0
got_none found h = record {
  told = told_none h (λ tree o there. refl);
  counted = omega arith;
  sized = omega arith;
  needed = omega arith;
}

module _ {found : Found} {a b c : History} {done : List ℕ} {count : ℕ} (got : Got found a b done count) where
  -- one more
  pub got_more : {bytes : List ℕ} (at size : ℕ) → length done ≡ at → length bytes ≡ size → at < found.length → size ≡ min 1048576 (found.length - at) → c.called ≡ b.called + 1
      → Asks (always 1) b c (Given (HasFound found)) (Tells (TellsPiece found at size)) (Ok bytes) → Got found a c (done ++ bytes) (count + 1)
  got_more {bytes = bytes} at size at_is size_is left most next asks = record {
    told = told_trans count 1 got.told (told_by 1 asks (λ met. met) (λ tree sound given told. told)) (λ tree given first. given)
        (λ tree first told. first_more found done bytes (s3_state tree) first (subst {A = ℕ × ℕ} (λ n. TellsPiece found n.0 n.1 (s3_state tree) bytes) (λ i. (sym at_is i, sym size_is i)) told));
    counted = (let so_far = got.counted in omega arith);
    sized = (let so_far = got.sized in let needed = got.needed in omega (arith, so_far, needed, length-append done bytes));
    needed = (let so_far = got.sized in omega (arith, so_far));
  }

-- ---- a read goes on

unfoldable pub reads_more : {settings : Settings} {op : Op} {label : Label} {found : Found} {old middle new : History} {was : Known} {done : List ℕ} {count : ℕ} → Reads settings op label found old middle was [] 0 → Got found middle new done count
    → Reads settings op label found old new was done count
reads_more {count = count} reads got = record {
  middle = reads.middle;
  readied = reads.readied;
  told = told_trans 2 count reads.told got.told (λ tree given so. record { settled = given.settled; is = so.has.has }) (λ tree so first. record { has = so.has; first = first });
  is = reads.is;
  reads = reads.reads;
}

-- ---- what it comes to

old_by : (t : Bool) (h : History) (p q : ℕ) → OldBefore h p q → OldIf t h p q
old_by true h p q old = old
old_by false h p q old = tt

-- calls that left the state, by which an operation is answered that leaves it: so it is answered, or as where memory ran out, or as
-- where the last of them failed
module _ {settings : Settings} {h : History} {p q : ℕ} {op : Op} {label : Label} {reply : Reply} (quiet : Stutters h p q) (step : S3Step settings (s3_state (h.account_at p)) op label reply (s3_state (h.account_at p))) where
  old_until : (n : ℕ) → n ≤ q + 1 → OldBefore h p n
  old_until n near k from to = quiet.same k from (omega arith)

  pub quiet_own : Answers settings h p p q op label (steps_of op) reply
  quiet_own = let ordered = quiet.ordered in record {
    passes = passes_at_once quiet step;
    by = machine refl (subst (S3Step settings (s3_state (h.account_at p)) op label reply) (sym (quiet.same q ordered (omega arith))) step);
  }

  pub quiet_memory : Answers settings h p p q op label (steps_of op) Memory
  quiet_memory = record { passes = passes_at_once quiet step; by = memory refl (old_by (is_old_if_out_of_memory op) h p q (old_until q (omega arith))) }

  pub quiet_failed : LastFailed h p q → Answers settings h p p q op label (steps_of op) (Refused ServiceUnavailable)
  quiet_failed failed =
      let within = last_within failed in
      record { passes = passes_at_once quiet step; by = unavailable refl failed (old_by (is_old_if_failed op) h p (failed.last + 1) (old_until (failed.last + 1) (omega arith))) }

-- a read stands so in the history of the store, whose account was settled when it had counted `begins` calls
pub record TracedBy (settings : Settings) (op : Op) (label : Label) (found : Found) (old new : History) (was : Known) (done : List ℕ) (begins : ℕ) : Type 0 where
  pub settled : SettledBy new was old.called begins
  pub quiet : Stutters new begins new.called
  pub bound : new.called ≤ begins + amount (most_calls op (new.account_at begins))
  pub body : HasBody settings op label found (new.account_at begins)
  pub first : AreFirst found done (s3_state (new.account_at begins))

module _ {settings : Settings} {op : Op} {label : Label} {found : Found} {old now : History} {was : Known} {done : List ℕ} {count : ℕ} (reads : Reads settings op label found old now was done count) (met : Met (IsKnown was) old) where
  middle_met : Met (Given Any) reads.middle
  middle_met =
      let by = reads.readied.by met in
      record { observable = reads.readied.on.observable met.observable; sound = by.quiet.sound reads.middle.called by.quiet.ordered (omega arith); has = record { settled = by.settled; is = tt } }

  begun_at : now.account_at reads.middle.called ≡ present reads.middle
  begun_at = from_present reads.told.on middle_met.observable

  has_now : HasSoFar settings op label found done (now.account_at reads.middle.called)
  has_now = subst (HasSoFar settings op label found done) (sym begun_at) (reads.told.so middle_met)

  pub traced : count ≤ pieces found.length → TracedBy settings op label found old now was done reads.middle.called
  traced few =
      let by = reads.readied.by met in
      let first = by.quiet.ordered in
      let idles = reads.told.idles middle_met in
      let calls = reads.told.calls in
      let most = has_now.has.most in
      record {
        settled = settled_by_agree (reads.told.on.kept middle_met.observable) first (omega arith) by;
        quiet = idles.quiet;
        bound = omega arith;
        body = has_now.has;
        first = has_now.first;
      }

  pub still : now.faults_at now.called ≡ now.faults_at reads.middle.called
  still = (reads.told.idles middle_met).still

-- and another call was made, which told nothing
module _ {settings : Settings} {op : Op} {label : Label} {found : Found} {old now new : History} {was : Known} {done : List ℕ} {count : ℕ} {f : PlanFault} {T : Type 0} {P : State → T → Type 0}
    (reads : Reads settings op label found old now was done count) (asks : Asks (always 1) now new (Given (HasFound found)) (Tells P) (Err f)) where
  module _ (met : Met (IsKnown was) old) where
    now_met : Met (Given (HasFound found)) now
    now_met =
        let here = met_here reads.told (middle_met reads met) in
        let so = reads.told.so (middle_met reads met) in
        record {
          observable = here.observable;
          sound = here.sound;
          has = record { settled = here.has.settled; is = subst (λ tree. HasFound found (s3_state tree)) (sym (same_here reads.told (middle_met reads met))) so.has.has };
        }

    kept_now : Extends now.called now new
    kept_now = asks.grows.on.kept now_met.observable

    quiet_of : Keeps new now.called new.called (Tells P) (Err f) → Stutters new now.called new.called
    quiet_of keeps = by f keeps
      where
        by : (f : PlanFault) → Keeps new now.called new.called (Tells P) (Err f) → Stutters new now.called new.called
        by fault.Failed keeps = keeps.0
        by fault.Memory keeps = keeps.0
        by fault.Inconsistent never = absurd never

    quiet_new : Stutters new reads.middle.called new.called
    quiet_new = quiet_trans (quiet_agree kept_now (reads.told.idles (middle_met reads met)).quiet) (quiet_of (asks.effect now_met))

    still_new : new.faults_at now.called ≡ new.faults_at reads.middle.called
    still_new =
        let ordered = reads.told.on.ordered in
        kept_now.counts now.called (omega arith) ∙ still reads met ∙ sym (kept_now.counts reads.middle.called ordered)

    account_new : new.account_at reads.middle.called ≡ now.account_at reads.middle.called
    account_new = let ordered = reads.told.on.ordered in kept_now.accounts reads.middle.called ordered

    pub traced_more : count + 1 ≤ pieces found.length → TracedBy settings op label found old new was done reads.middle.called
    traced_more few =
        let by = reads.readied.by met in
        let first = by.quiet.ordered in
        let ordered = reads.told.on.ordered in
        let calls = reads.told.calls in
        let call = asks.grows.calls in
        let so : HasSoFar settings op label found done (new.account_at reads.middle.called) = subst (HasSoFar settings op label found done) (sym account_new) (has_now reads met) in
        let most = so.has.most in
        record {
          settled = settled_by_agree kept_now first (omega arith) (settled_by_agree (reads.told.on.kept (middle_met reads met).observable) first (omega arith) by);
          quiet = quiet_new;
          bound = omega arith;
          body = so.has;
          first = so.first;
        }

    -- as it is answered then
    pub failed_answers : f ≢ fault.Inconsistent → count + 1 ≤ pieces found.length → Answers settings new reads.middle.called reads.middle.called new.called op label (steps_of op) (reply_of (Err f))
    failed_answers other few = by f other (asks.effect now_met)
      where
        step : S3Step settings (s3_state (new.account_at reads.middle.called)) op label (found_reply found (traced_more few).body.body) (s3_state (new.account_at reads.middle.called))
        step = (traced_more few).body.step

        by : (f : PlanFault) → f ≢ fault.Inconsistent → Keeps new now.called new.called (Tells P) (Err f) → Answers settings new reads.middle.called reads.middle.called new.called op label (steps_of op) (reply_of (Err f))
        by fault.Failed other keeps = quiet_failed quiet_new step (failed_after (quiet_agree kept_now (reads.told.idles (middle_met reads met)).quiet) still_new keeps.1)
        by fault.Memory other keeps = quiet_memory quiet_new step
        by fault.Inconsistent other never = absurd never

    -- a store whose account is consistent isn't found inconsistent
    pub never_inconsistent : f ≡ fault.Inconsistent → ⊥
    never_inconsistent is = by f is (asks.effect now_met)
      where
        by : (f : PlanFault) → f ≡ fault.Inconsistent → Keeps new now.called new.called (Tells P) (Err f) → ⊥
        by fault.Failed is keeps = cc
        by fault.Memory is keeps = cc
        by fault.Inconsistent is never = never
