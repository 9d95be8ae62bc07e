-- An operation: its store is settled where that is not known to be needless, and then it is answered.
use Rattle.std.specs.Prelude.{◌≡◌, ◌≤◌, ◌⊎◌, ℕ, ◌+◌, true, false, IsTrue, [], Some, Result, Ok, Err}
use Rattle.std.proofs.Common.{refl, sym, ap, subst, ◌∙◌, inl, inr, arith}
use Rattle.gate_base.specs.Causes.{Rose}
use Rattle.s3_machine.specs.declared.code.Code.TheVariants.{ServiceUnavailable}
use Rattle.s3_machine.specs.declared.operation.Label.{Label}
use Rattle.s3_machine.specs.declared.operation.Settings.{Settings}
use Rattle.s3_machine.specs.declared.operation.CopiesOp.{CopiesOp}
use Rattle.s3_machine.specs.declared.operation.ObjectsOp.{ObjectsOp}
use Rattle.s3_machine.specs.declared.operation.UploadsOp.{UploadsOp}
use Rattle.s3_machine.specs.declared.operation.Op.{Op}
use Rattle.s3_machine.specs.declared.operation.Op.TheVariants as op_as
use Rattle.s3_machine.specs.Ops.{GetObject}
use Rattle.s3_machine.specs.declared.operation.Reply.{Reply}
use Rattle.s3_machine.specs.declared.operation.Reply.TheVariants as answer
use Rattle.s3_machine.specs.Shown.{IsShowable}
use Rattle.swift_calls.specs.Account.{SwiftAccount}
use Rattle.swift_calls.specs.History.{History, present}
use Rattle.upload_records.specs.Native.{IsSettled}
use Rattle.account_calls.specs.declared.state.Known.{Known}
use Rattle.account_calls.specs.declared.state.Known.TheVariants as known
use Rattle.account_calls.specs.Refusals.{IsWithinShown, most_refused}
use Rattle.account_calls.specs.Answers.{most_calls, most_settling}
use Rattle.account_calls.specs.Calls.{Bound, always, by_account, amount, IsWithin, GoesOn, Met, Keeps, Any}
use Rattle.account_calls.specs.Fault.{CausesFault}
use Rattle.account_calls.specs.Stutters.{Stutters, LastFailed}
use Rattle.account_calls.specs.Known.{IsKnown, Knows}
use Rattle.account_calls.proofs.lemmas.Idle.{none_made, goes_none, goes_trans}
use Rattle.account_calls.specs.Plan.{reply_of, Answered}
use Rattle.recovery.specs.declared.state.SettleFault.{SettleFault}
use Rattle.recovery.specs.declared.state.SettleFault.TheVariants.{Failed, Memory, Inconsistent}
use Rattle.recovery.specs.Settling.{settle_fault, as_plan, SettlesIt, Settles}
use Rattle.s3_requests.specs.declared.meant.Meant.{Meant}
use Rattle.s3_requests.specs.declared.meant.Meant.TheVariants as meant
use Rattle.gateway.specs.Exchange.{AsksBytes, IsFault, unsettled, answered, Operated}
use Rattle.account_calls.proofs.lemmas.Told.{told_as}
use Rattle.planner.specs.declared.reading.Reading.{Reading}
use Rattle.planner.specs.declared.reading.Reading.TheVariants.{Whole, Pieces}
use Rattle.planner.specs.Reading.{AnsweredOrFound, Finds, GivesNoByte, HasNoByte, LeavesBytes, ReadsBytes}
use Rattle.planner.specs.declared.reading.Found.{Found}
use Rattle.gateway.specs.Reading.{Readied, Reads, PerformsOrFinds, OperatedOrReads, IsReady}
use Rattle.gateway.proofs.lemmas.Map.{settled_by_agree}

-- ---- histories that go on

-- the account that the history went on from
pub from_present : {old new : History} → (on : GoesOn old new) → (observable : IsTrue old.observable) → new.account_at old.called ≡ present old
from_present {old = old} on observable = (on.kept observable).accounts old.called (omega arith)

pub within_amount : {premises : Type 0} (most : Bound) (p q : ℕ) → IsWithin most premises p q → premises → q ≤ p + amount most
within_amount (always n) p q within met = within
within_amount (by_account n) p q within met = within met

pub rose_later : (before then now : ℕ) → before ≤ then → Rose then now → Rose before now
rose_later before then now near rose = omega arith

-- ---- the store as the operation finds it

-- it was known to be
at_once : (h : History) → Readied h h known.Settled
at_once h = record {
  on = goes_none h;
  still = refl;
  needs_none = λ is. refl;
  by = λ met. record {
    needs_none = λ is. refl;
    quiet = none_made refl met.sound;
    no_fault = refl;
    within = omega arith;
    settled = met.has refl;
  };
  settled = λ observable is. is refl;
}

pub readied_at_once : {old middle : History} {was : Known} → was ≡ known.Settled → middle ≡ old → Readied old middle was
readied_at_once {old = old} is same = subst {A = History × Known} (λ x. Readied old x.0 x.1) (λ i. (sym same i, sym is i)) (at_once old)

-- nothing is given of the account
met_any : {given : SwiftAccount → Type 0} {h : History} → Met given h → Met Any h
met_any met = record { observable = met.observable; sound = met.sound; has = tt }

-- no more calls than by which it may be settled
settles_within : {old middle : History} {result : Result (Unit {0}) SettleFault} → Settles old middle result → Met (IsKnown known.Unsure) old → middle.called ≤ old.called + amount (most_settling (middle.account_at old.called))
settles_within {old = old} {middle = middle} settles met =
    subst (λ tree. middle.called ≤ old.called + amount (most_settling tree)) (sym (from_present settles.asks.grows.on met.observable))
    (within_amount (most_settling (present old)) old.called middle.called settles.asks.grows.calls (met_any met))

by_settling : {old middle : History} → Settles old middle (Ok tt) → Readied old middle known.Unsure
by_settling {old = old} {middle = middle} settles = record {
  on = settles.asks.grows.on;
  still = settles.asks.cause;
  needs_none = λ is. absurd (let no : known.Unsure ≡ known.Settled = is in cc);
  by = λ met.
      let told = settles.asks.effect (met_any met) in
      record {
        needs_none = λ is. absurd (let no : known.Unsure ≡ known.Settled = is in cc);
        quiet = told.0;
        no_fault = told.1;
        within = settles_within settles met;
        settled = told.2;
      };
  settled = λ observable is. settles.done observable refl;
}

pub readied_by : {old middle middle' : History} {was : Known} → was ≡ known.Unsure → middle' ≡ middle → Settles old middle (Ok tt) → Readied old middle' was
readied_by {old = old} is same settles = subst {A = History × Known} (λ x. Readied old x.0 x.1) (λ i. (sym same i, sym is i)) (by_settling settles)

-- ---- over a store that was settled

-- it is, where it is observable now: so it was before, when what was known of it was so
pub settled_now : {old middle : History} {was : Known} → Readied old middle was → Knows was old → IsTrue middle.observable → IsSettled (present middle)
settled_now readied known observable = let before = readied.on.told observable in readied.settled before (known before)

pub operated_by : {settings : Settings} {op : Op} {label : Label} {old middle new : History} {was now : Known} {reply : Reply} → Readied old middle was
    → Answered (most_calls op (present middle)) middle new settings op label now reply → GivesNoByte reply → Operated settings op label old new was now reply
operated_by {settings = settings} {op = op} {label = label} {old = old} {middle = middle} {new = new} {now = now} {reply = reply} readied given bodiless = record {
  on = goes_trans readied.on given.grows.on;
  showable = given.showable;
  caused = record {
    unavailable = λ is. rose_later old.faults middle.faults new.faults readied.on.faults (given.unavailable is);
    stops = λ is. subst (λ n. IsWithinShown (most_refused op reply) n new.called) (readied.needs_none is) given.refused;
    unsure = λ is. inr (given.unsure is);
    bodiless = inl bodiless;
  };
  effect = λ met.
      let by = readied.by met in
      let observable = readied.on.observable met.observable in
      let kept = given.grows.on.kept observable in
      let ordered = given.grows.on.ordered in
      let found : Met IsSettled middle = record { observable = observable; sound = by.quiet.sound middle.called by.quiet.ordered (omega arith); has = by.settled } in
      let told = given.effect found in
      let first = readied.on.ordered in
      let faults = (goes_trans readied.on given.grows.on).faults in (
        record { from = old.called; begins = middle.called; committed = told.0; to = new.called; asked = Some (record { op = op; label = label }); takes = told.1 },
        record { from = refl; settles = first; first = told.2.passes.after_p; last = told.2.passes.up_to_q; to = refl; asked = refl; faults = faults },
        answered (settled_by_agree kept first (omega arith) by) told.2 (given.beside found)
            (subst (λ tree. new.called ≤ middle.called + amount (most_calls op tree)) (sym (kept.accounts middle.called (omega arith))) (within_amount (most_calls op (present middle)) middle.called new.called given.grows.calls found))
            given.refused,
      );
  known = λ observable is. given.knows (readied.on.observable observable) (readied.settled observable is);
}

-- ---- over one that could not be settled

-- what is answered then
abbrev pub fault_reply : SettleFault → Reply
fault_reply fault = reply_of (Err (settle_fault fault))

fault_shown : (fault : SettleFault) → IsShowable (fault_reply fault)
fault_shown Failed = tt
fault_shown Memory = tt
fault_shown (Inconsistent container name) = tt

fault_bodiless : (fault : SettleFault) → GivesNoByte (fault_reply fault)
fault_bodiless Failed = tt
fault_bodiless Memory = tt
fault_bodiless (Inconsistent container name) = tt

fault_known : (fault : SettleFault) → IsFault (fault_reply fault)
fault_known Failed = inl refl
fault_known Memory = inr (inr refl)
fault_known (Inconsistent container name) = inr (inl refl)

fault_cause : (fault : SettleFault) (before now : ℕ) → CausesFault before now (as_plan (Err fault)) → fault_reply fault ≡ answer.Refused ServiceUnavailable → Rose before now
fault_cause Failed before now cause is = cause
fault_cause Memory before now cause is = cc
fault_cause (Inconsistent container name) before now cause is = cc

fault_keeps : (fault : SettleFault) (h : History) (p q : ℕ) → Keeps h p q SettlesIt (as_plan (Err fault))
    → Stutters h p q × (((fault_reply fault ≡ answer.Refused ServiceUnavailable) × LastFailed h p q) ⊎ (fault_reply fault ≡ answer.Memory))
fault_keeps Failed h p q keeps = (keeps.0, inl (refl, keeps.1))
fault_keeps Memory h p q keeps = (keeps.0, inr refl)
fault_keeps (Inconsistent container name) h p q keeps = absurd keeps

not_settled : {settings : Settings} {op : Op} {label : Label} {old new : History} (fault : SettleFault) → Settles old new (Err fault)
    → Operated settings op label old new known.Unsure known.Unsure (fault_reply fault)
not_settled {op = op} {label = label} {old = old} {new = new} fault settles = record {
  on = settles.asks.grows.on;
  showable = fault_shown fault;
  caused = record {
    unavailable = λ is. fault_cause fault old.faults new.faults settles.asks.cause is;
    stops = λ is. absurd (let no : known.Unsure ≡ known.Settled = is in cc);
    unsure = λ is. inl (refl, fault_known fault);
    bodiless = inl (fault_bodiless fault);
  };
  effect = λ met.
      let keeps = fault_keeps fault new old.called new.called (settles.asks.effect (met_any met)) in
      let ordered = settles.asks.grows.on.ordered in (
        record { from = old.called; begins = new.called; committed = new.called; to = new.called; asked = Some (record { op = op; label = label }); takes = 0 },
        record { from = refl; settles = ordered; first = omega arith; last = omega arith; to = refl; asked = refl; faults = settles.asks.grows.on.faults },
        unsettled (record { needs_some = refl; quiet = keeps.0; within = settles_within settles met; says = keeps.1 }) refl refl,
      );
  known = λ observable had is. absurd (let no : known.Unsure ≡ known.Settled = is in cc);
}

pub operated_unsettled : {settings : Settings} {op : Op} {label : Label} {old new : History} {was : Known} {given : Reply} (fault : SettleFault) → was ≡ known.Unsure → given ≡ fault_reply fault → Settles old new (Err fault)
    → Operated settings op label old new was was given
operated_unsettled {settings = settings} {op = op} {label = label} {old = old} {new = new} fault is says settles =
    subst {A = Known × Reply} (λ x. Operated settings op label old new x.0 x.0 x.1) (λ i. (sym is i, sym says i)) (not_settled fault settles)

-- ---- over one that was, an operation was answered or its object found

pub performs_or_finds : (a b : History) (settings : Settings) (op : Op) (label : Label) (reading : Reading) → AnsweredOrFound (most_calls op (present a)) a b settings op label reading → PerformsOrFinds a b settings op label known.Settled reading
performs_or_finds a b settings op label (Whole reply) told = told
performs_or_finds a b settings op label (Pieces found) finds = (refl, finds)

-- a read was begun
pub reads_begun : {settings : Settings} {op : Op} {label : Label} {found : Found} {old middle new : History} {was : Known} → Readied old middle was → Finds 2 middle new settings Any op label found → Reads settings op label found old new was [] 0
reads_begun {middle = middle} readied finds = record {
  middle = middle;
  readied = readied;
  told = told_as finds.told (λ tree has. record { has = has; first = λ o there. refl });
  is = finds.is;
  reads = finds.reads;
}

pub operated_or_reads : (settings : Settings) (op : Op) (label : Label) (old middle new : History) (was now : Known) (reading : Reading) → Readied old middle was → PerformsOrFinds middle new settings op label now reading
    → HasNoByte reading → OperatedOrReads settings op label old new was now reading
operated_or_reads settings op label old middle new was now (Whole reply) readied told bodiless = operated_by readied told bodiless
operated_or_reads settings op label old middle new was now (Pieces found) readied (is, finds) bodiless = (is, reads_begun readied finds)

-- what is to be sent can be
pub ready_of : (settings : Settings) (op : Op) (label : Label) (old new : History) (was now : Known) (reading : Reading) → Knows was old → OperatedOrReads settings op label old new was now reading → IsReady new reading
ready_of settings op label old new was now (Whole reply) known operated = operated.showable
ready_of settings op label old new was now (Pieces found) known (is, reads) = (
  reads.is,
  λ observable.
      let before = (goes_trans reads.readied.on reads.told.on).told observable in
      reads.told.settled (reads.readied.on.observable before) (reads.readied.settled before (known before)),
)

-- ---- the bytes that a read asks for are still to be got

pub objects_read_none : {op : Op} {asked : ObjectsOp} → op ≡ op_as.OnObjects asked → ReadsBytes op → ⊥
objects_read_none {asked = asked} is (bucket, key, range, conditions, part, shown, reads) = let no : op_as.OnObjects asked ≡ GetObject bucket key range conditions part shown = sym is ∙ reads in cc

pub uploads_read_none : {op : Op} {asked : UploadsOp} → op ≡ op_as.OnUploads asked → ReadsBytes op → ⊥
uploads_read_none {asked = asked} is (bucket, key, range, conditions, part, shown, reads) = let no : op_as.OnUploads asked ≡ GetObject bucket key range conditions part shown = sym is ∙ reads in cc

pub copies_read_none : {op : Op} {asked : CopiesOp} → op ≡ op_as.OnCopies asked → ReadsBytes op → ⊥
copies_read_none {asked = asked} is (bucket, key, range, conditions, part, shown, reads) = let no : op_as.OnCopies asked ≡ GetObject bucket key range conditions part shown = sym is ∙ reads in cc

pub asks_reads : (means : Meant) (op : Op) → means ≡ meant.Op op → AsksBytes means → ReadsBytes op
asks_reads means op is (bucket, key, range, conditions, part, shown, asks) = (bucket, key, range, conditions, part, shown, let same : meant.Op op ≡ meant.Op (GetObject bucket key range conditions part shown) = sym is ∙ asks in cc)

pub unsettled_leaves : (fault : SettleFault) → LeavesBytes (Whole (fault_reply fault))
unsettled_leaves Failed = refl
unsettled_leaves Memory = refl
unsettled_leaves (Inconsistent container name) = refl
