-- The loop over pages that are deleted.
use Rattle.std.specs.Prelude.{◌≡◌, ◌≤◌, ◌+◌, ℕ, IsTrue, List, [], Option, Some, None, Result, Ok, Err}
use Rattle.std.specs.Result.{IsErrAnd}
use Rattle.std.proofs.Common.{refl, sym, subst, ◌∙◌, arith}
use Rattle.gate_base.specs.Causes.{Rose}
use Rattle.swift_calls.specs.Account.{files}
use Rattle.swift_calls.specs.History.{History, present, Extends}
use Rattle.upload_records.specs.Native.{IsSettled}
use Rattle.account_calls.specs.declared.fault.PlanFault.{PlanFault}
use Rattle.account_calls.specs.declared.fault.PlanFault.TheVariants.{Failed, Memory, Inconsistent}
use Rattle.account_calls.specs.Fault.{CausesFault}
use Rattle.account_calls.specs.Stutters.{Stutters}
use Rattle.account_calls.specs.Calls.{always, by_account, GoesOn, Met, Keeps, Asks}
use Rattle.account_calls.specs.Purging.{AllBehind, MayGo, MayPurge, Touches, PaysPage, TellsAllGone, TellsPurged, left_after, purge_calls}
use Rattle.account_calls.proofs.Deletes.{touches_none, touches_trans}
use Rattle.account_calls.proofs.lemmas.Agree.{quiet_agree, quiet_trans, failed_after}
use Rattle.account_calls.proofs.lemmas.Faults.{err_is}
use Rattle.account_calls.proofs.lemmas.Idle.{none_made, goes_none, goes_trans}
use Rattle.account_calls.proofs.lemmas.Quiet.{told_here}

-- pages were deleted, and more is to be asked for behind the marker
pub record SoFar (a b : History) (folder bucket prefix marker : List ℕ) : Type 0 where
  pub quiet : Stutters b a.called b.called
  pub still : b.faults_at b.called ≡ b.faults_at a.called
  pub may : MayGo folder bucket prefix (present b)
  pub behind : AllBehind marker prefix (files (present b) folder)
  pub touches : Touches folder (present a) (present b)
  pub paid : b.called + purge_calls (present b) folder prefix ≤ a.called + purge_calls (present a) folder prefix

pub record Purging (a b : History) (folder bucket prefix marker : List ℕ) : Type 0 where
  pub on : GoesOn a b
  pub faults : b.faults ≡ a.faults
  pub settled : IsTrue a.observable → IsSettled (present a) → IsSettled (present b)
  pub seen : Met (MayPurge folder bucket prefix []) a → SoFar a b folder bucket prefix marker

pub purging_none : (a : History) (folder bucket prefix : List ℕ) → Purging a a folder bucket prefix []
purging_none a folder bucket prefix = record {
  on = goes_none a;
  faults = refl;
  settled = λ observable settled. settled;
  seen = λ met. record {
    quiet = none_made refl met.sound;
    still = refl;
    may = met.has.may;
    behind = met.has.behind;
    touches = touches_none folder (present a);
    paid = omega arith;
  };
}

module _ {a b : History} {folder bucket prefix marker : List ℕ} (purging : Purging a b folder bucket prefix marker) where
  met_here : Met (MayPurge folder bucket prefix []) a → Met (MayPurge folder bucket prefix marker) b
  met_here met =
      let seen = purging.seen met in
      let order = purging.on.ordered in
      record {
        observable = purging.on.observable met.observable;
        sound = seen.quiet.sound b.called order (omega arith);
        has = record { settled = purging.settled met.observable met.has.settled; there = seen.touches.stays ∙ met.has.there; may = seen.may; behind = seen.behind };
      }

  module _ {c : History} {told : Option (List ℕ)} (asks : Asks (always 1001) b c (MayPurge folder bucket prefix marker) (TellsPurged folder bucket prefix) (Ok told))
      (pays : PaysPage folder bucket prefix marker b c (Ok told)) where
    later : Met (MayPurge folder bucket prefix []) a → Extends b.called b c
    later met = asks.grows.on.kept (purging.on.observable met.observable)

    quiet_then : Met (MayPurge folder bucket prefix []) a → Stutters c a.called c.called
    quiet_then met = quiet_trans (quiet_agree (later met) (purging.seen met).quiet) (asks.effect (met_here met)).0

    still_then : Met (MayPurge folder bucket prefix []) a → c.faults_at c.called ≡ c.faults_at a.called
    still_then met =
        let order = purging.on.ordered in
        let kept = later met in
        (asks.effect (met_here met)).1 ∙ kept.counts b.called (omega arith) ∙ (purging.seen met).still ∙ sym (kept.counts a.called order)

    -- a page, and more behind it
    pub purging_more : (next : List ℕ) → told ≡ Some next → Purging a c folder bucket prefix next
    purging_more next is = record {
      on = goes_trans purging.on asks.grows.on;
      faults = asks.cause ∙ purging.faults;
      settled = λ observable settled. asks.settled (purging.on.observable observable) (purging.settled observable settled);
      seen = λ met.
          let seen = purging.seen met in
          let tells = subst (TellsPurged folder bucket prefix (present b) (present c)) is (told_here asks (met_here met)) in
          let before = seen.paid in
          let page : c.called + purge_calls (present c) folder prefix ≤ b.called + purge_calls (present b) folder prefix =
          subst (λ t. c.called + left_after (present c) folder prefix (Ok t) ≤ b.called + purge_calls (present b) folder prefix) is (pays (met_here met)) in
          record {
            quiet = quiet_then met;
            still = still_then met;
            may = tells.may;
            behind = tells.behind;
            touches = touches_trans seen.touches tells.touches;
            paid = omega (arith, before, page);
          };
    }

    -- the last page
    pub purging_end : told ≡ None → Asks (by_account (purge_calls (present a) folder prefix)) a c (MayPurge folder bucket prefix []) (TellsAllGone folder prefix) (Ok tt)
    purging_end is = record {
      grows = record {
        on = goes_trans purging.on asks.grows.on;
        calls = λ met.
            let before = (purging.seen met).paid in
            let page : c.called + 0 ≤ b.called + purge_calls (present b) folder prefix =
            subst (λ t. c.called + left_after (present c) folder prefix (Ok t) ≤ b.called + purge_calls (present b) folder prefix) is (pays (met_here met)) in
            omega (arith, before, page);
      };
      cause = asks.cause ∙ purging.faults;
      effect = λ met.
          let seen = purging.seen met in
          let tells = subst (TellsPurged folder bucket prefix (present b) (present c)) is (told_here asks (met_here met)) in
          let from : c.account_at a.called ≡ present a = ((goes_trans purging.on asks.grows.on).kept met.observable).accounts a.called (omega arith) in (
            quiet_then met,
            still_then met,
            record {
              touches = subst (λ tree. Touches folder tree (present c)) (sym from) (touches_trans seen.touches tells.touches);
              none = tells.none;
            },
          );
      settled = λ observable settled. asks.settled (purging.on.observable observable) (purging.settled observable settled);
    }

  -- a page that wasn't told
  pub purging_fault : {c : History} {f : PlanFault} → Asks (always 1001) b c (MayPurge folder bucket prefix marker) (TellsPurged folder bucket prefix) (Err f) → PaysPage folder bucket prefix marker b c (Err f)
      → (result : Result (Unit {0}) PlanFault) → IsErrAnd result (λ e. e ≡ f) → Asks (by_account (purge_calls (present a) folder prefix)) a c (MayPurge folder bucket prefix []) (TellsAllGone folder prefix) result
  purging_fault {c = c} {f = f} asks pays result is = subst (Asks (by_account (purge_calls (present a) folder prefix)) a c (MayPurge folder bucket prefix []) (TellsAllGone folder prefix)) (sym (err_is result f is)) (record {
    grows = record {
      on = goes_trans purging.on asks.grows.on;
      calls = λ met. let before = (purging.seen met).paid in let page = pays (met_here met) in omega (arith, before, page);
    };
    cause = cause_after f purging.faults asks.cause;
    effect = λ met. keeps_after f (asks.grows.on.kept (purging.on.observable met.observable)) (purging.seen met).quiet (purging.seen met).still (asks.effect (met_here met));
    settled = λ observable settled. asks.settled (purging.on.observable observable) (purging.settled observable settled);
  })
    where
      cause_after : (f : PlanFault) → b.faults ≡ a.faults → CausesFault {T = Option (List ℕ)} b.faults c.faults (Err f) → CausesFault {T = Unit {0}} a.faults c.faults (Err f)
      cause_after Failed same cause = subst (λ n. Rose n c.faults) same cause
      cause_after Memory same cause = cause ∙ same
      cause_after Inconsistent same cause = cause ∙ same

      keeps_after : (f : PlanFault) → Extends b.called b c → Stutters b a.called b.called → b.faults_at b.called ≡ b.faults_at a.called
          → Keeps c b.called c.called (TellsPurged folder bucket prefix) (Err f) → Keeps c a.called c.called (TellsAllGone folder prefix) (Err f)
      keeps_after Failed kept quiet still keeps =
          let order = quiet.ordered in
          let first = quiet_agree kept quiet in
          (quiet_trans first keeps.0, failed_after first (kept.counts b.called (omega arith) ∙ still ∙ sym (kept.counts a.called order)) keeps.1)
      keeps_after Memory kept quiet still keeps =
          let order = quiet.ordered in
          (quiet_trans (quiet_agree kept quiet) keeps.0, keeps.1 ∙ kept.counts b.called (omega arith) ∙ still ∙ sym (kept.counts a.called order))
      keeps_after Inconsistent kept quiet still never = never
