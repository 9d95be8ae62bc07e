-- The loop over pages that are swept.
use Rattle.std.specs.Prelude.{◌≡◌, ◌≤◌, ◌<◌, ◌+◌, ℕ, Bool, IsTrue, List, [], length, Option, Some, None, Result, Ok, Err}
use Rattle.std.specs.Result.{IsErrAnd}
use Rattle.std.proofs.Common.{refl, sym, subst, ◌∙◌, arith}
use Rattle.gate_base.specs.Causes.{Rose}
use Rattle.swift_calls.specs.Account.{files}
use Rattle.swift_calls.specs.History.{History, present, Extends}
use Rattle.upload_records.specs.Native.{IsSettled}
use Rattle.account_calls.specs.declared.fault.PlanFault.{PlanFault}
use Rattle.account_calls.specs.declared.fault.PlanFault.TheVariants.{Failed, Memory, Inconsistent}
use Rattle.account_calls.specs.Fault.{CausesFault}
use Rattle.account_calls.specs.Stutters.{Stutters}
use Rattle.account_calls.specs.Calls.{always, by_account, GoesOn, Met, Keeps, Asks}
use Rattle.account_calls.specs.Purging.{Touches}
use Rattle.leftovers.proofs.lemmas.Touched.{touches_none, touches_trans}
use Rattle.account_calls.proofs.lemmas.Agree.{quiet_agree, quiet_trans, failed_after}
use Rattle.account_calls.proofs.lemmas.Faults.{err_is}
use Rattle.account_calls.proofs.lemmas.Idle.{none_made, goes_none, goes_trans}
use Rattle.account_calls.proofs.lemmas.Quiet.{told_here}
use Rattle.leftovers.specs.Sweeping.{OthersStay, passing, AllBehind, MayGo, MaySweep, PaysPage, TellsAll, TellsPage, LeftBehind, left_by, sweep_calls}
use Rattle.leftovers.proofs.NoneLeft.{none_length}

-- pages were swept, and more is to be asked for behind the marker
pub record SoFar (a b : History) (folder bucket : List ℕ) (test : List ℕ → Bool) (marker : List ℕ) (count : ℕ) : Type 0 where
  pub quiet : Stutters b a.called b.called
  pub still : b.faults_at b.called ≡ b.faults_at a.called
  pub may : MayGo folder bucket test (present b)
  pub behind : AllBehind marker test (files (present b) folder)
  pub touches : Touches folder (present a) (present b)
  pub fewer : length (passing test (files (present a) folder)) ≡ count + length (passing test (files (present b) folder))
  pub stays : OthersStay folder test (present a) (present b)
  pub paid : b.called + sweep_calls (present b) folder test marker ≤ a.called + sweep_calls (present a) folder test []

pub record Walked (a b : History) (folder bucket : List ℕ) (test : List ℕ → Bool) (marker : List ℕ) (count : ℕ) : Type 0 where
  pub on : GoesOn a b
  pub faults : b.faults ≡ a.faults
  pub settled : IsTrue a.observable → IsSettled (present a) → IsSettled (present b)
  pub counted : a.called + count ≤ b.called
  pub seen : Met (MaySweep folder bucket test []) a → SoFar a b folder bucket test marker count

pub walked_none : (a : History) (folder bucket : List ℕ) (test : List ℕ → Bool) → Walked a a folder bucket test [] 0
walked_none a folder bucket test = record {
  on = goes_none a;
  faults = refl;
  settled = λ observable settled. settled;
  counted = omega arith;
  seen = λ met. record {
    quiet = none_made refl met.sound;
    still = refl;
    may = met.has.may;
    behind = met.has.behind;
    touches = touches_none folder (present a);
    fewer = omega arith;
    stays = λ name not. refl;
    paid = omega arith;
  };
}

module _ {a b : History} {folder bucket : List ℕ} {test : List ℕ → Bool} {marker : List ℕ} {count : ℕ} (walked : Walked a b folder bucket test marker count) where
  met_here : Met (MaySweep folder bucket test []) a → Met (MaySweep folder bucket test marker) b
  met_here met =
      let seen = walked.seen met in
      let order = walked.on.ordered in
      record {
        observable = walked.on.observable met.observable;
        sound = seen.quiet.sound b.called order (omega arith);
        has = record { settled = walked.settled met.observable met.has.settled; there = seen.touches.stays ∙ met.has.there; may = seen.may; behind = seen.behind };
      }

  module _ {c : History} {told : ℕ × Option (List ℕ)} (asks : Asks (always 1001) b c (MaySweep folder bucket test marker) (TellsPage folder bucket test marker) (Ok told))
      (pays : PaysPage folder bucket test marker b c (Ok told)) (called : b.called + told.0 < c.called) where
    later : Met (MaySweep folder bucket test []) a → Extends b.called b c
    later met = asks.grows.on.kept (walked.on.observable met.observable)

    quiet_then : Met (MaySweep folder bucket test []) a → Stutters c a.called c.called
    quiet_then met = quiet_trans (quiet_agree (later met) (walked.seen met).quiet) (asks.effect (met_here met)).0

    still_then : Met (MaySweep folder bucket test []) a → c.faults_at c.called ≡ c.faults_at a.called
    still_then met =
        let order = walked.on.ordered in
        let kept = later met in
        (asks.effect (met_here met)).1 ∙ kept.counts b.called (omega arith) ∙ (walked.seen met).still ∙ sym (kept.counts a.called order)

    tells_then : Met (MaySweep folder bucket test []) a → TellsPage folder bucket test marker (present b) (present c) told
    tells_then met = told_here asks (met_here met)

    -- a page, and more behind it
    pub walked_more : (next : List ℕ) → told.1 ≡ Some next → Walked a c folder bucket test next (count + told.0)
    walked_more next is = record {
      on = goes_trans walked.on asks.grows.on;
      faults = asks.cause ∙ walked.faults;
      settled = λ observable settled. asks.settled (walked.on.observable observable) (walked.settled observable settled);
      counted = let before = walked.counted in omega (arith, before, called);
      seen = λ met.
          let seen = walked.seen met in
          let tells = tells_then met in
          let left = subst (LeftBehind folder bucket test marker (present b) (present c)) is tells.left in
          let before = seen.paid in
          let fewer = seen.fewer in
          let fewer_then = tells.sweeps.fewer in
          let page : c.called + sweep_calls (present c) folder test next ≤ b.called + sweep_calls (present b) folder test marker =
          subst (λ t. c.called + left_by (present c) folder test t ≤ b.called + sweep_calls (present b) folder test marker) is (pays (met_here met)) in
          record {
            quiet = quiet_then met;
            still = still_then met;
            may = left.may;
            behind = left.behind;
            touches = touches_trans seen.touches tells.sweeps.touches;
            fewer = omega (arith, fewer, fewer_then);
            stays = λ name not. tells.sweeps.stays name not ∙ seen.stays name not;
            paid = omega (arith, before, page);
          };
    }

    -- the last page
    pub walked_end : told.1 ≡ None → Asks (by_account (sweep_calls (present a) folder test [])) a c (MaySweep folder bucket test []) (TellsAll folder test) (Ok (count + told.0))
    walked_end is = record {
      grows = record {
        on = goes_trans walked.on asks.grows.on;
        calls = λ met.
            let before = (walked.seen met).paid in
            let page : c.called + 0 ≤ b.called + sweep_calls (present b) folder test marker =
            subst (λ t. c.called + left_by (present c) folder test t ≤ b.called + sweep_calls (present b) folder test marker) is (pays (met_here met)) in
            omega (arith, before, page);
      };
      cause = asks.cause ∙ walked.faults;
      effect = λ met.
          let seen = walked.seen met in
          let tells = tells_then met in
          let none = subst (LeftBehind folder bucket test marker (present b) (present c)) is tells.left in
          let fewer = seen.fewer in
          let fewer_then = tells.sweeps.fewer in
          let zero = none_length test (files (present c) folder) none in
          let from : c.account_at a.called ≡ present a = ((goes_trans walked.on asks.grows.on).kept met.observable).accounts a.called (omega arith) in (
            quiet_then met,
            still_then met,
            subst (λ tree. TellsAll folder test tree (present c) (count + told.0)) (sym from) (record {
              touches = touches_trans seen.touches tells.sweeps.touches;
              counted = omega (arith, fewer, fewer_then, zero);
              none = none;
              stays = λ name not. tells.sweeps.stays name not ∙ seen.stays name not;
            }),
          );
      settled = λ observable settled. asks.settled (walked.on.observable observable) (walked.settled observable settled);
    }

    pub counted_then : a.called + (count + told.0) ≤ c.called
    counted_then = let before = walked.counted in omega (arith, before, called)

  -- a page that wasn't told
  pub walked_fault : {c : History} {f : PlanFault} → Asks (always 1001) b c (MaySweep folder bucket test marker) (TellsPage folder bucket test marker) (Err f) → PaysPage folder bucket test marker b c (Err f)
      → (result : Result ℕ PlanFault) → IsErrAnd result (λ e. e ≡ f) → Asks (by_account (sweep_calls (present a) folder test [])) a c (MaySweep folder bucket test []) (TellsAll folder test) result
  walked_fault {c = c} {f = f} asks pays result is = subst (Asks (by_account (sweep_calls (present a) folder test [])) a c (MaySweep folder bucket test []) (TellsAll folder test)) (sym (err_is result f is)) (record {
    grows = record {
      on = goes_trans walked.on asks.grows.on;
      calls = λ met. let before = (walked.seen met).paid in let page = pays (met_here met) in omega (arith, before, page);
    };
    cause = cause_after f walked.faults asks.cause;
    effect = λ met. keeps_after f (asks.grows.on.kept (walked.on.observable met.observable)) (walked.seen met).quiet (walked.seen met).still (asks.effect (met_here met));
    settled = λ observable settled. asks.settled (walked.on.observable observable) (walked.settled observable settled);
  })
    where
      cause_after : (f : PlanFault) → b.faults ≡ a.faults → CausesFault {T = ℕ × Option (List ℕ)} b.faults c.faults (Err f) → CausesFault {T = ℕ} a.faults c.faults (Err f)
      cause_after Failed same cause = subst (λ n. Rose n c.faults) same cause
      cause_after Memory same cause = cause ∙ same
      cause_after Inconsistent same cause = cause ∙ same

      keeps_after : (f : PlanFault) → Extends b.called b c → Stutters b a.called b.called → b.faults_at b.called ≡ b.faults_at a.called
          → Keeps c b.called c.called (TellsPage folder bucket test marker) (Err f) → Keeps c a.called c.called (TellsAll folder test) (Err f)
      keeps_after Failed kept quiet still keeps =
          let order = quiet.ordered in
          let first = quiet_agree kept quiet in
          (quiet_trans first keeps.0, failed_after first (kept.counts b.called (omega arith) ∙ still ∙ sym (kept.counts a.called order)) keeps.1)
      keeps_after Memory kept quiet still keeps =
          let order = quiet.ordered in
          (quiet_trans (quiet_agree kept quiet) keeps.0, keeps.1 ∙ kept.counts b.called (omega arith) ∙ still ∙ sym (kept.counts a.called order))
      keeps_after Inconsistent kept quiet still never = never
