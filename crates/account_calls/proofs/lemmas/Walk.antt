-- The names of an account's containers, listed page by page.
use Rattle.std.proofs.Common.{◌≡◌, ℕ, ◌+◌, ◌*◌, ◌<◌, ◌≤◌, IsTrue, List, [], ◌∷◌, ◌++◌, codes, length, true, cond, Option, Some, None, Result, Ok, Err, refl, sym, ap, subst, ◌∙◌, inl, inr, arith}
use Rattle.std.specs.Result.{IsErrAnd}
use Rattle.std.specs.List.{AllByRecursion}
use Rattle.std.specs.Option.{option_map}
use Rattle.std.specs.Ordering.{is_gt}
use Rattle.std.specs.FinMap.{entries, keys, len, len-entries}
use Rattle.std.proofs.lemmas.List.{length-map, length-append}
use Rattle.gate_base.specs.Maps.{name_cmp}
use Rattle.s3_names.proofs.lemmas.BucketLemmas.{bucket_length}
use Rattle.swift_calls.specs.Account.{SwiftAccount}
use Rattle.swift_calls.specs.Limits.{IsMarker}
use Rattle.swift_calls.specs.History.{History, present, Extends}
use Rattle.upload_records.specs.Native.{IsSettled}
use Rattle.upload_records.specs.Consistent.{IsConsistent, IsFolderName, head_of}
use Rattle.upload_records.specs.Layout.{uploads_name, segments_name, gateway_name}
use Rattle.account_calls.specs.declared.fault.PlanFault.{PlanFault}
use Rattle.account_calls.specs.declared.fault.PlanFault.TheVariants.{Failed, Memory, Inconsistent}
use Rattle.account_calls.specs.Answers.{pages}
use Rattle.account_calls.specs.Fault.{CausesFault}
use Rattle.account_calls.specs.Listing.{after, TellsOf, TellsNames, TellsNext, MayListAfter}
use Rattle.account_calls.specs.Stutters.{Stutters}
use Rattle.account_calls.specs.Told.{Idles}
use Rattle.account_calls.specs.Calls.{always, by_account, Any, GoesOn, Met, Keeps, Asks}
use Rattle.account_calls.proofs.lemmas.Agree.{quiet_agree, quiet_trans, failed_after}
use Rattle.account_calls.proofs.lemmas.Faults.{err_is}
use Rattle.account_calls.proofs.lemmas.Idle.{none_made, goes_none, goes_trans}
use Rattle.account_calls.proofs.lemmas.Markers.{IsKey, keys_are, text_is_marker}

-- ---- all names stand after the empty marker

folder_filled : (name : List ℕ) → IsFolderName name → 0 < length name
unfolding uploads_name segments_name gateway_name
folder_filled name (inl is) = let long = bucket_length name is in omega arith
folder_filled name (inr (inl (bucket, beside))) =
    let long = bucket_length bucket beside.of_bucket in
    elim beside.is [
      | inl e ↦ omega (arith, ap length e, length-append bucket (codes "+uploads"))
      | inr e ↦ omega (arith, ap length e, length-append bucket (codes "+segments"))
    ]
folder_filled name (inr (inr e)) = omega (arith, ap length e)

filled_above : (name : List ℕ) → 0 < length name → is_gt (name_cmp name []) ≡ true
filled_above [] some = absurd (omega arith)
filled_above (b ∷ name) some = refl

all_after : (tree : SwiftAccount) → IsConsistent tree → (names : List (List ℕ)) → AllByRecursion (IsKey tree) names → after [] names ≡ names
all_after tree sound [] h = refl
all_after tree sound (name ∷ names) h =
    let key = h.0 in
    let filled = folder_filled name (sound.folders.names name (head_of key.0) (ap (option_map head_of) key.1)) in
    ap (λ t. cond t (name ∷ after [] names) (after [] names)) (filled_above name filled) ∙ ap (λ ns. name ∷ ns) (all_after tree sound names h.1)

pub keys_after : (tree : SwiftAccount) → IsConsistent tree → after [] (keys tree) ≡ keys tree
keys_after tree sound = all_after tree sound (keys tree) (keys_are tree)

pub length-keys : (tree : SwiftAccount) → length (keys tree) ≡ len tree
length-keys tree = length-map (entries tree) (λ e. e.0) ∙ sym (len-entries tree)

-- ---- stretches of calls

pub idles_none : (h : History) → IsConsistent (present h) → Idles h h.called h.called
idles_none h sound = record { quiet = none_made refl sound; still = refl; same = refl }

-- and then others, which are told by a later history
pub idles_trans : {b c : History} {p q r : ℕ} → p ≤ q → Extends q b c → Idles b p q → Idles c q r → Idles c p r
idles_trans {p = p} {q = q} order kept first then = record {
  quiet = quiet_trans (quiet_agree kept first.quiet) then.quiet;
  still = then.still ∙ kept.counts q (omega arith) ∙ first.still ∙ sym (kept.counts p order);
  same = then.same ∙ kept.accounts q (omega arith) ∙ first.same ∙ sym (kept.accounts p order);
}

-- a fault after calls that left the account
pub cause_after : (T U : Type 0) (before middle now : ℕ) (f : PlanFault) → middle ≡ before → CausesFault {T = T} middle now (Err f) → CausesFault {T = U} before now (Err f)
cause_after T U before middle now Failed same cause = subst (λ n. CausesFault {T = U} n now (Err Failed)) same cause
cause_after T U before middle now Memory same cause = cause ∙ same
cause_after T U before middle now Inconsistent same cause = cause ∙ same

pub keeps_after : (T U : Type 0) (P : SwiftAccount → T → Type 0) (Q : SwiftAccount → U → Type 0) (b c : History) (p q r : ℕ) (f : PlanFault) → p ≤ q → Extends q b c → Idles b p q
    → Keeps c q r (TellsOf P) (Err f) → Keeps c p r (TellsOf Q) (Err f)
keeps_after T U P Q b c p q r Failed order kept idles keeps =
    let quiet = quiet_agree kept idles.quiet in
    (quiet_trans quiet keeps.0, failed_after quiet (kept.counts q (omega arith) ∙ idles.still ∙ sym (kept.counts p order)) keeps.1)
keeps_after T U P Q b c p q r Memory order kept idles keeps =
    (quiet_trans (quiet_agree kept idles.quiet) keeps.0, keeps.1 ∙ kept.counts q (omega arith) ∙ idles.still ∙ sym (kept.counts p order))
keeps_after T U P Q b c p q r Inconsistent order kept idles never = never

-- so far the pages were listed up to the marker
pub record Seen (a b : History) (marker : List ℕ) (names : List (List ℕ)) : Type 0 where
  pub count : ℕ
  pub calls : b.called ≤ a.called + count
  pub idles : Idles b a.called b.called
  pub listed : names ++ after marker (keys (present a)) ≡ keys (present a)
  pub fewer : length (after marker (keys (present a))) + 1000 * count ≤ length (keys (present a))
  pub is_marker : IsMarker marker

pub record Walked (a b : History) (marker : List ℕ) (names : List (List ℕ)) : Type 0 where
  pub on : GoesOn a b
  pub faults : b.faults ≡ a.faults
  pub settled : IsTrue a.observable → IsSettled (present a) → IsSettled (present b)
  pub seen : Met Any a → Seen a b marker names

pub walked_none : (a : History) → Walked a a [] []
walked_none a = record {
  on = goes_none a;
  faults = refl;
  settled = λ observable settled. settled;
  seen = λ met. record {
    count = 0;
    calls = omega arith;
    idles = idles_none a met.sound;
    listed = keys_after (present a) met.sound;
    fewer = omega (arith, ap length (keys_after (present a) met.sound));
    is_marker = text_is_marker [] refl (omega arith);
  };
}

module _ {a b : History} {marker : List ℕ} {names : List (List ℕ)} (walked : Walked a b marker names) where
  met_here : Met Any a → Met (MayListAfter marker) b
  met_here met =
      let seen = walked.seen met in
      let order = walked.on.ordered in
      record {
        observable = walked.on.observable met.observable;
        sound = seen.idles.quiet.sound b.called order (omega arith);
        has = record { is_marker = seen.is_marker };
      }

  -- the account is still the one at the beginning
  same_here : Met Any a → present b ≡ present a
  same_here met = (walked.seen met).idles.same ∙ (walked.on.kept met.observable).accounts a.called (omega arith)

  module _ {new : List (List ℕ)} {c : History} {told : Option (List ℕ)} (asks : Asks (always 1) b c (MayListAfter marker) (TellsOf (TellsNext marker names new)) (Ok told)) where
    later : Met Any a → Extends b.called b c
    later met = asks.grows.on.kept (walked.on.observable met.observable)

    idles_then : Met Any a → Idles c a.called c.called
    idles_then met =
        let keeps = asks.effect (met_here met) in
        idles_trans walked.on.ordered (later met) (walked.seen met).idles (record { quiet = keeps.0; still = keeps.1; same = keeps.2.same })

    tells_then : Met Any a → TellsNext marker names new (present a) told
    tells_then met =
        let keeps = asks.effect (met_here met) in
        subst (λ tree. TellsNext marker names new tree told) ((later met).accounts b.called (omega arith) ∙ same_here met) keeps.2.of_account

    -- a page, and more behind it
    pub walked_more : (next : List ℕ) → told ≡ Some next → Walked a c next new
    walked_more next is = record {
      on = goes_trans walked.on asks.grows.on;
      faults = asks.cause ∙ walked.faults;
      settled = λ observable settled. asks.settled (walked.on.observable observable) (walked.settled observable settled);
      seen = λ met.
          let seen = walked.seen met in
          let tells = subst (TellsNext marker names new (present a)) is (tells_then met) in
          let calls = asks.grows.calls in
          let before = seen.calls in
          let fewer = seen.fewer in
          let more = tells.fewer in
          record {
            count = seen.count + 1;
            calls = omega arith;
            idles = idles_then met;
            listed = tells.names ∙ seen.listed;
            fewer = omega arith;
            is_marker = tells.is_marker;
          };
    }

    -- the last page
    pub walked_end : told ≡ None → Asks (by_account (pages (len (present a)))) a c Any (TellsOf TellsNames) (Ok new)
    walked_end is = record {
      grows = record {
        on = goes_trans walked.on asks.grows.on;
        calls = λ met.
            let seen = walked.seen met in
            let calls = asks.grows.calls in
            let before = seen.calls in
            let fewer = seen.fewer in
            omega (arith, length-keys (present a));
      };
      cause = asks.cause ∙ walked.faults;
      effect = λ met.
          let seen = walked.seen met in
          let idles = idles_then met in
          let tells : new ≡ names ++ after marker (keys (present a)) = subst (TellsNext marker names new (present a)) is (tells_then met) in
          let from : c.account_at a.called ≡ present a = ((goes_trans walked.on asks.grows.on).kept met.observable).accounts a.called (omega arith) in
          (idles.quiet, idles.still, record { of_account = tells ∙ seen.listed ∙ ap keys (sym from); same = idles.same });
      settled = λ observable settled. asks.settled (walked.on.observable observable) (walked.settled observable settled);
    }

  -- a page that wasn't told
  pub walked_fault : {T : Type 0} {P : SwiftAccount → T → Type 0} {c : History} {f : PlanFault} → Asks (always 1) b c (MayListAfter marker) (TellsOf P) (Err f)
      → (result : Result (List (List ℕ)) PlanFault) → IsErrAnd result (λ e. e ≡ f) → Asks (by_account (pages (len (present a)))) a c Any (TellsOf TellsNames) result
  walked_fault {T = T} {P = P} {c = c} {f = f} asks result is = subst (Asks (by_account (pages (len (present a)))) a c Any (TellsOf TellsNames)) (sym (err_is result f is)) (record {
    grows = record {
      on = goes_trans walked.on asks.grows.on;
      calls = λ met.
          let seen = walked.seen met in
          let calls = asks.grows.calls in
          let before = seen.calls in
          let fewer = seen.fewer in
          omega (arith, length-keys (present a));
    };
    cause = cause_after T (List (List ℕ)) a.faults b.faults c.faults f walked.faults asks.cause;
    effect = λ met. keeps_after T (List (List ℕ)) P TellsNames b c a.called b.called c.called f walked.on.ordered (asks.grows.on.kept (walked.on.observable met.observable)) (walked.seen met).idles (asks.effect (met_here met));
    settled = λ observable settled. asks.settled (walked.on.observable observable) (walked.settled observable settled);
  })
