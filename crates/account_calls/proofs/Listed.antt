-- The names of the containers, and then the buckets among them.
use Rattle.std.proofs.Common.{◌≡◌, ℕ, ◌+◌, ◌≤◌, List, map, length, Result, Ok, Err, sym, ap, subst, ◌∙◌, arith}
use Rattle.std.specs.List.{filter}
use Rattle.std.specs.FinMap.{keys, len}
use Rattle.s3_names.specs.Bucket.{is_bucket}
use Rattle.s3_machine.specs.declared.items.BucketItem.{BucketItem}
use Rattle.s3_machine.specs.Step.{bucket_items}
use Rattle.swift_calls.specs.History.{History, present}
use Rattle.upload_records.specs.Native.{IsSettled, s3_state}
use Rattle.account_calls.specs.declared.fault.PlanFault.{PlanFault}
use Rattle.account_calls.specs.declared.fault.PlanFault.TheVariants.{Failed, Memory, Inconsistent}
use Rattle.account_calls.specs.Answers.{pages}
use Rattle.account_calls.specs.Listing.{TellsOf, TellsNames, TellsItems, TellsBuckets, HasNames, item_at}
use Rattle.account_calls.specs.Calls.{always, by_account, Any, Met, Keeps, Asks, Tells}
use Rattle.account_calls.proofs.Made.{bucket_items_are, len_is}
use Rattle.account_calls.proofs.lemmas.Idle.{goes_trans}
use Rattle.account_calls.specs.Told.{Idles}
use Rattle.account_calls.proofs.lemmas.Walk.{idles_trans, cause_after, keeps_after}

module _ {a b : History} {names : List (List ℕ)} (first : Asks (by_account (pages (len (present a)))) a b Any (TellsOf TellsNames) (Ok names)) where
  -- a settled account is any
  met_any : Met IsSettled a → Met Any a
  met_any met = record { observable = met.observable; sound = met.sound; has = tt }

  idles_first : Met IsSettled a → Idles b a.called b.called
  idles_first met = let keeps = first.effect (met_any met) in record { quiet = keeps.0; still = keeps.1; same = keeps.2.same }

  same_first : Met IsSettled a → present b ≡ present a
  same_first met = let order = first.grows.on.ordered in (idles_first met).same ∙ (first.grows.on.kept met.observable).accounts a.called (omega arith)

  named : Met IsSettled a → names ≡ keys (present a)
  named met =
      let order = first.grows.on.ordered in
      (first.effect (met_any met)).2.of_account ∙ ap keys ((first.grows.on.kept met.observable).accounts a.called (omega arith))

  met_names : Met IsSettled a → Met (HasNames names) b
  met_names met =
      let order = first.grows.on.ordered in
      record {
        observable = first.grows.on.observable met.observable;
        sound = (idles_first met).quiet.sound b.called order (omega arith);
        has = record { settled = first.settled met.observable met.has; all = named met ∙ ap keys (sym (same_first met)) };
      }

  module _ {c : History} {r : Result (List BucketItem) PlanFault} (then : Asks (always (length (filter is_bucket names))) b c (HasNames names) (TellsOf (TellsItems names)) r) where
    within_both : Met IsSettled a → c.called ≤ a.called + (pages (len (present a)) + len (s3_state (present a)))
    within_both met =
        let pages_made = first.grows.calls (met_any met) in
        let heads_made = then.grows.calls in
        let counted : length (filter is_bucket names) ≡ len (s3_state (present a)) = ap (λ ns. length (filter is_bucket ns)) (named met) ∙ sym (len_is (present a) met.has) in
        omega arith

  pub listed : {c : History} (r : Result (List BucketItem) PlanFault) → Asks (always (length (filter is_bucket names))) b c (HasNames names) (TellsOf (TellsItems names)) r
      → Asks (by_account (pages (len (present a)) + len (s3_state (present a)))) a c IsSettled (Tells TellsBuckets) r
  listed {c = c} (Ok items) then = record {
    grows = record { on = goes_trans first.grows.on then.grows.on; calls = within_both then };
    cause = then.cause ∙ first.cause;
    effect = λ met.
        let keeps = then.effect (met_names met) in
        let kept = then.grows.on.kept (first.grows.on.observable met.observable) in
        let idles = idles_trans first.grows.on.ordered kept (idles_first met) (record { quiet = keeps.0; still = keeps.1; same = keeps.2.same }) in
        let here : c.account_at b.called ≡ present a = kept.accounts b.called (omega arith) ∙ same_first met in
        let from : c.account_at a.called ≡ present a = ((goes_trans first.grows.on then.grows.on).kept met.observable).accounts a.called (omega arith) in
        let told : items ≡ map (item_at (present a)) (filter is_bucket names) = keeps.2.of_account ∙ ap (λ tree. map (item_at tree) (filter is_bucket names)) here in (
          idles.quiet,
          idles.still,
          record {
            of_state = told ∙ ap (λ ns. map (item_at (present a)) (filter is_bucket ns)) (named met) ∙ sym (bucket_items_are (present a) met.has) ∙ ap (λ tree. bucket_items (s3_state tree)) (sym from);
            same = idles.same;
          },
        );
    settled = λ observable settled. then.settled (first.grows.on.observable observable) (first.settled observable settled);
  }
  listed {c = c} (Err f) then = record {
    grows = record { on = goes_trans first.grows.on then.grows.on; calls = within_both then };
    cause = cause_after (List BucketItem) (List BucketItem) a.faults b.faults c.faults f first.cause then.cause;
    effect = λ met. as_told f (keeps_after (List BucketItem) (List BucketItem) (TellsItems names) (TellsItems names) b c a.called b.called c.called f first.grows.on.ordered
        (then.grows.on.kept (first.grows.on.observable met.observable)) (idles_first met) (then.effect (met_names met)));
    settled = λ observable settled. then.settled (first.grows.on.observable observable) (first.settled observable settled);
  }
    where
      as_told : (f : PlanFault) → Keeps c a.called c.called (TellsOf (TellsItems names)) (Err f) → Keeps c a.called c.called (Tells TellsBuckets) (Err f)
      as_told Failed keeps = keeps
      as_told Memory keeps = keeps
      as_told Inconsistent never = never

-- the same of the names as they are handed on
pub listed_of : {a b c : History} {names told : List (List ℕ)} → told ≡ names → Asks (by_account (pages (len (present a)))) a b Any (TellsOf TellsNames) (Ok names)
    → (r : Result (List BucketItem) PlanFault) → Asks (always (length (filter is_bucket told))) b c (HasNames told) (TellsOf (TellsItems told)) r
    → Asks (by_account (pages (len (present a)) + len (s3_state (present a)))) a c IsSettled (Tells TellsBuckets) r
listed_of {a = a} {b = b} is first r then = listed (subst (λ ns. Asks (by_account (pages (len (present a)))) a b Any (TellsOf TellsNames) (Ok ns)) (sym is) first) r then
