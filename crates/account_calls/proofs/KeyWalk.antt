-- The keys of a bucket, rolled up page by page.
use Rattle.std.proofs.Common.{◌≡◌, ℕ, zero, suc, ◌+◌, ◌*◌, ◌<◌, ◌≤◌, IsTrue, Bool, true, false, cond, ◌&&◌, nat_lt, T, List, [], ◌∷◌, map, length, take, Result, Ok, Err, refl, sym, ap, subst, ◌∙◌, arith}
use Rattle.std.specs.Result.{IsErrAnd}
use Rattle.std.specs.List.{filter, list_all}
use Rattle.std.specs.Ordering.{is_lt}
use Rattle.std.specs.FinMap.{entries, get, is_sorted, len}
use Rattle.std.proofs.lemmas.List.{length-map}
use Rattle.gate_base.specs.Maps.{name_cmp}
use Rattle.s3_names.specs.Bucket.{is_bucket}
use Rattle.s3_machine.specs.Items.{begins, behind}
use Rattle.s3_machine.specs.Step.{listed_key}
use Rattle.s3_machine.specs.declared.items.Asked.{Asked}
use Rattle.s3_machine.specs.declared.items.Item.{Item}
use Rattle.s3_machine.specs.declared.items.ItemHead.{ItemHead}
use Rattle.swift_calls.specs.Account.{SwiftAccount, files}
use Rattle.swift_calls.specs.History.{History, present, Extends}
use Rattle.upload_records.specs.Native.{IsSettled, s3_state}
use Rattle.list_pages.specs.Rolling.{Wanted, all_rows, first_rows, Rolled}
use Rattle.list_pages.specs.Jumps.{next_marker}
use Rattle.list_pages.specs.Rolls.{Rolls, row_view, rows_of, wanted}
use Rattle.list_pages.proofs.lemmas.Skipping.{rolled_first, shown_within}
use Rattle.list_pages.proofs.lemmas.Sorted.{all_filter, filter_passes, rises_sorted}
use Rattle.list_pages.proofs.lemmas.Turning.{split_at_marker}
use Rattle.account_calls.specs.declared.fault.PlanFault.{PlanFault}
use Rattle.account_calls.specs.Answers.{items_shown, pages, pages_listed}
use Rattle.account_calls.specs.Keys.{keys_with, objects_in, up_to, HasRolled, TellsListing, TellsTaken}
use Rattle.account_calls.specs.Listing.{TellsOf}
use Rattle.account_calls.specs.Calls.{Bound, always, by_account, GoesOn, Met, Asks, Tells}
use Rattle.account_calls.proofs.KeyPages.{keys_within}
use Rattle.account_calls.proofs.Taken.{keys_sorted}
use Rattle.account_calls.proofs.lemmas.Faults.{err_is}
use Rattle.account_calls.proofs.lemmas.Idle.{goes_none, goes_trans, none_made, grows_none}
use Rattle.account_calls.proofs.lemmas.One.{tells_state}
use Rattle.account_calls.specs.Told.{Idles}
use Rattle.account_calls.proofs.lemmas.Walk.{idles_none, idles_trans, cause_after, keeps_after}

-- ---- the keys up to where the listing begins

shorter : (p : List ℕ × ItemHead → Bool) (ks : List (List ℕ × ItemHead)) → length (filter p ks) ≤ length ks
shorter p [] = omega arith
shorter p (k ∷ ks) = let less = shorter p ks in elim (p k) as (λ t. length (cond t (k ∷ filter p ks) (filter p ks)) ≤ suc (length ks)) [ true ↦ omega (arith, less) | false ↦ omega (arith, less) ]

module _ (bucket : List ℕ) (asked : Asked) (tree : SwiftAccount) where
  abbrev keys : List (List ℕ × ItemHead)
  keys = keys_with bucket asked.prefix (s3_state tree)

  abbrev from : List ℕ
  from = next_marker asked.prefix asked.delimiter (wanted asked).marker

  fit : list_all (λ k. begins asked.prefix k.0) keys ≡ true
  fit = filter_passes (λ k. begins asked.prefix k.0) (map listed_key (entries (objects_in (get (s3_state tree) bucket))))

  -- no more items are shown than of all keys
  items_within : (roll : Rolls) → roll.wanted ≡ wanted asked → HasRolled roll (up_to roll.last keys) → length roll.items ≤ items_shown bucket asked (s3_state tree)
  items_within roll wants r =
      let sorted = keys_sorted bucket asked.prefix tree in
      let cut = split_at_marker roll.last keys sorted in
      let rises = rises_sorted asked.prefix (up_to roll.last keys) (behind roll.last keys) (subst (λ l. T (is_sorted name_cmp l)) cut sorted)
      (all_filter (λ k. begins asked.prefix k.0) (λ k. is_lt (name_cmp roll.last k.0)) keys fit) in
      let within = shown_within (wanted asked) (up_to roll.last keys) (behind roll.last keys) (subst (λ w. Rolled w (rows_of roll.items) roll.more (up_to roll.last keys)) wants r) rises in
      omega (arith, within, length-map roll.items row_view, ap (λ l. length (first_rows (wanted asked) l).0) cut)

-- ---- page by page

-- so far the keys are rolled up as far as the next page begins, and each page showed an item more
pub record RolledSo (a b : History) (bucket prefix : List ℕ) (roll : Rolls) : Type 0 where
  pub count : ℕ
  pub calls : b.called ≤ a.called + count
  pub idles : Idles b a.called b.called
  pub rolled : HasRolled roll (up_to roll.last (keys_with bucket prefix (s3_state (present a))))
  pub fewer : length (behind roll.last (keys_with bucket prefix (s3_state (present a)))) + 1000 * count ≤ length (keys_with bucket prefix (s3_state (present a)))
  pub shows : count ≤ length roll.items

pub record Rolling (a b : History) (bucket prefix : List ℕ) (roll : Rolls) : Type 0 where
  pub on : GoesOn a b
  pub faults : b.faults ≡ a.faults
  pub settled : IsTrue a.observable → IsSettled (present a) → IsSettled (present b)
  pub so : Met IsSettled a → RolledSo a b bucket prefix roll

pub rolling_none : (a : History) (bucket : List ℕ) (asked : Asked) (roll : Rolls) → roll ≡ record { wanted = wanted asked; items = []; more = false; last = next_marker asked.prefix asked.delimiter (wanted asked).marker } → Rolling a a bucket asked.prefix roll
rolling_none a bucket asked roll is = subst (Rolling a a bucket asked.prefix) (sym is) (record {
  on = goes_none a;
  faults = refl;
  settled = λ observable settled. settled;
  so = λ met. let less = shorter (λ k. is_lt (name_cmp (from bucket asked (present a)) k.0)) (keys bucket asked (present a)) in record {
    count = 0;
    calls = omega arith;
    idles = idles_none a met.sound;
    rolled = rolled_first (wanted asked) (keys bucket asked (present a)) (keys_sorted bucket asked.prefix (present a)) (fit bucket asked (present a));
    fewer = omega (arith, less);
    shows = omega arith;
  };
})

module _ {a b : History} {bucket prefix : List ℕ} {roll : Rolls} (walked : Rolling a b bucket prefix roll) where
  met_here : Met IsSettled a → Met IsSettled b
  met_here met =
      let so = walked.so met in
      let order = walked.on.ordered in
      record {
        observable = walked.on.observable met.observable;
        sound = so.idles.quiet.sound b.called order (omega arith);
        has = walked.settled met.observable met.has;
      }

  same_here : Met IsSettled a → present b ≡ present a
  same_here met = (walked.so met).idles.same ∙ (walked.on.kept met.observable).accounts a.called (omega arith)

  -- one page more is within the bound
  so_within : Met IsSettled a → (so : RolledSo a b bucket prefix roll) → is_bucket bucket ≡ true → (asked : Asked) → asked.prefix ≡ prefix → roll.wanted ≡ wanted asked
      → (so.count + 1 ≤ pages (len (files (present a) bucket))) × (so.count + 1 ≤ items_shown bucket asked (s3_state (present a)) + 1)
  so_within met so named asked same wants =
      let fewer = so.fewer in
      let within = keys_within (present a) bucket named met.sound met.has prefix in
      let shows = so.shows in
      let items = items_within bucket asked (present a) roll wants (subst (λ p. HasRolled roll (up_to roll.last (keys_with bucket p (s3_state (present a))))) (sym same) so.rolled) in
      (omega (arith, fewer, within), omega (arith, shows, items))

  module _ {new : Rolls} {c : History} {told : Bool} (asks : Asks (always 1) b c IsSettled (TellsOf (TellsTaken bucket prefix roll new)) (Ok told)) where
    later : Met IsSettled a → Extends b.called b c
    later met = asks.grows.on.kept (walked.on.observable met.observable)

    idles_then : Met IsSettled a → Idles c a.called c.called
    idles_then met =
        let keeps = asks.effect (met_here met) in
        idles_trans walked.on.ordered (later met) (walked.so met).idles (record { quiet = keeps.0; still = keeps.1; same = keeps.2.same })

    tells_then : Met IsSettled a → TellsTaken bucket prefix roll new (present a) told
    tells_then met =
        let keeps = asks.effect (met_here met) in
        subst (λ tree. TellsTaken bucket prefix roll new tree told) ((later met).accounts b.called (omega arith) ∙ same_here met) keeps.2.of_account

    -- a page, and more behind it
    pub rolling_more : told ≡ true → Rolling a c bucket prefix new
    rolling_more is = record {
      on = goes_trans walked.on asks.grows.on;
      faults = asks.cause ∙ walked.faults;
      settled = λ observable settled. asks.settled (walked.on.observable observable) (walked.settled observable settled);
      so = λ met.
          let so = walked.so met in
          let tells = subst (TellsTaken bucket prefix roll new (present a)) is (tells_then met) in
          let calls = asks.grows.calls in
          let before = so.calls in
          let fewer = so.fewer in
          let more = tells.fewer in
          let shown = so.shows in
          let shows = tells.shows so.rolled in
          record {
            count = so.count + 1;
            calls = omega (arith, calls, before);
            idles = idles_then met;
            rolled = tells.rolled so.rolled;
            fewer = omega (arith, fewer, more);
            shows = omega (arith, shown, shows);
          };
    }

    -- the last page
    pub rolling_end : told ≡ false → is_bucket bucket ≡ true → (asked : Asked) → asked.prefix ≡ prefix → new.wanted ≡ wanted asked → (result : List Item × Bool) → roll.wanted ≡ wanted asked
        → ((seen : List (List ℕ × ItemHead)) → HasRolled new seen → (rows_of result.0, result.1) ≡ first_rows new.wanted seen)
        → Asks (by_account (pages_listed bucket asked (present a))) a c IsSettled (Tells (TellsListing bucket asked)) (Ok result)
    rolling_end is named asked same wants result before_wants listed = record {
      grows = record {
        on = goes_trans walked.on asks.grows.on;
        calls = λ met.
            let so = walked.so met in
            let calls = asks.grows.calls in
            let before = so.calls in
            let room = so_within met so named asked same before_wants in
            omega (arith, calls, before, room.0, room.1);
      };
      cause = asks.cause ∙ walked.faults;
      effect = λ met.
          let so = walked.so met in
          let idles = idles_then met in
          let tells = subst (TellsTaken bucket prefix roll new (present a)) is (tells_then met) in
          let all : (rows_of result.0, result.1) ≡ first_rows (wanted asked) (keys_with bucket asked.prefix (s3_state (present a))) =
          listed (keys_with bucket prefix (s3_state (present a))) (tells so.rolled) ∙ (λ i. first_rows (wants i) (keys_with bucket (sym same i) (s3_state (present a)))) in
          let from : c.account_at a.called ≡ present a = ((goes_trans walked.on asks.grows.on).kept met.observable).accounts a.called (omega arith) in
          (idles.quiet, idles.still, record { of_state = all ∙ ap (λ tree. first_rows (wanted asked) (keys_with bucket asked.prefix (s3_state tree))) (sym from); same = idles.same });
      settled = λ observable settled. asks.settled (walked.on.observable observable) (walked.settled observable settled);
    }

  -- a page that wasn't taken
  pub rolling_fault : {T : Type 0} {P : SwiftAccount → T → Type 0} {c : History} {f : PlanFault} → Asks (always 1) b c IsSettled (TellsOf P) (Err f) → is_bucket bucket ≡ true → (asked : Asked) → asked.prefix ≡ prefix → roll.wanted ≡ wanted asked
      → (result : Result (List Item × Bool) PlanFault) → IsErrAnd result (λ e. e ≡ f) → Asks (by_account (pages_listed bucket asked (present a))) a c IsSettled (Tells (TellsListing bucket asked)) result
  rolling_fault {T = T} {P = P} {c = c} {f = f} asks named asked same wants result is = subst (Asks (by_account (pages_listed bucket asked (present a))) a c IsSettled (Tells (TellsListing bucket asked))) (sym (err_is result f is)) (record {
    grows = record {
      on = goes_trans walked.on asks.grows.on;
      calls = λ met.
          let so = walked.so met in
          let calls = asks.grows.calls in
          let before = so.calls in
          let room = so_within met so named asked same wants in
          omega (arith, calls, before, room.0, room.1);
    };
    cause = cause_after T (List Item × Bool) a.faults b.faults c.faults f walked.faults asks.cause;
    effect = λ met. tells_state (TellsListing bucket asked) c a.called c.called (Err f) (keeps_after T (List Item × Bool) P (λ tree told. TellsListing bucket asked (s3_state tree) told) b c a.called b.called c.called f walked.on.ordered
        (asks.grows.on.kept (walked.on.observable met.observable)) (walked.so met).idles (asks.effect (met_here met)));
    settled = λ observable settled. asks.settled (walked.on.observable observable) (walked.settled observable settled);
  })

-- ---- no item is wanted

take_zero : {X : Type 0} (xs : List X) → take 0 xs ≡ []
take_zero [] = refl
take_zero (x ∷ xs) = refl

no_rows : {H : Type 0} (w : Wanted) (ks : List (List ℕ × H)) → w.max ≡ 0 → first_rows w ks ≡ ([], false)
no_rows w ks none = (λ i. (take (none i) (behind w.marker (all_rows w ks)), nat_lt 0 (none i) && nat_lt (none i) (length (behind w.marker (all_rows w ks))))) ∙ ap (λ l. (l, false)) (take_zero (behind w.marker (all_rows w ks)))

pub none_wanted : (a : History) (bucket : List ℕ) (asked : Asked) (most : Bound) (result : List Item × Bool) → (wanted asked).max ≡ 0 → result.0 ≡ [] → result.1 ≡ false → Asks most a a IsSettled (Tells (TellsListing bucket asked)) (Ok result)
none_wanted a bucket asked most result none items whole = record {
  grows = grows_none most IsSettled a;
  cause = refl;
  effect = λ met. (
    none_made refl met.sound,
    refl,
    record { of_state = (λ i. (rows_of (items i), whole i)) ∙ sym (no_rows (wanted asked) (keys_with bucket asked.prefix (s3_state (present a))) none); same = refl },
  );
  settled = λ observable settled. settled;
}

pub some_wanted : (n : ℕ) → (n ≡ 0 → ⊥) → 0 < n
some_wanted zero h = absurd (h refl)
some_wanted (suc n) h = omega arith

-- the listing of which nothing is wanted isn't truncated
pub not_truncated : (truncated more : Bool) (max : ℕ) → truncated ≡ (nat_lt 0 max && more) → max ≡ 0 → truncated ≡ false
not_truncated truncated more max is none = is ∙ ap (λ n. nat_lt 0 n && more) none
