-- A container beside a bucket is swept, be the bucket there or missing.
use Rattle.std.specs.Prelude.{◌≡◌, ◌-◌, ◌||◌, ℕ, Bool, true, false, not, List, length, is_some, Option, None, Some, Result, Ok, Err}
use Rattle.std.specs.Result.{IsErrAnd}
use Rattle.std.specs.FinMap.{entries, get}
use Rattle.std.proofs.Common.{refl, sym, ap, subst, ◌∙◌, inl, inr, arith, true≢false}
use Rattle.std.proofs.lemmas.Map.Text.{is_eq-slice_cmp}
use Rattle.gate_base.specs.Maps.{Names}
use Rattle.s3_names.specs.Bucket.{is_bucket}
use Rattle.swift_calls.specs.Account.{SwiftAccount, SwiftContainer, files}
use Rattle.swift_calls.specs.History.{History, present}
use Rattle.swift_calls.specs.Step.{IsContainerName}
use Rattle.upload_records.specs.Layout.{segments_name}
use Rattle.upload_records.specs.Native.{IsSettled}
use Rattle.upload_records.specs.Consistent.{IsBeside, IsConsistent, IsThere}
use Rattle.upload_records.proofs.lemmas.Beside.{records_there, segments_there}
use Rattle.upload_records.proofs.lemmas.Sides.{bucket_segments}
use Rattle.account_calls.specs.declared.fault.PlanFault.{PlanFault}
use Rattle.account_calls.specs.declared.fault.PlanFault.TheVariants as fault
use Rattle.account_calls.specs.Calls.{Bound, always, by_account, Any, Asks}
use Rattle.account_calls.specs.Listing.{TellsOf}
use Rattle.account_calls.proofs.lemmas.Faults.{err_is}
use Rattle.account_calls.proofs.lemmas.Idle.{grows_none, none_made}
use Rattle.account_calls.proofs.lemmas.Quiet.{asks_left, asks_under, asks_untold, told_here}
use Rattle.account_calls.proofs.lemmas.SideNames.{segments_fits, uploads_fits}
use Rattle.sweep.specs.declared.account.Swept.{Swept}
use Rattle.leftovers.specs.declared.sides.Kind.{Kind}
use Rattle.leftovers.specs.declared.sides.Kind.TheVariants.{Records, Segments}
use Rattle.sweep.specs.Containers.{calls_beside, calls_there, side_calls, HasSide, SweepsSide}
use Rattle.leftovers.specs.Sides.{folder_beside, side_by}
use Rattle.leftovers.specs.Leftovers.{all_if, is_missing, is_orphan, is_used, left_by, left_there, nothing_left, one_if}
use Rattle.leftovers.specs.Segments.{HasSettled, SweepsSegments}
use Rattle.leftovers.specs.Strays.{clear_calls, ClearsSide, IsStray, TellsThere}
use Rattle.leftovers.proofs.lemmas.Joined.{asks_counted, asks_then_by}
use Rattle.leftovers.proofs.lemmas.Readings.{asks_account}
use Rattle.leftovers.proofs.lemmas.Lists.{filter_alike, filter_all}

-- ---- calls with any bound

-- no call
pub asks_none : {T : Type 0} {given : SwiftAccount → Type 0} {P : SwiftAccount → SwiftAccount → T → Type 0} (most : Bound) (h : History) (x : T) → ((tree : SwiftAccount) → IsConsistent tree → given tree → P tree tree x) → Asks most h h given P (Ok x)
asks_none {given = given} most h x tells = record {
  grows = grows_none most given h;
  cause = refl;
  effect = λ met. (none_made refl met.sound, refl, tells _ met.sound met.has);
  settled = λ observable settled. settled;
}

-- another thing is told
pub asks_made : {T U : Type 0} {n : ℕ} {a b : History} {given : SwiftAccount → Type 0} {P : SwiftAccount → SwiftAccount → T → Type 0} {R : SwiftAccount → SwiftAccount → U → Type 0} {x : T} (y : U)
    → ((old new : SwiftAccount) → IsConsistent old → given old → P old new x → R old new y) → Asks (by_account n) a b given P (Ok x) → Asks (by_account n) a b given R (Ok y)
asks_made {a = a} {b = b} y tells asks =
    asks_account {n = b.called - a.called} (λ met. let near = asks.grows.calls met in let order = asks.grows.on.ordered in omega (arith, near, order))
    (asks_left y (omega arith) (asks_counted asks) (λ old new sound same has told. tells old new sound has told))

-- a fault stays one
pub asks_err : {T U : Type 0} {most : Bound} {a b : History} {given : SwiftAccount → Type 0} {P : SwiftAccount → SwiftAccount → T → Type 0} {R : SwiftAccount → SwiftAccount → U → Type 0} {f : PlanFault}
    → Asks most a b given P (Err f) → (result : Result U PlanFault) → IsErrAnd result (λ e. e ≡ f) → Asks most a b given R result
asks_err {most = most} {a = a} {b = b} {given = given} {R = R} {f = f} asks result gives = subst (Asks most a b given R) (sym (err_is result f gives)) (asks_untold f asks)

-- ---- what is left over in it

abbrev pub swept_of : ℕ → ℕ → ℕ → Swept
swept_of segments records containers = record { segments = segments; records = records; containers = containers; migrated = 0; forgotten = 0 }

module _ (bucket : List ℕ) (is : is_bucket bucket ≡ true) where
  pub beside_is : (kind : Kind) → IsBeside (folder_beside kind bucket) bucket
  beside_is Records = record { of_bucket = is; is = inl refl }
  beside_is Segments = record { of_bucket = is; is = inr refl }

  pub folder_fits : (kind : Kind) → IsContainerName (folder_beside kind bucket)
  folder_fits Records = uploads_fits bucket is
  folder_fits Segments = segments_fits bucket is

  not_missing : (tree : SwiftAccount) → IsThere tree bucket → is_missing tree bucket ≡ false
  not_missing tree there = ap not there

  -- records beside a bucket that is there
  pub records_spared : (tree : SwiftAccount) → IsConsistent tree → HasSettled bucket tree → SweepsSide Records bucket tree tree (swept_of 0 0 0)
  records_spared tree sound has =
      let there = records_there tree bucket sound is has.there in
      let none = not_missing tree has.there in
      record {
        counted = λ i. left_there (sym there i) (record { segments = 0; records = all_if (sym none i) (length (entries (files tree (folder_beside Records bucket)))); containers = one_if (sym none i) });
        none = λ i. left_there (there i) (record { segments = 0; records = all_if (none i) (length (entries (files tree (folder_beside Records bucket)))); containers = one_if (none i) });
        others = λ name apart. refl;
        spared = λ e here. refl;
      }

  -- segments beside it
  pub segments_side : (old new : SwiftAccount) (count : ℕ) → IsConsistent old → HasSettled bucket old → SweepsSegments bucket old new count → SweepsSide Segments bucket old new (swept_of count 0 0)
  segments_side old new count sound has told =
      let there = segments_there old bucket sound is has.there in
      let none = not_missing old has.there in
      let there_new : is_some (get new (segments_name bucket)) ≡ true = told.touches.stays ∙ there in
      let none_new : is_missing new bucket ≡ false = ap (λ o. not (is_some o)) (told.touches.others bucket (sym (is_eq-slice_cmp bucket (segments_name bucket)) ∙ bucket_segments bucket bucket is)) ∙ none in
      record {
        counted = λ i. left_there (sym there i) (record { segments = told.counted i; records = 0; containers = one_if (sym none i) });
        none = λ i. left_there (there_new i) (record { segments = told.none i; records = 0; containers = one_if (none_new i) });
        others = told.touches.others;
        spared = λ e here. absurd (let never : Segments ≡ Records = e in cc);
      }

  -- beside a bucket that is missing
  module _ (old new : SwiftAccount) (count : ℕ) where
    gone_none : (kind : Kind) → ClearsSide (folder_beside kind bucket) old new count → left_there (is_some (get new (folder_beside kind bucket))) (left_by new (folder_beside kind bucket) (Some (side_by kind bucket))) ≡ nothing_left
    gone_none kind cleared = ap (λ o. left_there (is_some o) (left_by new (folder_beside kind bucket) (Some (side_by kind bucket)))) cleared.removes.gone

    never_there : (kind : Kind) → IsStray (folder_beside kind bucket) bucket old → IsThere old bucket → new ≡ old
    never_there kind stray here = absurd (true≢false (sym here ∙ ap is_some stray.missing))

    pub records_cleared : IsStray (folder_beside Records bucket) bucket old → ClearsSide (folder_beside Records bucket) old new count → SweepsSide Records bucket old new (swept_of 0 count 1)
    records_cleared stray cleared =
        let missing : true ≡ is_missing old bucket = sym (ap (λ o. not (is_some o)) stray.missing) in
        record {
          counted = λ i. left_there (sym stray.there i) (record { segments = 0; records = all_if (missing i) (cleared.counted i); containers = one_if (missing i) });
          none = gone_none Records cleared;
          others = cleared.removes.others;
          spared = λ e here. never_there Records stray here;
        }

    pub segments_cleared : IsStray (folder_beside Segments bucket) bucket old → ClearsSide (folder_beside Segments bucket) old new count → SweepsSide Segments bucket old new (swept_of count 0 1)
    segments_cleared stray cleared =
        let missing : true ≡ is_missing old bucket = sym (ap (λ o. not (is_some o)) stray.missing) in
        let rows = entries (files old (segments_name bucket)) in
        let all = cleared.counted ∙ sym (ap length (filter_alike (λ e. is_orphan old bucket e.0) (λ e. true) (λ e. ap (λ t. t || not (is_used old bucket e.0)) (sym missing)) rows ∙ filter_all rows)) in
        record {
          counted = λ i. left_there (sym stray.there i) (record { segments = all i; records = 0; containers = one_if (missing i) });
          none = gone_none Segments cleared;
          others = cleared.removes.others;
          spared = λ e here. never_there Segments stray here;
        }

  -- ---- HEAD of the bucket, and then

  module _ (kind : Kind) (table : Names Bool) {a b : History} {there : Bool} (first : Asks (always 1) a b Any (TellsOf (TellsThere bucket)) (Ok there)) where
    head : Asks (by_account 1) a b (HasSide table kind bucket) (TellsOf (TellsThere bucket)) (Ok there)
    head = asks_account (λ met. omega arith) (asks_under (λ tree has. tt) first)

    pub beside_there : {c : History} → there ≡ true → (result : Result Swept PlanFault) → Asks (by_account (calls_there (present b) kind bucket)) b c (HasSettled bucket) (SweepsSide kind bucket) result
        → Asks (by_account (side_calls (present a) kind bucket)) a c (HasSide table kind bucket) (SweepsSide kind bucket) result
    beside_there is_there result then = asks_then_by head then
        (λ old new sound alike has told. record { settled = subst IsSettled (sym told.same) has.settled; there = subst (λ tree. IsThere tree bucket) (sym told.same) (sym told.of_account ∙ is_there) })
        (λ old new last y sound has told next. subst (λ tree. SweepsSide kind bucket tree last y) told.same next)
        (λ met told.
        let same = ap (λ tree. calls_there tree kind bucket) told.same in
        let by = ap (λ t. calls_beside t (present a) kind bucket) (sym told.of_account ∙ is_there) in
        omega (arith, same, by))

    none_of : (o : Option SwiftContainer) → is_some o ≡ false → o ≡ None
    none_of None e = refl
    none_of (Some x) e = cc

    pub beside_missing : {c : History} → there ≡ false → (result : Result Swept PlanFault) → Asks (by_account (clear_calls (present b) (folder_beside kind bucket))) b c (IsStray (folder_beside kind bucket) bucket) (SweepsSide kind bucket) result
        → Asks (by_account (side_calls (present a) kind bucket)) a c (HasSide table kind bucket) (SweepsSide kind bucket) result
    beside_missing isnt result then = asks_then_by head then
        (λ old new sound alike has told.
        subst (IsStray (folder_beside kind bucket) bucket) (sym told.same) (record { settled = has.settled; there = has.there; beside = beside_is kind; missing = none_of (get old bucket) (sym told.of_account ∙ isnt) }))
        (λ old new last y sound has told next. subst (λ tree. SweepsSide kind bucket tree last y) told.same next)
        (λ met told.
        let same = ap (λ tree. clear_calls tree (folder_beside kind bucket)) told.same in
        let by = ap (λ t. calls_beside t (present a) kind bucket) (sym told.of_account ∙ isnt) in
        omega (arith, same, by))

    -- it isn't there, though a table of the buckets has it
    pub beside_odd : there ≡ false → is_some (get table bucket) ≡ true → Asks (by_account (side_calls (present a) kind bucket)) a b (HasSide table kind bucket) (SweepsSide kind bucket) (Err fault.Inconsistent)
    beside_odd isnt on = record {
      grows = record { on = first.grows.on; calls = λ met. let near = first.grows.calls in omega (arith, near) };
      cause = first.cause;
      effect = λ met.
          let told = told_here head met in
          absurd (true≢false (sym on ∙ met.has.listed bucket is ∙ sym told.of_account ∙ isnt));
      settled = first.settled;
    }

  -- HEAD wasn't answered
  pub beside_unknown : (kind : Kind) (table : Names Bool) {a b : History} {f : PlanFault} → Asks (always 1) a b Any (TellsOf (TellsThere bucket)) (Err f) → (result : Result Swept PlanFault) → IsErrAnd result (λ e. e ≡ f)
      → Asks (by_account (side_calls (present a) kind bucket)) a b (HasSide table kind bucket) (SweepsSide kind bucket) result
  beside_unknown kind table asks result gives = asks_account (λ met. omega arith) (asks_err (asks_under (λ tree has. tt) asks) result gives)
