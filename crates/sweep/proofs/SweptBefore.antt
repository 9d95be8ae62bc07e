-- The old completions are forgotten, and then what is left over is removed.
use Rattle.std.specs.Prelude.{◌≡◌, ◌≤◌, ◌+◌, ℕ, is_some, List, [], length, take, Result, Ok, Err}
use Rattle.std.specs.Result.{IsErrAnd}
use Rattle.std.specs.FinMap.{keys, len}
use Rattle.std.proofs.Common.{refl, sym, ap, subst, ◌∙◌, arith}
use Rattle.std.proofs.Math.Seq.{take-length}
use Rattle.std.proofs.lemmas.List.{append-nil}
use Rattle.swift_calls.specs.Account.{SwiftAccount, files_of}
use Rattle.swift_calls.specs.History.{History, present}
use Rattle.upload_records.specs.Native.{IsSettled, record_at, s3_state}
use Rattle.upload_records.specs.Consistent.{IsThere}
use Rattle.account_calls.specs.declared.fault.PlanFault.{PlanFault}
use Rattle.account_calls.specs.declared.fault.PlanFault.TheVariants as fault
use Rattle.account_calls.specs.Answers.{pages}
use Rattle.account_calls.specs.Calls.{Any, Asks, Met, by_account}
use Rattle.account_calls.specs.Listing.{HasNames, TellsNames, TellsOf}
use Rattle.account_calls.proofs.lemmas.Walk.{length-keys}
use Rattle.sweep.specs.declared.account.Swept.{Swept}
use Rattle.leftovers.specs.declared.fault.SweepFault.{SweepFault}
use Rattle.sweep.specs.declared.forget.Aged.{Aged}
use Rattle.sweep.specs.Aging.{AgesAll, Forgetting, ForgetsFirst, ForgetsOf, TellsAllAged, TellsSweptBefore, before_calls, names_forget_calls, old_of, record_beside}
use Rattle.sweep.specs.Forgetting.{AreDated, all_old, is_undated, undated_left, without_kept}
use Rattle.sweep.specs.Swept.{Forgets, ForgetsBy, SweepsBefore, TellsSwept, account_calls}
use Rattle.leftovers.specs.Faults.{as_plan}
use Rattle.sweep.specs.Walk.{Spares, SweepsNames, names_calls}
use Rattle.sweep.proofs.PlanFaults.{ComesOf, forgetting_at}
use Rattle.sweep.proofs.AccountCalls.{names_within}
use Rattle.sweep.proofs.AgedAccounts.{aged_dated, became_there, files_fewer, leftovers_same, same_keys, there_before}
use Rattle.sweep.proofs.ForgetCalls.{Pairs, forgetting_failed, forgetting_quiet, forgetting_quiet_failed, forgetting_then, forgetting_told, forgetting_vain, forgetting_here, forgot_here, no_olds, sound_here}
use Rattle.sweep.proofs.ForgetSum.{forget_within}
use Rattle.sweep.proofs.Spared.{bucket_spared, uploads_spared}
use Rattle.sweep.proofs.StateOlds.{olds_are, undated_are}

-- ---- over the containers of all names

-- both counts in one
abbrev pub swept_before : Swept → Aged → Swept
swept_before swept told = record { segments = swept.segments; records = swept.records; containers = swept.containers; migrated = told.migrated; forgotten = told.forgotten }

has_names : (before : ℕ) (names : List (List ℕ)) (old new : SwiftAccount) (told : Aged) → HasNames names old → TellsAllAged before names old new told → HasNames names new
has_names before names old new told has tells = record {
  settled = tells.settled;
  all = has.all ∙ sym (same_keys (subst (λ l. AgesAll before l old new) has.all tells.ages));
}

dated_after : (before : ℕ) (old new last : SwiftAccount) → AgesAll before (keys old) old new → Spares new last → AreDated last
dated_after before old new last ages spares bucket id is there =
    let there_new : IsThere new bucket = ap (λ o. is_some o) (sym (bucket_spared spares bucket is)) ∙ there in
    ap (λ o. is_undated (record_at (files_of o) id)) (uploads_spared spares bucket is there_new)
    ∙ ap is_undated (became_there ages bucket id is (there_before ages bucket there_new)) ∙ aged_dated before (record_beside old bucket id)

swept_tells : (before : ℕ) (names : List (List ℕ)) (old new last : SwiftAccount) (told : Aged) (swept : Swept) → HasNames names old → TellsAllAged before names old new told → SweepsNames new last swept
    → TellsSweptBefore before names old last (swept_before swept told)
swept_tells before names old new last told swept has first then =
    let ages : AgesAll before (keys old) old new = subst (λ l. AgesAll before l old new) has.all first.ages in
    record {
      sweeps = record { counted = then.sweeps.counted ∙ leftovers_same ages; clean = then.sweeps.clean };
      dated = dated_after before old new last ages then.spares;
      forgotten = first.forgotten;
      migrated = first.migrated;
    }

module _ (before : ℕ) (names : List (List ℕ)) {a b c : History} {told : Aged} (first : Forgetting a b (HasNames names) (old_of before names) (TellsAllAged before names) (Ok told)) where
  names_swept : (result : Result Swept PlanFault) → Asks (by_account (names_calls (present b) names)) b c (HasNames names) SweepsNames result
      → Forgetting a c (HasNames names) (old_of before names) (λ old last swept. TellsSweptBefore before names old last (swept_before swept told)) result
  names_swept result then =
      forgetting_then {given = HasNames names} {rest = HasNames names} {xs = old_of before names} {ys = no_olds} {zs = old_of before names} first (forgetting_quiet then)
      (λ old new sound has tells. has_names before names old new told has tells)
      (λ old new sound after has tells. sym (append-nil (old_of before names old)))
      (λ old new last y sound has tells next. swept_tells before names old new last told y has tells next)

  pub swept_all : (swept : Swept) → Asks (by_account (names_calls (present b) names)) b c (HasNames names) SweepsNames (Ok swept) → Forgetting a c (HasNames names) (old_of before names) (TellsSweptBefore before names) (Ok (swept_before swept told))
  swept_all swept then =
      forgetting_told {given = HasNames names} {given' = HasNames names} {xs = old_of before names} {zs = old_of before names} {R = TellsSweptBefore before names} (swept_before swept told) (λ tree has. has) (names_swept (Ok swept) then)
      (λ old new sound has tells. refl) (λ old new sound has tells. tells)

  pub swept_fault : {f : PlanFault} → Asks (by_account (names_calls (present b) names)) b c (HasNames names) SweepsNames (Err f) → (result : Result Swept PlanFault) → IsErrAnd result (λ e. e ≡ f)
      → Forgetting a c (HasNames names) (old_of before names) (TellsSweptBefore before names) result
  swept_fault {f = f} then result gives =
      forgetting_failed {given = HasNames names} {given' = HasNames names} {xs = old_of before names} {zs = old_of before names} (λ tree has. has) (names_swept (Err f) then)
      (λ tree sound has. ([], sym (append-nil (old_of before names tree)))) result gives

  pub swept_calls : {result : Result Swept PlanFault} → (Met (HasNames names) a → b.called ≤ a.called + names_forget_calls names (present a)) → Asks (by_account (names_calls (present b) names)) b c (HasNames names) SweepsNames result
      → Met (HasNames names) a → c.called ≤ a.called + before_calls names (present a)
  swept_calls calls then met =
      let near = calls met in
      let tells = forgot_here first met in
      let sound = sound_here first met in
      let ages : AgesAll before (keys (present a)) (present a) (present b) = subst (λ l. AgesAll before l (present a) (present b)) met.has.all tells.ages in
      let far = then.grows.calls (record { observable = first.on.observable met.observable; sound = sound; has = has_names before names (present a) (present b) told met.has tells }) in
      let within = names_within (present b) sound in
      let same : names_calls (present b) names ≡ names_calls (present b) (keys (present b)) = ap (names_calls (present b)) (met.has.all ∙ sym (same_keys ages)) in
      let count : len (present b) ≡ len (present a) = sym (length-keys (present b)) ∙ ap length (same_keys ages) ∙ length-keys (present a) in
      let few = files_fewer ages in
      omega (arith, near, far, within, same, count, few)

-- what was to be forgotten first wasn't
pub forgets_fault : (before : ℕ) (names : List (List ℕ)) {a b : History} {f : PlanFault} → Forgetting a b (HasNames names) (old_of before names) (TellsAllAged before names) (Err f) → (result : Result Swept PlanFault) → IsErrAnd result (λ e. e ≡ f)
    → Forgetting a b (HasNames names) (old_of before names) (TellsSweptBefore before names) result
forgets_fault before names forgets result gives = forgetting_vain {olds = old_of before names} forgets result gives

pub more_calls : (names : List (List ℕ)) {a : History} {q : ℕ} → (Met (HasNames names) a → q ≤ a.called + names_forget_calls names (present a)) → Met (HasNames names) a → q ≤ a.called + before_calls names (present a)
more_calls names calls met = let near = calls met in omega (arith, near)

-- ---- over the account

-- what is told of it
pub record TellsAccount (before : ℕ) (old new : SwiftAccount) (swept : Swept) : Type 0 where
  pub sweeps : TellsSwept old new swept
  pub dated : AreDated new
  pub forgotten : swept.forgotten ≡ length (all_old before (s3_state old))
  pub migrated : swept.migrated ≡ undated_left before old

abbrev state_olds : ℕ → SwiftAccount → Pairs
state_olds before tree = all_old before (s3_state tree)

forgets_of : (before : ℕ) (h : History) (p q : ℕ) → ForgetsFirst (all_old before (s3_state (h.account_at p))) h p q → Forgets before h p q
forgets_of before h p q first = record { ordered = first.ordered; gone = first.gone; most = first.most; rises = first.rises; is = first.is; sound = first.sound }

forgets_by : (before : ℕ) (h : History) (p q : ℕ) (result : Result Swept PlanFault) → ForgetsOf (all_old before (s3_state (h.account_at p))) h p q (TellsAccount before) result → ForgetsBy before h p q result
forgets_by before h p q (Ok swept) keeps = (
  forgets_of before h p q keeps.0,
  keeps.2,
  record {
    sweeps = keeps.3.sweeps;
    dated = keeps.3.dated;
    all =
        let olds = all_old before (s3_state (h.account_at p)) in
        keeps.1 ∙ ap (λ l. without_kept l (s3_state (h.account_at p))) (sym (take-length olds)) ∙ ap (λ n. without_kept (take n olds) (s3_state (h.account_at p))) (sym keeps.3.forgotten);
    counted = keeps.3.forgotten;
    migrated = keeps.3.migrated;
  },
)
forgets_by before h p q (Err fault.Failed) keeps = (forgets_of before h p q keeps.0, keeps.1)
forgets_by before h p q (Err fault.Memory) keeps = (forgets_of before h p q keeps.0, keeps.1)
forgets_by before h p q (Err fault.Inconsistent) never = never

module _ (before : ℕ) {a c : History} where
  pub sweeps_before : (result : Result Swept SweepFault) → Forgetting a c IsSettled (state_olds before) (TellsAccount before) (as_plan result) → (Met IsSettled a → c.called ≤ a.called + account_calls (present a)) → SweepsBefore before a c result
  sweeps_before result forgets calls = record {
    grows = record { on = forgets.on; calls = calls };
    cause = forgets.cause;
    effect = λ met.
        forgets_by before c a.called c.called (as_plan result)
        (subst (λ (tree : SwiftAccount). ForgetsOf (all_old before (s3_state tree)) c a.called c.called (TellsAccount before) (as_plan result)) (sym (forgetting_here forgets met)) (forgets.effect met));
    settled = forgets.settled;
  }

-- the names as they were handed on
pub names_as : {a b : History} {names handed : List (List ℕ)} → handed ≡ names → Asks (by_account (pages (len (present a)))) a b Any (TellsOf TellsNames) (Ok names) → Asks (by_account (pages (len (present a)))) a b Any (TellsOf TellsNames) (Ok handed)
names_as {a = a} {b = b} same asks = subst (λ ns. Asks (by_account (pages (len (present a)))) a b Any (TellsOf TellsNames) (Ok ns)) (sym same) asks

any_met : {a : History} → Met IsSettled a → Met Any a
any_met met = record { observable = met.observable; sound = met.sound; has = tt }

module _ (before : ℕ) {a b : History} {names : List (List ℕ)} (first : Asks (by_account (pages (len (present a)))) a b Any (TellsOf TellsNames) (Ok names)) where
  settled_first : Forgetting a b IsSettled no_olds (TellsOf TellsNames) (Ok names)
  settled_first = forgetting_told {given = Any} {given' = IsSettled} {xs = no_olds} {zs = no_olds} {R = TellsOf TellsNames} names (λ tree has. tt) (forgetting_quiet first) (λ old new sound has tells. refl) (λ old new sound has tells. tells)

  account_forgets : {c : History} (result : Result Swept PlanFault) → Forgetting b c (HasNames names) (old_of before names) (TellsSweptBefore before names) result → Forgetting a c IsSettled (state_olds before) (TellsAccount before) result
  account_forgets result then =
      forgetting_then {given = IsSettled} {rest = HasNames names} {xs = no_olds} {ys = old_of before names} {zs = state_olds before} settled_first then
      (λ old new sound settled tells. record { settled = subst IsSettled (sym tells.same) settled; all = tells.of_account ∙ ap keys (sym tells.same) })
      (λ old new sound after settled tells. olds_are before old settled ∙ (λ i. old_of before (sym tells.of_account i) (sym tells.same i)))
      (λ old new last y sound settled tells next.
      let here : TellsSweptBefore before (keys old) old last y = subst {A = List (List ℕ) × SwiftAccount} (λ n. TellsSweptBefore before n.0 n.1 last y) (λ i. (tells.of_account i, tells.same i)) next in
      record {
        sweeps = here.sweeps;
        dated = here.dated;
        forgotten = here.forgotten ∙ sym (ap length (olds_are before old settled));
        migrated = here.migrated ∙ sym (undated_are before old);
      })

  pub account_swept_before : {c : History} (result : Result Swept SweepFault) → Forgetting b c (HasNames names) (old_of before names) (TellsSweptBefore before names) (as_plan result)
      → (Met (HasNames names) b → c.called ≤ b.called + before_calls names (present b)) → SweepsBefore before a c result
  account_swept_before result then calls = sweeps_before before result (account_forgets (as_plan result) then) (λ met.
      let tells = forgot_here settled_first met in
      let near = first.grows.calls (any_met met) in
      let far = calls (record {
        observable = first.grows.on.observable met.observable;
        sound = sound_here settled_first met;
        has = record { settled = subst IsSettled (sym tells.same) met.has; all = tells.of_account ∙ ap keys (sym tells.same) };
      }) in
      let same : before_calls names (present b) ≡ before_calls (keys (present a)) (present a) = (λ i. before_calls (tells.of_account i) (tells.same i)) in
      let within = forget_within (present a) met.sound in
      omega (arith, near, far, same, within))

-- the names weren't told
pub account_untold : (before : ℕ) {a b : History} (f : PlanFault) (told : SweepFault) → ComesOf f told → Asks (by_account (pages (len (present a)))) a b Any (TellsOf TellsNames) (Err f) → SweepsBefore before a b (Err told)
account_untold before {a = a} {b = b} f told comes asks =
    sweeps_before before (Err told)
    (forgetting_at {given = IsSettled} {olds = state_olds before} {P = TellsAccount before} f told comes (forgetting_quiet_failed {given = Any} {given' = IsSettled} {olds = state_olds before} (λ tree has. tt) asks (Err f) refl))
    (λ met. let near = asks.grows.calls (any_met met) in omega (arith, near))
