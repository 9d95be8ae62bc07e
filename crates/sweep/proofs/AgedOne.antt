-- What is to be done with the record of one name is done.
use Rattle.std.specs.Prelude.{◌≡◌, ◌<◌, ◌≤◌, ◌+◌, ℕ, List, [], ◌∷◌, IfOk, Result, Ok, Err}
use Rattle.std.specs.Result.{IsErrAnd}
use Rattle.std.proofs.Common.{refl, sym, ap, subst, arith}
use Rattle.swift_calls.specs.Account.{SwiftAccount}
use Rattle.swift_calls.specs.History.{History, budget}
use Rattle.upload_texts.specs.declared.record.Record.{Record}
use Rattle.account_calls.specs.declared.fault.PlanFault.{PlanFault}
use Rattle.account_calls.specs.Calls.{always, Asks}
use Rattle.account_calls.specs.Listing.{TellsOf}
use Rattle.sweep.specs.declared.forget.Fate.TheVariants.{Left, Forgotten, Migrated}
use Rattle.sweep.specs.declared.forget.Aged.{Aged}
use Rattle.sweep.specs.Aging.{Forgetting, HasFile, HasRecord, TellsAged, TellsGone, fate, old_among}
use Rattle.leftovers.specs.Records.{TellsRecord}
use Rattle.sweep.proofs.ForgetCalls.{forgetting_idle, forgetting_quiet, forgetting_quiet_failed, forgetting_then, forgetting_told, forgetting_vain, no_olds}
use Rattle.sweep.proofs.Fates.{olds_left, olds_migrated, tells_forgotten, tells_left, tells_migrated}

module _ (before : ℕ) (bucket name : List ℕ) (told : Record) where
  abbrev pub AgesTold : History → History → Result Aged PlanFault → Type 0
  AgesTold a b result = Forgetting a b (HasRecord bucket name told) (old_among before bucket (name ∷ [])) (TellsAged before bucket (name ∷ [])) result

  pub aged_left : fate before told ≡ Left → (h : History) → AgesTold h h (Ok (record { forgotten = 0; migrated = 0 }))
  aged_left is h = forgetting_idle {given = HasRecord bucket name told} {olds = old_among before bucket (name ∷ [])} {P = TellsAged before bucket (name ∷ [])} h (record { forgotten = 0; migrated = 0 })
      (λ tree sound has. olds_left before bucket name told tree has is) (λ tree sound has. tells_left before bucket name told tree has is)

  pub aged_vain : {a b : History} {f : PlanFault} → Forgetting a b (HasRecord bucket name told) (old_among before bucket (name ∷ [])) (TellsGone before bucket name) (Err f)
      → (result : Result Aged PlanFault) → IsErrAnd result (λ e. e ≡ f) → AgesTold a b result
  aged_vain forgets result gives = forgetting_vain {olds = old_among before bucket (name ∷ [])} forgets result gives

  pub aged_forgotten : {a b : History} → fate before told ≡ Forgotten → Forgetting a b (HasRecord bucket name told) (old_among before bucket (name ∷ [])) (TellsGone before bucket name) (Ok tt) → AgesTold a b (Ok (record { forgotten = 1; migrated = 0 }))
  aged_forgotten is forgets =
      forgetting_told {given = HasRecord bucket name told} {given' = HasRecord bucket name told} {xs = old_among before bucket (name ∷ [])} {zs = old_among before bucket (name ∷ [])} {R = TellsAged before bucket (name ∷ [])}
      (record { forgotten = 1; migrated = 0 }) (λ tree has. has) forgets (λ old new sound has gone. refl) (λ old new sound has gone. tells_forgotten before bucket name told old has is new gone)

  pub aged_quiet_vain : {a b : History} {f : PlanFault} → Asks (always 1) a b (HasRecord bucket name told) (TellsGone before bucket name) (Err f)
      → (result : Result Aged PlanFault) → IsErrAnd result (λ e. e ≡ f) → AgesTold a b result
  aged_quiet_vain asks result gives = forgetting_quiet_failed {given = HasRecord bucket name told} {given' = HasRecord bucket name told} {olds = old_among before bucket (name ∷ [])} (λ tree has. has) asks result gives

  pub aged_migrated : {a b : History} → fate before told ≡ Migrated → Asks (always 1) a b (HasRecord bucket name told) (TellsGone before bucket name) (Ok tt) → AgesTold a b (Ok (record { forgotten = 0; migrated = 1 }))
  aged_migrated is asks =
      forgetting_told {given = HasRecord bucket name told} {given' = HasRecord bucket name told} {xs = no_olds} {zs = old_among before bucket (name ∷ [])} {R = TellsAged before bucket (name ∷ [])}
      (record { forgotten = 0; migrated = 1 }) (λ tree has. has) (forgetting_quiet asks) (λ old new sound has gone. olds_migrated before bucket name told old has is) (λ old new sound has gone. tells_migrated before bucket name told old has is new gone)

-- ---- by its name

module _ (before : ℕ) (bucket name : List ℕ) where
  abbrev pub AgesNamed : History → History → Result Aged PlanFault → Type 0
  AgesNamed a b result = Forgetting a b (HasFile bucket name) (old_among before bucket (name ∷ [])) (TellsAged before bucket (name ∷ [])) result

  pub read_in_vain : {a b : History} {f : PlanFault} → Asks (always 1) a b (HasFile bucket name) (TellsOf (TellsRecord bucket name)) (Err f) → (result : Result Aged PlanFault) → IsErrAnd result (λ e. e ≡ f) → AgesNamed a b result
  read_in_vain asks result gives = forgetting_quiet_failed {given = HasFile bucket name} {given' = HasFile bucket name} {olds = old_among before bucket (name ∷ [])} (λ tree has. has) asks result gives

  pub read_then : {a b c : History} (told : Record) → Asks (always 1) a b (HasFile bucket name) (TellsOf (TellsRecord bucket name)) (Ok told)
      → {result : Result Aged PlanFault} → AgesTold before bucket name told b c result → AgesNamed a c result
  read_then told asks aged =
      forgetting_then {given = HasFile bucket name} {rest = HasRecord bucket name told} {xs = no_olds} {ys = old_among before bucket (name ∷ [])} {zs = old_among before bucket (name ∷ [])}
      (forgetting_quiet asks) aged
      (λ old new sound has tells. subst (HasRecord bucket name told) (sym tells.same) (record { has = has.has; is = sym tells.of_account }))
      (λ old new sound after has tells. ap (old_among before bucket (name ∷ [])) (sym tells.same))
      (λ old new last y sound has tells next. subst (λ (tree : SwiftAccount). TellsAged before bucket (name ∷ []) tree last y) tells.same next)

-- ---- how it is counted

pub counted_record : (p q r : ℕ) → p < budget → q ≡ p + 1 → (result : Result Aged PlanFault) → IfOk result (λ (told : Aged). (r ≡ q + (told.forgotten + told.migrated)) × (q ≤ budget → r ≤ budget))
    → IfOk result (λ (told : Aged). (p + (told.forgotten + told.migrated) < r) × (r ≤ budget))
counted_record p q r near next (Ok told) counted = let is = counted.0 in (omega (arith, next, is), counted.1 (omega (arith, near, next)))
counted_record p q r near next (Err f) counted = counted
