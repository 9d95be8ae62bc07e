-- What is done with a record, and what becomes of it.
use Rattle.std.specs.Prelude.{◌≡◌, ℕ, nat_lt, Bool, true, false, not, cond, List, [], ◌∷◌, length, None, Some}
use Rattle.std.proofs.Common.{refl, sym, ap, ◌∙◌}
use Rattle.s3_machine.specs.declared.operation.Listed.{Listed}
use Rattle.swift_calls.specs.Account.{SwiftAccount}
use Rattle.upload_texts.specs.declared.record.Record.{Record}
use Rattle.upload_texts.specs.declared.record.Record.TheVariants.{Open, Done}
use Rattle.sweep.specs.declared.forget.Fate.TheVariants.{Left, Forgotten, Migrated}
use Rattle.sweep.specs.Aging.{HasRecord, TellsAged, TellsGone, aged, fate, is_old, old_among, record_beside, undated_among}
use Rattle.sweep.specs.Forgetting.{is_undated, is_undated_since}
use Rattle.sweep.proofs.AgesOne.{olds_one, stays_so}

-- ---- by what is done

module _ (before : ℕ) (key : List ℕ) (list : List Listed) (etag : List ℕ) (started : ℕ) where
  abbrev of_done : ℕ → Record
  of_done moment = Done key list etag started (Some moment)

  abbrev of_undated : Record
  of_undated = Done key list etag started None

  left_done : (moment : ℕ) (t : Bool) → nat_lt moment before ≡ t → cond t Forgotten Left ≡ Left
      → (is_old before (Some (of_done moment)) ≡ false) × (aged before (Some (of_done moment)) ≡ Some (of_done moment)) × (is_undated_since before (Some (of_done moment)) ≡ false)
  left_done moment true same e = cc
  left_done moment false same e = (same, ap (λ t. cond t None (Some (of_done moment))) same, refl)

  left_undated : (t : Bool) → cond t Forgotten Migrated ≡ Left
      → (is_old before (Some of_undated) ≡ false) × (aged before (Some of_undated) ≡ Some of_undated) × (is_undated_since before (Some of_undated) ≡ false)
  left_undated true e = cc
  left_undated false e = cc

  forgotten_done : (moment : ℕ) (t : Bool) → nat_lt moment before ≡ t → cond t Forgotten Left ≡ Forgotten → (is_old before (Some (of_done moment)) ≡ true) × (is_undated_since before (Some (of_done moment)) ≡ false)
  forgotten_done moment true same e = (same, refl)
  forgotten_done moment false same e = cc

  forgotten_undated : (t : Bool) → nat_lt started before ≡ t → cond t Forgotten Migrated ≡ Forgotten → (is_old before (Some of_undated) ≡ true) × (is_undated_since before (Some of_undated) ≡ false)
  forgotten_undated true same e = (same, ap not same)
  forgotten_undated false same e = cc

  migrated_done : (moment : ℕ) (t : Bool) → cond t Forgotten Left ≡ Migrated → (is_old before (Some (of_done moment)) ≡ false) × (is_undated (Some (of_done moment)) ≡ true) × (is_undated_since before (Some (of_done moment)) ≡ true)
  migrated_done moment true e = cc
  migrated_done moment false e = cc

  migrated_undated : (t : Bool) → nat_lt started before ≡ t → cond t Forgotten Migrated ≡ Migrated → (is_old before (Some of_undated) ≡ false) × (is_undated (Some of_undated) ≡ true) × (is_undated_since before (Some of_undated) ≡ true)
  migrated_undated true same e = cc
  migrated_undated false same e = (same, refl, ap not same)

pub fate_left : (before : ℕ) (told : Record) → fate before told ≡ Left → (is_old before (Some told) ≡ false) × (aged before (Some told) ≡ Some told) × (is_undated_since before (Some told) ≡ false)
fate_left before (Open key content_type meta started) e = (refl, refl, refl)
fate_left before (Done key list etag started (Some moment)) e = left_done before key list etag started moment (nat_lt moment before) refl e
fate_left before (Done key list etag started None) e = left_undated before key list etag started (nat_lt started before) e

pub fate_forgotten : (before : ℕ) (told : Record) → fate before told ≡ Forgotten → (is_old before (Some told) ≡ true) × (is_undated_since before (Some told) ≡ false)
fate_forgotten before (Open key content_type meta started) e = cc
fate_forgotten before (Done key list etag started (Some moment)) e = forgotten_done before key list etag started moment (nat_lt moment before) refl e
fate_forgotten before (Done key list etag started None) e = forgotten_undated before key list etag started (nat_lt started before) refl e

pub fate_migrated : (before : ℕ) (told : Record) → fate before told ≡ Migrated → (is_old before (Some told) ≡ false) × (is_undated (Some told) ≡ true) × (is_undated_since before (Some told) ≡ true)
fate_migrated before (Open key content_type meta started) e = cc
fate_migrated before (Done key list etag started (Some moment)) e = migrated_done before key list etag started moment (nat_lt moment before) e
fate_migrated before (Done key list etag started None) e = migrated_undated before key list etag started (nat_lt started before) refl e

-- ---- what is counted

counted_by : (name : List ℕ) (t : Bool) → length (cond t (name ∷ []) []) ≡ cond t 1 0
counted_by name true = refl
counted_by name false = refl

undated_one : (before : ℕ) (bucket name : List ℕ) (tree : SwiftAccount) (t : Bool) → is_undated_since before (record_beside tree bucket name) ≡ t → undated_among before bucket (name ∷ []) tree ≡ cond t 1 0
undated_one before bucket name tree t e = ap (λ s. length (cond s (name ∷ []) [])) e ∙ counted_by name t

module _ (before : ℕ) (bucket name : List ℕ) (told : Record) (tree : SwiftAccount) (has : HasRecord bucket name told tree) where
  left_olds : fate before told ≡ Left → old_among before bucket (name ∷ []) tree ≡ []
  left_olds e = olds_one before bucket name tree false (ap (is_old before) has.is ∙ (fate_left before told e).0)

  pub olds_left : fate before told ≡ Left → old_among before bucket (name ∷ []) tree ≡ []
  olds_left e = left_olds e

  pub olds_migrated : fate before told ≡ Migrated → old_among before bucket (name ∷ []) tree ≡ []
  olds_migrated e = olds_one before bucket name tree false (ap (is_old before) has.is ∙ (fate_migrated before told e).0)

  pub tells_left : fate before told ≡ Left → TellsAged before bucket (name ∷ []) tree tree (record { forgotten = 0; migrated = 0 })
  tells_left e =
      let so = fate_left before told e in
      record {
        ages = stays_so before bucket name tree (has.is ∙ sym (ap (aged before) has.is ∙ so.1));
        settled = has.has.settled;
        forgotten = sym (ap length (left_olds e));
        migrated = sym (undated_one before bucket name tree false (ap (is_undated_since before) has.is ∙ so.2));
      }

  pub tells_forgotten : fate before told ≡ Forgotten → (new : SwiftAccount) → TellsGone before bucket name tree new tt → TellsAged before bucket (name ∷ []) tree new (record { forgotten = 1; migrated = 0 })
  tells_forgotten e new gone =
      let so = fate_forgotten before told e in
      record {
        ages = gone.0;
        settled = gone.1;
        forgotten = sym (ap length (olds_one before bucket name tree true (ap (is_old before) has.is ∙ so.0)));
        migrated = sym (undated_one before bucket name tree false (ap (is_undated_since before) has.is ∙ so.1));
      }

  pub tells_migrated : fate before told ≡ Migrated → (new : SwiftAccount) → TellsGone before bucket name tree new tt → TellsAged before bucket (name ∷ []) tree new (record { forgotten = 0; migrated = 1 })
  tells_migrated e new gone =
      let so = fate_migrated before told e in
      record {
        ages = gone.0;
        settled = gone.1;
        forgotten = sym (ap length (olds_migrated e));
        migrated = sym (undated_one before bucket name tree true (ap (is_undated_since before) has.is ∙ so.2));
      }
