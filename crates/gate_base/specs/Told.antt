-- The ghost models of a sink, a clock and a source of draws, and what a call does to each. Source: this profile.
use Rattle.std.specs.Prelude.{◌≡◌, ◌<◌, ℕ, ◌+◌, ◌%◌, ◌^◌, Bool, false, IsTrue, List, [], ◌∷◌, ◌++◌, take, Result, is_err, OnOk, OnErr}
use Rattle.gate_base.specs.declared.faults.Failed.{Failed}
use Rattle.gate_base.specs.declared.outside.TheConstants.{MOMENT_LIMIT}
use Rattle.gate_base.specs.Causes.{RisesIf}

-- a `put` failed after the first n of the bytes
abbrev pub PutsPrefix : List ℕ → List ℕ → List ℕ → Type 0
PutsPrefix old bytes new = (n : ℕ) × (new ≡ old ++ take n bytes)

-- a clock gives the first of its moments, and goes on to the next, if there is one
abbrev pub GivesMoment : List ℕ → ℕ → List ℕ → Type 0
GivesMoment [] moment new = ⊥
GivesMoment (x ∷ []) moment new = (moment ≡ x) × (new ≡ x ∷ [])
GivesMoment (x ∷ y ∷ ys) moment new = (moment ≡ x) × (new ≡ y ∷ ys)

-- a source gives the first of its draws; past the last it counts up
abbrev pub GivesDraw : List ℕ → ℕ → List ℕ → Type 0
GivesDraw [] draw new = ⊥
GivesDraw (x ∷ []) draw new = (draw ≡ x) × (new ≡ (x + 1) % 2 ^ 128 ∷ [])
GivesDraw (x ∷ y ∷ ys) draw new = (draw ≡ x) × (new ≡ y ∷ ys)

-- each moment of a clock is below this one
abbrev pub moment_limit : ℕ
moment_limit = MOMENT_LIMIT

-- ---- a sink

pub record SinkModel : Type 0 where
  -- the calls that failed
  pub faults : ℕ
  -- whether the sink tells its contents, and these: the bytes put
  pub observable : Bool
  pub bytes : List ℕ

-- `put` of these bytes
pub record SinkPut (old : SinkModel) (bytes : List ℕ) (result : Result (Unit {0}) Failed) (new : SinkModel) : Type 0 where
  pub faults : RisesIf (is_err result) old.faults new.faults
  pub observable : IsTrue old.observable → IsTrue new.observable
  pub effect : IsTrue old.observable → OnOk result (new.bytes ≡ old.bytes ++ bytes)
  pub effect_err : IsTrue old.observable → OnErr result (PutsPrefix old.bytes bytes new.bytes)

-- ---- a clock, a source of draws

pub record SourceModel : Type 0 where
  -- whether it tells its values, and these: those still to come
  pub observable : Bool
  pub values : List ℕ

-- a source that tells nothing
abbrev pub silent_source : SourceModel
silent_source = record { observable = false; values = [] }

-- `now` of a clock
pub record ClockNow (old : SourceModel) (moment : ℕ) (new : SourceModel) : Type 0 where
  pub limit : moment < moment_limit
  pub observable : IsTrue old.observable → IsTrue new.observable
  pub effect : IsTrue old.observable → GivesMoment old.values moment new.values

-- `draw` of a source of draws
pub record DrawsDraw (old : SourceModel) (draw : ℕ) (new : SourceModel) : Type 0 where
  pub observable : IsTrue old.observable → IsTrue new.observable
  pub effect : IsTrue old.observable → GivesDraw old.values draw new.values
