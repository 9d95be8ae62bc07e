-- What a telling line tells, and what each call does to it. Source: this profile.
use Rattle.std.specs.Prelude.{◌≡◌, ◌⊎◌, ℕ, ◌+◌, ◌-◌, Bool, true, false, List, [], ◌∷◌, ◌++◌, take, slice_set}
use Rattle.gate_base.specs.declared.outside.Piece.{Piece}

pub record Transcript : Type 0 where
  -- the bytes of each connection that has not begun
  pub waiting : List (List ℕ)
  -- the bytes left of the present connection
  pub rest : List ℕ
  -- how many connections have begun
  pub begun : ℕ
  -- the pieces sent, in order
  pub sent : List Piece
  -- for each connection that has begun, whether the count of faults rose while it was served
  pub faulty : List Bool

-- the answer of `next`: another connection begins, or none is left
abbrev pub Begins : Bool → Transcript → Transcript → Type 0
Begins true old new = (old.waiting ≡ new.rest ∷ new.waiting) × (new.begun ≡ old.begun + 1) × (new.sent ≡ old.sent) × (new.faulty ≡ old.faulty ++ false ∷ [])
Begins false old new = (old.waiting ≡ []) × (new ≡ old)

-- bytes were read of the present connection; none only at its end
pub record Takes (bytes : List ℕ) (old new : Transcript) : Type 0 where
  pub rest : old.rest ≡ bytes ++ new.rest
  pub ended : bytes ≡ [] → new.rest ≡ []
  pub waiting : new.waiting ≡ old.waiting
  pub begun : new.begun ≡ old.begun
  pub sent : new.sent ≡ old.sent
  pub faulty : new.faulty ≡ old.faulty

-- a piece was sent on the present connection when the store had counted these calls
abbrev pub with_piece : Transcript → ℕ → List ℕ → Transcript
with_piece transcript at bytes = record transcript { sent = transcript.sent ++ record { connection = transcript.begun; at = at; bytes = bytes } ∷ [] }

-- the count of faults rose while the present connection was served
abbrev pub with_fault : Transcript → Transcript
with_fault transcript = record transcript { faulty = slice_set transcript.faulty (transcript.begun - 1) true }

-- a write failed: nothing was sent, or one piece with the first of the bytes
abbrev pub SendsPrefix : Transcript → ℕ → List ℕ → Transcript → Type 0
SendsPrefix old at bytes new = (new ≡ with_fault old) ⊎ ((n : ℕ) × (new ≡ with_fault (with_piece old at (take n bytes))))

-- no connection waits, and none was served
abbrev pub empty : Transcript
empty = record { waiting = []; rest = []; begun = 0; sent = []; faulty = [] }
