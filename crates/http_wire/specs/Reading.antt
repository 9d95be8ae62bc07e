-- What a call of the reader gives, and what it does to the bytes that are left and to the line. Source: this profile.
use Rattle.std.specs.Prelude.{◌≡◌, ◌⊎◌, ℕ, ◌+◌, ◌-◌, ◌*◌, ◌^◌, min, Bool, true, false, List, length, drop, Result, Ok, Err, ⊤}
use Rattle.http_wire.specs.declared.message.Got.{Got}
use Rattle.http_wire.specs.declared.message.Got.TheVariants.{Request, End, CutShort, Refused}
use Rattle.http_wire.specs.declared.message.ReadFault.{ReadFault}
use Rattle.http_wire.specs.declared.message.ReadFault.TheVariants.{Failed, Memory}
use Rattle.http_wire.specs.FirstMessage.{BeginsWith, asks, nothing, cut_short, refused}

-- the state of a reader
pub record Pending : Type 0 where
  -- the bytes that were read of the line and not given yet
  pub bytes : List ℕ
  -- how many bytes of the connection were given
  pub place : ℕ
  -- whether it answers End from now on
  pub ended : Bool

-- a count of bytes that a `u64` keeps: it stays at its greatest value
abbrev pub place_after : ℕ → ℕ → ℕ
place_after place size = min (place + size) (2 ^ 64 - 1)

-- the answer is the first message of all bytes that are left, read or not, where a body has at most so many, and just the bytes of a
-- request are gone from them
abbrev pub GivesFirstMessage : ℕ → Pending → List ℕ → Got → Pending → List ℕ → Type 0
GivesFirstMessage limit old all (Request message) new left =
    (size : ℕ) × (old.ended ≡ false) × BeginsWith limit all (asks message size) × (left ≡ drop size all) × (new.place ≡ place_after old.place size)
GivesFirstMessage limit old all End new left =
    ((old.ended ≡ true) ⊎ BeginsWith limit all nothing) × (left ≡ all) × (new.place ≡ old.place)
GivesFirstMessage limit old all (CutShort place) new left =
    (old.ended ≡ false) × BeginsWith limit all cut_short × (place ≡ old.place) × (left ≡ all) × (new.place ≡ old.place)
GivesFirstMessage limit old all (Refused kind place head) new left =
    (old.ended ≡ false) × BeginsWith limit all (refused kind head) × (place ≡ old.place) × (left ≡ all) × (new.place ≡ old.place)

-- whether the reader answers End after this answer: after any but a request
abbrev pub ends : Result Got ReadFault → Bool
ends (Ok (Request message)) = false
ends (Ok End) = true
ends (Ok (CutShort place)) = true
ends (Ok (Refused kind place head)) = true
ends (Err fault) = true

-- P, if the answer is a request
abbrev pub OnRequest : Result Got ReadFault → Type 0 → Type 0
OnRequest (Ok (Request message)) P = P
OnRequest (Ok End) P = ⊤
OnRequest (Ok (CutShort place)) P = ⊤
OnRequest (Ok (Refused kind place head)) P = ⊤
OnRequest (Err fault) P = ⊤

-- whether the line failed
abbrev pub is_failed_read : {A : Type 0} → Result A ReadFault → Bool
is_failed_read (Ok a) = false
is_failed_read (Err Failed) = true
is_failed_read (Err Memory) = false

-- what is left to do over a line: it falls at each request, so that a loop over requests ends. One read brings fewer bytes than the factor
abbrev pub weight : ℕ → List ℕ → ℕ
weight spent bytes = (2 ^ 63 - spent) * 32768 + length bytes
