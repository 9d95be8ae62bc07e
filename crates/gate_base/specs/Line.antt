-- The ghost model of a line, and what each of its calls does to it. Source: this profile.
use Rattle.std.specs.Prelude.{◌≡◌, ◌<◌, ◌≤◌, ℕ, Bool, true, false, IsTrue, List, length, take, if◌then◌else◌, Result, Ok, Err, is_err, IfOk, OnOk, OnErr}
use Rattle.gate_base.specs.declared.faults.Failed.{Failed}
use Rattle.gate_base.specs.Causes.{RisesIf, Spends, SpendsIf}
use Rattle.gate_base.specs.Transcript.{Transcript, empty, Begins, Takes, with_piece, with_fault, SendsPrefix}

pub record LineModel : Type 0 where
  -- whether a connection is open
  pub is_open : Bool
  -- the calls that failed, and of these those of `next`
  pub faults : ℕ
  pub next_faults : ℕ
  -- how many calls of `next` answered true and of `read` gave bytes: at most 2^63
  pub spent : ℕ
  -- whether the line tells its contents, and these
  pub observable : Bool
  pub transcript : Transcript

-- what stays of the transcript while the open connection is served: all but the bytes left of it, the pieces sent, and the
-- note of a failure
pub record TranscriptServes (failed : Bool) (old new : Transcript) : Type 0 where
  pub waiting : new.waiting ≡ old.waiting
  pub begun : new.begun ≡ old.begun
  pub faulty : new.faulty ≡ (if failed then (with_fault old).faulty else old.faulty)

-- the line after any number of reads and writes on the open connection. If `failed`, the last of them failed, and else none did
pub record LineServes (failed : Bool) (old new : LineModel) : Type 0 where
  pub is_open : new.is_open ≡ true
  pub faults : RisesIf failed old.faults new.faults
  pub next_faults : new.next_faults ≡ old.next_faults
  pub spent : old.spent ≤ new.spent
  pub observable : IsTrue old.observable → IsTrue new.observable
  pub transcript : IsTrue old.observable → TranscriptServes failed old.transcript new.transcript

-- `LineServes` without a write
pub record OnlyReads (failed : Bool) (old new : LineModel) : Type 0 where
  pub serves : LineServes failed old new
  pub sent : IsTrue old.observable → new.transcript.sent ≡ old.transcript.sent

-- `LineServes` without a read
pub record OnlyWrites (failed : Bool) (old new : LineModel) : Type 0 where
  pub serves : LineServes failed old new
  pub spent : new.spent ≡ old.spent
  pub rest : IsTrue old.observable → new.transcript.rest ≡ old.transcript.rest

-- ---- one call

-- whether another connection began
abbrev pub does_begin : Result Bool Failed → Bool
does_begin (Ok begun) = begun
does_begin (Err fault) = false

-- `next`: the present connection ended. Where the call failed, no other began
pub record LineNext (old : LineModel) (result : Result Bool Failed) (new : LineModel) : Type 0 where
  pub is_open : new.is_open ≡ does_begin result
  pub faults : RisesIf (is_err result) old.faults new.faults
  pub next_faults : RisesIf (is_err result) old.next_faults new.next_faults
  pub spent : SpendsIf (does_begin result) old.spent new.spent
  pub observable : IsTrue old.observable → IsTrue new.observable
  pub effect : IsTrue old.observable → IfOk result (λ begun. Begins begun old.transcript new.transcript)
  pub effect_err : IsTrue old.observable → OnErr result (new.transcript ≡ old.transcript)

-- `read` into a buffer of so many bytes, which holds these now
pub record LineRead (old : LineModel) (room : ℕ) (bytes : List ℕ) (result : Result ℕ Failed) (new : LineModel) : Type 0 where
  pub within : IfOk result (λ count. count ≤ room)
  pub reads : OnlyReads (is_err result) old new
  pub spent : IfOk result (λ count. 0 < count → Spends old.spent new.spent)
  pub unspent : IfOk result (λ count. count ≡ 0 → new.spent ≡ old.spent)
  pub spent_err : OnErr result (new.spent ≡ old.spent)
  pub effect : IsTrue old.observable → IfOk result (λ count. Takes (take count bytes) old.transcript new.transcript)
  pub effect_err : IsTrue old.observable → OnErr result (new.transcript ≡ with_fault old.transcript)

-- `write` of these bytes, when the store had counted so many calls
pub record LineWrite (old : LineModel) (at : ℕ) (bytes : List ℕ) (result : Result (Unit {0}) Failed) (new : LineModel) : Type 0 where
  pub writes : OnlyWrites (is_err result) old new
  pub effect : IsTrue old.observable → OnOk result (new.transcript ≡ with_piece old.transcript at bytes)
  pub effect_err : IsTrue old.observable → OnErr result (SendsPrefix old.transcript at bytes new.transcript)

-- `close`: the present connection ended
pub record LineClose (old new : LineModel) : Type 0 where
  pub is_open : new.is_open ≡ false
  pub faults : new.faults ≡ old.faults
  pub next_faults : new.next_faults ≡ old.next_faults
  pub spent : new.spent ≡ old.spent
  pub observable : IsTrue old.observable → IsTrue new.observable
  pub effect : IsTrue old.observable → new.transcript ≡ old.transcript

-- what holds of each line: each connection that has begun has its place in `faulty`, and the faults of `next` are among the faults
pub record IsLine (line : LineModel) : Type 0 where
  pub one_for_each : IsTrue line.observable → length line.transcript.faulty ≡ line.transcript.begun
  pub next_within : line.next_faults ≤ line.faults

-- a line that tells nothing, and whose calls of `next` never fail, as standard streams are
abbrev pub silent_line : Bool → ℕ → ℕ → LineModel
silent_line is_open faults spent = record { is_open = is_open; faults = faults; next_faults = 0; spent = spent; observable = false; transcript = empty }
