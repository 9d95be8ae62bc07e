-- What is said of a trial: it is one connection of a service over a store, whose requests are the trial's. Source: this profile.
use Rattle.std.specs.Prelude.{◌≡◌, ℕ, Bool, ◌+◌, ◌-◌, ◌^◌, min, max, ◌∷◌, ◌++◌, zero, suc, true, false, List, [], length, codes, Result, Ok, Err}
use Rattle.sha2.specs.Sha256.{sha256}
use Rattle.gate_base.specs.Causes.{Rose}
use Rattle.gate_base.specs.Line.{LineModel, LineServes}
use Rattle.gate_base.specs.ListTold.{source_of}
use Rattle.gate_base.specs.Told.{SourceModel}
use Rattle.gate_base.specs.declared.faults.Memory.{Memory}
use Rattle.s3_machine.specs.Limits.{strict_settings}
use Rattle.sigv4.specs.Keys.{keys_of}
use Rattle.sigv4.specs.declared.keys.AccessKey.{AccessKey}
use Rattle.swift_calls.specs.History.{History}
use Rattle.account_calls.specs.Calls.{Any, Met}
use Rattle.account_calls.specs.declared.state.Known.{Known}
use Rattle.account_calls.specs.declared.state.Known.TheVariants.{Unsure}
use Rattle.gateway.specs.declared.ended.Ended.{Ended}
use Rattle.gateway.specs.declared.ended.Ended.TheVariants.{StoreFailed, Inconsistent}
use Rattle.gateway.specs.declared.service.Service.{Service}
use Rattle.gateway.specs.Exchange.{Span, Where, store_cursor}
use Rattle.gateway.specs.Connection.{Progress, ConnectionCursor, ConnectionTrace, cursor, is_failed_end, progress}
use Rattle.gateway.specs.World.{world, ServesOver, progress_of, start_of}
use Rattle.trial_cmd.specs.declared.serve.Trial.{Trial}
use Rattle.trial_cmd.specs.Replied.{OwnReplies, RepliesAlone, is_replied_end, output_of}
use Rattle.trial_requests.specs.Trial.{trial_text}

-- the one key of a trial
unfoldable pub trial_keys : List AccessKey
trial_keys = keys_of (codes "TRIAL trial\n")

-- its settings and its keys
abbrev pub trial_service : Service
trial_service =
    record { settings = strict_settings (codes "us-east-1") 1 16777216; keys = trial_keys }

-- the moments from the beginning of 24 May 2013 on, a second apart
unfoldable pub first_moments : ℕ → List ℕ
first_moments zero = []
first_moments (suc count) = first_moments count ++ (1369353600 + count) ∷ []

-- one for each request, and one where there is none
abbrev pub trial_moments : ℕ → List ℕ
trial_moments requests = first_moments (max requests 1)

-- the connection of a trial as it begins: nothing is known of the store, and nothing was written
abbrev pub trial_start : ℕ → ℕ → History → ConnectionCursor
trial_start number requests old = cursor (trial_text number requests) 0 (progress (store_cursor old Unsure) (trial_moments requests) (1 ∷ []) [])

-- a line whose one connection has begun, with the bytes of the requests, and on which nothing was written
pub record IsTrialLine (number requests : ℕ) (line : LineModel) : Type 0 where
  pub is_open : line.is_open ≡ true
  pub observable : line.observable ≡ true
  pub rest : line.transcript.rest ≡ trial_text number requests
  pub waiting : line.transcript.waiting ≡ []
  pub begun : line.transcript.begun ≡ 1
  pub sent : line.transcript.sent ≡ []

-- a connection was served over a store, and what was written has this size and hash; a size past the greatest of 64 bits stays
-- there. It ends because the store failed only where the store's count of faults rose, and because of an object that no consistent
-- account has never over one. Where it ended by its bytes or by a reply, and that count did not rise, what was written are the
-- replies alone: over an observable store with a consistent account (true) the machine's, and over every store (false)
pub record TrialTalks (service : Service) (line : LineModel) (clock draws : SourceModel) (old : History) (trial : Trial) (new : History) : Type 0 where
  pub line' : LineModel
  pub clock' : SourceModel
  pub draws' : SourceModel
  pub known : Known
  pub fails : LineServes (is_failed_end trial.ended) line line'
  pub serves : ServesOver service.settings
      (λ R from to. (spans : List Span) × ConnectionTrace service R from.line.transcript.begun trial.ended (start_of from) spans (progress_of to))
      (world line old Unsure clock draws) (world line' new known clock' draws')
  pub size : trial.size ≡ min (length (output_of line'.transcript.sent)) (2 ^ 64 - 1)
  pub failed : trial.ended ≡ StoreFailed → Rose old.faults new.faults
  pub consistent : Met Any old → (container name : List ℕ) → trial.ended ≡ Inconsistent container name → ⊥
  pub hash : trial.hash ≡ sha256 (output_of line'.transcript.sent)
  pub alone : is_replied_end trial.ended ≡ true → (Rose old.faults new.faults → ⊥) → (all : Bool) → Where all (Met Any old)
      → (output : List ℕ) × RepliesAlone service (OwnReplies all service.settings new) line.transcript.begun trial.ended
      (start_of (world line old Unsure clock draws)) output (progress_of (world line' new known clock' draws'))

-- the requests of a trial were answered, or memory ran out before the first
abbrev pub TrialDoes : ℕ → ℕ → History → Result Trial Memory → History → Type 0
TrialDoes number requests old (Ok trial) new =
    (line : LineModel) × IsTrialLine number requests line
    × TrialTalks trial_service line (source_of (trial_moments requests)) (source_of (1 ∷ [])) old trial new
TrialDoes number requests old (Err fault) new = new ≡ old

-- what was written for the requests of a trial: their replies alone, over all calls of the run
pub record TrialReplied (all : Bool) (number requests : ℕ) (old : History) (output : List ℕ) (new : History) : Type 0 where
  pub ended : Ended
  pub exit : Progress
  pub replies : RepliesAlone trial_service (OwnReplies all trial_service.settings new) 1 ended (trial_start number requests old) output exit
  pub calls : exit.store.number ≡ new.called
