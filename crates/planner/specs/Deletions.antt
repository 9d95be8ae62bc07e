-- What the deletion of many keys of a bucket, one after another, does to the S3 state. Source: this profile.
use Rattle.std.specs.Prelude.{◌≡◌, ◌≤◌, ℕ, Bool, IsTrue, List, length, map, take, Result, Ok, Err}
use Rattle.s3_machine.specs.declared.operation.Label.{Label}
use Rattle.s3_machine.specs.Ops.{DeleteObjects}
use Rattle.s3_machine.specs.declared.operation.Settings.{Settings}
use Rattle.swift_calls.specs.History.{History, present}
use Rattle.upload_records.specs.Native.{IsSettled, s3_state}
use Rattle.account_calls.specs.Answers.{Passes, StepsThrough, deletion}
use Rattle.account_calls.specs.Calls.{always, Given, Grows, HasBucket, Met}
use Rattle.account_calls.specs.Fault.{CausesFault}
use Rattle.account_calls.specs.Stutters.{LastFailed}
use Rattle.account_calls.specs.declared.fault.PlanFault.{PlanFault}
use Rattle.account_calls.specs.declared.fault.PlanFault.TheVariants.{Failed, Memory, Inconsistent}

-- by q the first n of the keys are deleted, one after another. At each number from p on the account is consistent, and its state
-- is the one after the first of them, of which there never are fewer later
pub record DeletesFirst (bucket : List ℕ) (keys : List (List ℕ)) (h : History) (p q : ℕ) (settings : Settings) (label : Label) (n : ℕ) : Type 0 where
  pub within : n ≤ length keys
  pub through : StepsThrough settings label (s3_state (h.account_at p)) (take n (map (deletion bucket) keys)) (s3_state (h.account_at q))
  -- the number of calls by which the last of them is; and whether the reply is to name them is no matter to the account
  pub turn : ℕ
  pub passes : (quiet : Bool) → Passes settings h p turn q (DeleteObjects bucket keys quiet) label n

-- all are, and no call failed; or some of the first are: where the store failed, at the last call and no earlier one, and where
-- memory ran out, at none
abbrev pub DeletesBy : List ℕ → List (List ℕ) → History → ℕ → ℕ → Settings → Label → Result (Unit {0}) PlanFault → Type 0
DeletesBy bucket keys h p q settings label (Ok done) = DeletesFirst bucket keys h p q settings label (length keys) × (h.faults_at q ≡ h.faults_at p)
DeletesBy bucket keys h p q settings label (Err Failed) = (n : ℕ) × DeletesFirst bucket keys h p q settings label n × LastFailed h p q
DeletesBy bucket keys h p q settings label (Err Memory) = (n : ℕ) × DeletesFirst bucket keys h p q settings label n × (h.faults_at q ≡ h.faults_at p)
DeletesBy bucket keys h p q settings label (Err Inconsistent) = ⊥

-- the keys of a bucket that is there are deleted, by at most one call for each
pub record Deletes (bucket : List ℕ) (keys : List (List ℕ)) (old new : History) (settings : Settings) (result : Result (Unit {0}) PlanFault) : Type 0 where
  pub grows : Grows (always (length keys)) (Given (HasBucket bucket)) old new
  pub cause : CausesFault old.faults new.faults result
  pub effect : Met (Given (HasBucket bucket)) old → (label : Label) → DeletesBy bucket keys new old.called new.called settings label result
  pub settled : IsTrue old.observable → IsSettled (present old) → IsSettled (present new)
