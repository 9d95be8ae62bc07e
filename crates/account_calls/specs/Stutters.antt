-- What the calls between two numbers do to the S3 state: nothing, or the last of them failed. Each definition takes the
-- history first. Source: this profile.
use Rattle.std.specs.Prelude.{◌≡◌, ◌⊎◌, ◌<◌, ◌≤◌, ℕ, ◌+◌}
use Rattle.gate_base.specs.Causes.{Rose}
use Rattle.swift_calls.specs.History.{History, budget}
use Rattle.upload_records.specs.Native.{s3_state}
use Rattle.upload_records.specs.Consistent.{IsConsistent}

-- from p to q the account is consistent and represents one state
pub record Stutters (h : History) (p q : ℕ) : Type 0 where
  pub ordered : p ≤ q
  pub same : (k : ℕ) → p ≤ k → k ≤ q → s3_state (h.account_at k) ≡ s3_state (h.account_at p)
  pub sound : (k : ℕ) → p ≤ k → k ≤ q → IsConsistent (h.account_at k)

-- at each number from p on and before q the account represents the state at p
abbrev pub OldBefore : History → ℕ → ℕ → Type 0
OldBefore h p q = (k : ℕ) → p ≤ k → k < q → s3_state (h.account_at k) ≡ s3_state (h.account_at p)

-- the history with the same accounts in which no call failed
abbrev pub calm : History → History
calm h = record h { faults_at = λ k. 0 }

-- a call failed, and no earlier one from p on did: it was the last before q, and the count of faults rose with it; or no call
-- was left for it
pub record LastFailed (h : History) (p q : ℕ) : Type 0 where
  -- the number of calls before it
  pub last : ℕ
  pub after_p : p ≤ last
  pub no_fault : h.faults_at last ≡ h.faults_at p
  pub fails : ((q ≡ last + 1) × Rose (h.faults_at last) (h.faults_at q)) ⊎ ((q ≡ last) × (budget ≤ last))
