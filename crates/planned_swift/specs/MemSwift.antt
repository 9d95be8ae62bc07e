-- What a store in memory tells of itself.
use Rattle.std.specs.Prelude.{◌≡◌, ℕ, true, length, take}
use Rattle.swift_calls.specs.History.{History}
use Rattle.swift_calls.specs.Account.{SwiftAccount}
use Rattle.planned_swift.specs.Accounts.{tree_of}
use Rattle.swift_calls.specs.Outcomes.{outcome_of, loses_none}
use Rattle.planned_swift.specs.Replay.{replayed, failures}
use Rattle.planned_swift.specs.declared.account.Account.{Account}
use Rattle.swift_calls.specs.declared.outcome.Outcome.{Outcome}
use Rattle.planned_swift.specs.declared.memory.MemSwift.{MemSwift}

-- how many calls it has counted
abbrev pub calls_of : MemSwift → ℕ
calls_of m = length m.log.items

-- the account after so many of them
abbrev pub account_after : MemSwift → ℕ → Account
account_after m k = replayed m.first (take k m.log.items)

-- the same as maps
abbrev pub tree_after : MemSwift → ℕ → SwiftAccount
tree_after m k = tree_of (account_after m k)

-- how many of them failed
abbrev pub faults_after : MemSwift → ℕ → ℕ
faults_after m k = failures (take k m.log.items)

-- what it counts and tells
abbrev pub history_of : MemSwift → History
history_of m = record {
  observable = true;
  sure = loses_none m.before m.after m.stop;
  called = calls_of m;
  faults = failures m.log.items;
  account_at = tree_after m;
  faults_at = faults_after m;
}

-- how the call of a number goes
abbrev pub planned : MemSwift → ℕ → Outcome
planned m number = outcome_of m.before m.after m.stop number

-- both began with one account, and their calls go alike
pub record SamePlan (old new : MemSwift) : Type 0 where
  pub first : new.first ≡ old.first
  pub before : new.before ≡ old.before
  pub after : new.after ≡ old.after
  pub stop : new.stop ≡ old.stop
