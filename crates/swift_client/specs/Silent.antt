-- What is told of a link that tells nothing of its contents. Source: this profile.
use Rattle.std.specs.Prelude.{ℕ, false, []}
use Rattle.std.specs.FinMap.{empty}
use Rattle.swift_calls.specs.History.{History}
use Rattle.swift_requests.specs.declared.place.Place.{Place}

-- its counts alone
abbrev pub silent_history : ℕ → ℕ → History
silent_history called faults = record { observable = false; sure = false; called = called; faults = faults; account_at = λ k. empty; faults_at = λ k. 0 }

-- no place
abbrev pub nowhere : Place
nowhere = record { host = []; account = []; token = [] }
