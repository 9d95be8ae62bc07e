-- How the calls of a store in memory go, and what they leave. Source: this profile.
use Rattle.std.specs.Prelude.{◌≡◌, ℕ, Bool, true, List, [], ◌∷◌, ◌++◌, count_by, Option, None, Some, Result, Ok, Err}
use Rattle.std.specs.List.{list_all}
use Rattle.swift_calls.specs.Outcomes.{is_lost}
use Rattle.planned_swift.specs.Lists.{served, is_small}
use Rattle.planned_swift.specs.declared.account.Account.{Account}
use Rattle.swift_calls.specs.declared.calls.SwiftRequest.{SwiftRequest}
use Rattle.swift_calls.specs.declared.calls.SwiftReply.{SwiftReply}
use Rattle.swift_calls.specs.declared.calls.SwiftFault.{SwiftFault}
use Rattle.swift_calls.specs.declared.calls.SwiftFault.TheVariants.{Failed, Memory}
use Rattle.swift_calls.specs.declared.outcome.Outcome.{Outcome}
use Rattle.swift_calls.specs.declared.outcome.Outcome.TheVariants.{Answered, LostBefore, LostAfter}
use Rattle.planned_swift.specs.declared.memory.Entry.{Entry}

-- what a call leaves of an account
abbrev pub left_by : Outcome → SwiftRequest → Account → Account
left_by Answered request account = served request account
left_by LostBefore request account = account
left_by LostAfter request account = served request account

-- the reply that arrives
abbrev pub reply_by : Outcome → SwiftReply → Option SwiftReply
reply_by Answered reply = Some reply
reply_by LostBefore reply = None
reply_by LostAfter reply = None

-- an account after these calls
unfoldable pub replayed : Account → List Entry → Account
replayed account [] = account
replayed account (e ∷ entries) = replayed (left_by e.outcome e.request account) entries

-- each body that these calls put is below 2^63 bytes
abbrev pub all_small : List Entry → Bool
all_small entries = list_all (λ e. is_small e.request) entries

-- how many of these calls failed
abbrev pub failures : List Entry → ℕ
failures entries = count_by (λ e. is_lost e.outcome) entries

-- what a call answers, and the account that it leaves; where memory runs out it leaves all as it was
abbrev pub Goes : Outcome → SwiftRequest → Result SwiftReply SwiftFault → Account → Account → Type 0
Goes outcome request (Ok reply) old new = (outcome ≡ Answered) × (new ≡ served request old)
Goes outcome request (Err Failed) old new = (is_lost outcome ≡ true) × (new ≡ left_by outcome request old)
Goes outcome request (Err Memory) old new = new ≡ old

-- what a call adds to the record
abbrev pub Logs : Outcome → SwiftRequest → Result SwiftReply SwiftFault → List Entry → List Entry → Type 0
Logs outcome request (Ok reply) old new = (outcome ≡ Answered) × (new ≡ old ++ record { request = request; outcome = outcome } ∷ [])
Logs outcome request (Err Failed) old new = (is_lost outcome ≡ true) × (new ≡ old ++ record { request = request; outcome = outcome } ∷ [])
Logs outcome request (Err Memory) old new = new ≡ old
