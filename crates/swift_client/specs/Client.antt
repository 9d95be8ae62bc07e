-- What a store over a link tells of itself, and how it reads answers. Source: this profile.
use Rattle.std.specs.Prelude.{ℕ, ◌+◌, nat_eq, Bool, ◌&&◌, List, bytes_eq, Result, Ok, Err}
use Rattle.swift_calls.specs.History.{History}
use Rattle.swift_calls.specs.declared.calls.SwiftRequest.{SwiftRequest}
use Rattle.swift_calls.specs.declared.calls.SwiftReply.{SwiftReply}
use Rattle.swift_calls.specs.declared.calls.SwiftFault.{SwiftFault}
use Rattle.swift_calls.specs.declared.calls.SwiftFault.TheVariants.{Failed, Memory}
use Rattle.swift_replies.specs.Answers.{SpellsAnswer}
use Rattle.swift_requests.specs.declared.place.Place.{Place}

abbrev pub is_same_place : Place → Place → Bool
is_same_place a b = bytes_eq a.host b.host && (bytes_eq a.account b.account && bytes_eq a.token b.token)

-- the history of a store over a link with a place, where the store's calls name another or the same place: the link's, with
-- the faults that are the store's own added. It is told where the link tells its history, the places are the same, and no fault
-- is the store's own
abbrev pub history_over : History → Place → Place → ℕ → History
history_over link there place own =
    record link { observable = link.observable && (is_same_place there place && nat_eq own 0); faults = link.faults + own }

-- how an answer was read: as a reply that it spells, or it spells none
abbrev pub ReadsAs : SwiftRequest → List ℕ → Result SwiftReply SwiftFault → Type 0
ReadsAs request bytes (Ok reply) = SpellsAnswer request reply bytes
ReadsAs request bytes (Err Failed) = (reply : SwiftReply) → ¬ (SpellsAnswer request reply bytes)
ReadsAs request bytes (Err Memory) = Unit {0}
