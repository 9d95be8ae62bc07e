-- What the laws of this crate say.
use Rattle.std.specs.Prelude.{◌≡◌, ◌-◌, Bool, false, List, [], ◌++◌, length, replicate}
use Rattle.gateway.specs.declared.service.Service.{Service}
use Rattle.gate_base.specs.Causes.{Rose}
use Rattle.swift_calls.specs.History.{History}
use Rattle.upload_records.specs.Consistent.{IsConsistent}
use Rattle.upload_records.specs.Native.{s3_state}
use Rattle.gateway.specs.Connection.{is_failed_end, is_store_end}
use Rattle.gateway.specs.Exchange.{ReplyRelation, Span, Replies, RepliesBy, CountedReplies, FaultFreeReplies}
use Rattle.gateway.specs.Life.{After}
use Rattle.gateway.specs.Stands.{Follows, AllPass, StandsThroughout}
use Rattle.gateway_cmd.specs.Run.{RunCursor, ServesNext, RunTrace}

-- the requests of all connections follow one another, with no call before the first, between two, or after the last
abbrev pub SpansFollow : Type 0
SpansFollow = (all : Bool) (service : Service) (h : History) (old : RunCursor) (spans : List Span) (new : RunCursor)
    → RunTrace service (RepliesBy all service.settings h) old spans new
    → Follows old.progress.store.number spans new.progress.store.number

-- from a consistent account on, the account goes through the steps of each request, and through all connections it is
-- consistent at each number of calls
abbrev pub TraceStands : Type 0
TraceStands = (service : Service) (h : History) (old : RunCursor) (spans : List Span) (new : RunCursor)
    → RunTrace service (Replies service.settings h) old spans new → IsConsistent (h.account_at old.progress.store.number)
    → AllPass service.settings h spans × StandsThroughout service.settings h spans old.progress.store.number new.progress.store.number

-- where the store's count of faults did not rise, no request is answered ServiceUnavailable, over an observable store and
-- over every store
abbrev pub TraceFaultFree : Type 0
TraceFaultFree = (all : Bool) (service : Service) (h : History) (old : RunCursor) (spans : List Span) (new : RunCursor)
    → RunTrace service (RepliesBy all service.settings h) old spans new
    → (Rose old.progress.store.faults new.progress.store.faults → ⊥) → RunTrace service (FaultFreeReplies (RepliesBy all service.settings h)) old spans new

-- a run trace in which the line failed under no connection, and no read broke off because of the store
pub data Unbroken (service : Service) (R : ReplyRelation) : RunCursor → List Span → RunCursor → Type 0 where
  none_served : (cursor : RunCursor) → Unbroken service R cursor [] cursor
  one_more : (old middle new : RunCursor) (spans next : List Span) → Unbroken service R old spans middle
      → (serves : ServesNext service R middle next new) → is_failed_end serves.ended ≡ false → is_store_end serves.ended ≡ false → Unbroken service R old (spans ++ next) new

-- a run over an observable store, in which neither the store's count of faults nor the line's rose (then no connection that began
-- was faulty): each connection was served without a failed line, no read broke off because of the store, no request was answered
-- ServiceUnavailable, and the account at its end is that of the counted requests, taken in order by the machine's step
abbrev pub RunFaultFree : Type 0
RunFaultFree = (service : Service) (h : History) (old : RunCursor) (spans : List Span) (new : RunCursor)
    → RunTrace service (Replies service.settings h) old spans new → IsConsistent (h.account_at old.progress.store.number)
    → (Rose old.progress.store.faults new.progress.store.faults → ⊥)
    → length old.faulty ≡ old.begun → new.faulty ≡ old.faulty ++ replicate (new.begun - old.begun) false
    → Unbroken service (FaultFreeReplies (Replies service.settings h)) old spans new
    × After service.settings new.progress.store.number (s3_state (h.account_at old.progress.store.number)) spans (s3_state (h.account_at new.progress.store.number))

-- in each run trace a reply to an operation that is neither ServiceUnavailable nor the out-of-memory reply is that of an operation
-- which took all its steps, also where the line failed under the reply: it is counted from the first piece of the reply on
abbrev pub SentAreCounted : Type 0
SentAreCounted = (service : Service) (h : History) (old : RunCursor) (spans : List Span) (new : RunCursor)
    → RunTrace service (Replies service.settings h) old spans new → RunTrace service (CountedReplies (Replies service.settings h)) old spans new
