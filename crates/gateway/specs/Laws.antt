-- What the laws of this crate say of definitions.
use Rattle.std.specs.Prelude.{◌≡◌, ℕ, Bool, true, List}
use Rattle.gate_base.specs.Causes.{Rose}
use Rattle.httpdate.specs.Calendar as httpdate
use Rattle.sigv4.specs.Moment.{signing_day_number, is_day}
use Rattle.swift_calls.specs.History.{History}
use Rattle.gateway.specs.declared.ended.Ended.TheVariants.{StoreFailed, Inconsistent}
use Rattle.gateway.specs.declared.service.Service.{Service}
use Rattle.gateway.specs.Connection.{Progress, ConnectionCursor, ConnectionTrace}
use Rattle.gateway.specs.Exchange.{Span, Replies, RepliesBy}

-- the calendar by which the time of a signature is a moment, and that by which a moment is a date of a reply, count one number
-- of days to each day of the years 1970 to 9999
abbrev pub CalendarsAgree : Type 0
CalendarsAgree = (year month day : ℕ) → is_day year month day ≡ true → signing_day_number year month day ≡ httpdate.days_from_civil year month day

-- a connection ends because the store failed only where the store's count of faults rose while the connection was served
abbrev pub FailedStoreRose : Type 0
FailedStoreRose = (service : Service) (all : Bool) (h : History) (connection : ℕ) (old : ConnectionCursor) (spans : List Span) (new : Progress)
    → ConnectionTrace service (RepliesBy all service.settings h) connection StoreFailed old spans new → Rose old.progress.store.faults new.store.faults

-- no connection over an observable store whose account is consistent ends because the store was found inconsistent
abbrev pub FoundConsistent : Type 0
FoundConsistent = (service : Service) (h : History) (connection : ℕ) (container name : List ℕ) (old : ConnectionCursor) (spans : List Span) (new : Progress)
    → ConnectionTrace service (Replies service.settings h) connection (Inconsistent container name) old spans new → ⊥
