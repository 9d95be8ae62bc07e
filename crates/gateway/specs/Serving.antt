-- One step of a connection: a request that was answered, or its end. Source: this profile.
use Rattle.std.specs.Prelude.{ℕ, Bool, false, List, Option, None, Some}
use Rattle.gate_base.specs.Transcript.{Transcript}
use Rattle.gateway.specs.declared.service.Service.{Service}
use Rattle.http_wire.specs.Print.{memory_reply}
use Rattle.gateway.specs.declared.ended.Ended.{Ended}
use Rattle.gateway.specs.declared.ended.Ended.TheVariants.{End, Closed, CutShort, Refused, LineFailed, StoreFailed, Inconsistent, Memory}
use Rattle.gateway.specs.Exchange.{ReplyRelation, Span, Sends, SendsPart}
use Rattle.gateway.specs.Connection.{ConnectionCursor, Serves, Ends, is_failed_end}

-- whether the connection ended because the line failed
abbrev pub is_failed_step : Option Ended → Bool
is_failed_step None = false
is_failed_step (Some ended) = is_failed_end ended

-- a request was answered and the connection goes on, or it ended so
abbrev pub NextOne : Service → ReplyRelation → ℕ → ConnectionCursor → Option Ended → ConnectionCursor → Type 0
NextOne service R connection old None new = (span : Span) × Serves service R connection None old span new
NextOne service R connection old (Some ended) new = (spans : List Span) × Ends service R connection ended old new.progress spans

-- the out-of-memory reply was written, or the line failed under it
abbrev pub EndsUnread : ℕ → Transcript → Ended → Transcript → Type 0
EndsUnread number old End new = ⊥
EndsUnread number old Closed new = ⊥
EndsUnread number old (CutShort place) new = ⊥
EndsUnread number old (Refused kind place) new = ⊥
EndsUnread number old StoreFailed new = ⊥
EndsUnread number old (Inconsistent container name) new = ⊥
EndsUnread number old LineFailed new = SendsPart old.begun number number (memory_reply false) old.sent new.sent
EndsUnread number old Memory new = Sends old.begun number number (memory_reply false) old.sent new.sent
