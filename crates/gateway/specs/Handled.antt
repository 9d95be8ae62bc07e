-- What becomes of one request, between two points of progress. Source: this profile.
use Rattle.std.specs.Prelude.{◌≡◌, ◌⊎◌, ℕ, Bool, true, false, Option, None, Some}
use Rattle.s3_machine.specs.declared.operation.Label.{Label}
use Rattle.gateway.specs.declared.ended.Ended.{Ended}
use Rattle.gateway.specs.declared.ended.Ended.TheVariants.{LineFailed, Memory}
use Rattle.gateway.specs.declared.handle.Handled.{Handled}
use Rattle.gateway.specs.declared.handle.Handled.TheVariants.{Served, Broken, Parted}
use Rattle.gateway.specs.Request.{Request}
use Rattle.gateway.specs.Exchange.{ReplyRelation, Span, Exchange, CutExchange, PartExchange}
use Rattle.gateway.specs.Connection.{Progress, Labels, is_failed_end}
use Rattle.gateway.specs.Serving.{is_failed_step}

-- whether the line failed under the reply
abbrev pub is_failed_reply : Handled → Bool
is_failed_reply (Served ended) = false
is_failed_reply Broken = true
is_failed_reply (Parted ended) = false

-- where a request was answered in whole, the connection ends as `end` says, or because memory ran out. Where the line failed
-- under the reply, or a read broke off, the connection ends so, whatever `end` says
abbrev pub EndsWith : Option Ended → Handled → Type 0
EndsWith end (Served ended) = (ended ≡ end) ⊎ (ended ≡ Some Memory)
EndsWith end Broken = Unit {0}
EndsWith end (Parted ended) = Unit {0}

-- only where the line failed under the reply is the end that of a failed line
abbrev pub NotFailedIfServed : Handled → Type 0
NotFailedIfServed (Served ended) = is_failed_step ended ≡ false
NotFailedIfServed Broken = Unit {0}
NotFailedIfServed (Parted ended) = is_failed_end ended ≡ false

-- the request was answered in whole, with this end of the connection; what it asks is known at its moment
pub record AnswersWhole (R : ReplyRelation) (connection : ℕ) (old new : Progress) (asks : ℕ → Request) (end : Option Ended) : Type 0 where
  pub span : Span
  pub label : Label
  pub labels : Labels old new (asks label.moment).caller label
  pub exchange : Exchange R connection old.store span new.store (asks label.moment) label end old.sent new.sent

-- the request was answered, and the line failed under the reply
pub record AnswersCut (R : ReplyRelation) (connection : ℕ) (old new : Progress) (asks : ℕ → Request) : Type 0 where
  pub span : Span
  pub label : Label
  pub labels : Labels old new (asks label.moment).caller label
  pub exchange : CutExchange R connection old.store span new.store (asks label.moment) label old.sent new.sent

-- the request was answered, and the read that it was broke off
pub record AnswersPart (R : ReplyRelation) (connection : ℕ) (old new : Progress) (asks : ℕ → Request) (ended : Ended) : Type 0 where
  pub span : Span
  pub label : Label
  pub labels : Labels old new (asks label.moment).caller label
  pub exchange : PartExchange R connection old.store span new.store (asks label.moment) label ended old.sent new.sent

abbrev pub HandledOnce : ReplyRelation → ℕ → Progress → Progress → (ℕ → Request) → Handled → Type 0
HandledOnce R connection old new asks (Served end) = AnswersWhole R connection old new asks end
HandledOnce R connection old new asks Broken = AnswersCut R connection old new asks
HandledOnce R connection old new asks (Parted ended) = AnswersPart R connection old new asks ended

-- the same, by how the connection ends after it, if it does
abbrev pub HandledEnds : ReplyRelation → ℕ → Progress → Progress → (ℕ → Request) → Option Ended → Type 0
HandledEnds R connection old new asks None = AnswersWhole R connection old new asks None
HandledEnds R connection old new asks (Some ended) =
    AnswersWhole R connection old new asks (Some ended) ⊎ (((ended ≡ LineFailed) × AnswersCut R connection old new asks) ⊎ AnswersPart R connection old new asks ended)
