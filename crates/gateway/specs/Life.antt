-- The requests of a run in order: what the account represents where it was stopped. Source: this profile.
use Rattle.std.specs.Prelude.{◌≡◌, ◌≢◌, ◌≤◌, ◌<◌, ◌⊎◌, ℕ, List, [], ◌∷◌, ◌++◌, All, Option, None, Some}
use Rattle.gate_base.specs.declared.outside.Piece.{Piece}
use Rattle.s3_machine.specs.declared.code.Code.TheVariants.{ServiceUnavailable}
use Rattle.s3_machine.specs.declared.operation.Label.{Label}
use Rattle.s3_machine.specs.declared.operation.Op.{Op}
use Rattle.s3_machine.specs.declared.operation.Reply.{Reply}
use Rattle.s3_machine.specs.declared.operation.Reply.TheVariants.{Refused, Memory}
use Rattle.s3_machine.specs.declared.operation.Settings.{Settings}
use Rattle.s3_machine.specs.State.{State}
use Rattle.s3_machine.specs.Step.{S3Step}
use Rattle.swift_calls.specs.History.{History}
use Rattle.upload_records.specs.Native.{s3_state}
use Rattle.upload_records.specs.Consistent.{IsConsistent}
use Rattle.account_calls.specs.Answers.{parts_of, steps_of, IsStage}
use Rattle.gateway.specs.declared.ended.Ended.{Ended}
use Rattle.s3_requests.specs.declared.meant.Meant.TheVariants as meant
use Rattle.gateway.specs.Request.{Request}
use Rattle.gateway.specs.Exchange.{Asked, StoreCursor, Span, Exchange, Replies, Sends}
use Rattle.gateway.specs.Stands.{Follows, AllPass, StandsThroughout}

-- what is counted of an operation at the number k: of its steps none before it began, all that were taken from its commit point
-- on, and fewer between; these steps lead from the old state to the new one
pub record CountedAt (settings : Settings) (k : ℕ) (span : Span) (asked : Asked) (old new : State) : Type 0 where
  pub stage : ℕ
  pub most : stage ≤ span.takes
  pub unbegun : k < span.begins → stage ≡ 0
  pub before : 0 < span.takes → k < span.committed → stage < span.takes
  pub since : span.committed ≤ k → stage ≡ span.takes
  pub is : IsStage settings old asked.op asked.label stage new

-- an operation was taken as a whole, and its commit point is at most k, or not at all; `law_counted_whole` says that one without
-- parts is counted so
abbrev pub IsWholeOrNone : Settings → ℕ → Span → Asked → State → State → Type 0
IsWholeOrNone settings k span asked old new =
    ((span.takes ≡ steps_of asked.op) × (span.committed ≤ k) × (reply : Reply) × S3Step settings old asked.op asked.label reply new)
    ⊎ (((span.takes ≡ 0) ⊎ (k < span.committed)) × (new ≡ old))

abbrev pub Counted : Settings → ℕ → Span → Option Asked → State → State → Type 0
Counted settings k span None old new = new ≡ old
Counted settings k span (Some asked) old new = CountedAt settings k span asked old new

-- the requests that are counted at k, taken in order, lead from the old state to the new one
unfoldable pub After : Settings → ℕ → State → List Span → State → Type 0
After settings k old [] new = new ≡ old
After settings k old (span ∷ spans) new = (middle : State) × Counted settings k span span.asked old middle × After settings k middle spans new

-- over one run: at each number of calls the counted requests give the state
abbrev pub OneRun : Type 0
OneRun = (settings : Settings) (h : History) (spans : List Span) (entry exit k : ℕ) → Follows entry spans exit → AllPass settings h spans → entry ≤ k → k ≤ exit
    → After settings k (s3_state (h.account_at entry)) spans (s3_state (h.account_at k))

-- at each number of calls of a run the account is consistent, and one that the request which has the number goes through
abbrev pub StandsAll : Type 0
StandsAll = (settings : Settings) (h : History) (spans : List Span) (entry exit : ℕ) → IsConsistent (h.account_at entry)
    → Follows entry spans exit → AllPass settings h spans → StandsThroughout settings h spans entry exit

-- ---- what was sent

-- the pieces of a reply
abbrev pub pieces_of : {connection t q : ℕ} {bytes : List ℕ} {old new : List Piece} → Sends connection t q bytes old new → List Piece
pieces_of sends = sends.first ++ sends.last ∷ []

-- a request that was answered by the service itself took its step, and at the number of each piece of its reply its span was
-- by then: it is counted from its first piece on
abbrev pub SentIsCounted : Type 0
SentIsCounted = (settings : Settings) (h : History) (connection : ℕ) (old : StoreCursor) (span : Span) (new : StoreCursor) (request : Request) (label : Label)
    (end : Option Ended) (sent sent' : List Piece)
    (exchange : Exchange (Replies settings h) connection old span new request label end sent sent') (op : Op)
    → request.means ≡ meant.Op op → exchange.reply ≢ Memory → exchange.reply ≢ Refused ServiceUnavailable
    → (span.takes ≡ steps_of op) × All (λ piece. span.committed ≤ piece.at) (pieces_of exchange.sends)

-- an operation without parts is counted as a whole or not at all
abbrev pub CountedWhole : Type 0
CountedWhole = (settings : Settings) (k : ℕ) (span : Span) (asked : Asked) (old new : State) → parts_of asked.op ≡ [] → span.takes ≤ steps_of asked.op
    → CountedAt settings k span asked old new → IsWholeOrNone settings k span asked old new
