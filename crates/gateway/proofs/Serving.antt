-- One step of a connection.
use Rattle.std.proofs.Common.{◌≡◌, ℕ, Bool, true, false, List, [], ◌∷◌, Option, None, Some, refl, sym, ap, subst, ◌∙◌, inl, inr}
use Rattle.gate_base.specs.declared.outside.Piece.{Piece}
use Rattle.gate_base.specs.Transcript.{Transcript}
use Rattle.gateway.specs.declared.service.Service.{Service}
use Rattle.http_wire.specs.declared.message.Message.{Message}
use Rattle.http_wire.specs.declared.message.Kind.{Kind}
use Rattle.http_wire.specs.declared.message.Got.TheVariants as got
use Rattle.http_wire.specs.FirstMessage.{FirstMessage, BeginsWith, nothing, cut_short}
use Rattle.http_wire.specs.Reading.{Pending, GivesFirstMessage}
use Rattle.http_wire.specs.Interim.{OwesInterim, IsOwedFirst, SendsInterim, MaySendInterim, CutsInterim}
use Rattle.http_wire.proofs.lemmas.OwedLemmas.{owed_first}
use Rattle.http_wire.specs.Print.{memory_reply}
use Rattle.gateway.specs.declared.ended.Ended.{Ended}
use Rattle.gateway.specs.declared.ended.Ended.TheVariants.{End, Closed, CutShort, Refused, LineFailed, StoreFailed, Inconsistent, Memory}
use Rattle.gateway.specs.declared.handle.Handled.TheVariants.{Served, Broken, Parted}
use Rattle.gateway.specs.Exchange.{ReplyRelation, StoreCursor, Sends, SendsPart}
use Rattle.gateway.specs.Request.{Request, refused_request, asks_of}
use Rattle.http_service.specs.declared.received.Received.TheVariants as received
use Rattle.gateway.specs.Connection.{Progress, ConnectionCursor, progress, cursor, OwedIsSent, Resolves, read, rejected, over, cut, served, unread, unheard, untold, broken, parted}
use Rattle.gateway.specs.Handled.{HandledOnce, HandledEnds}
use Rattle.gateway.specs.Serving.{NextOne, EndsUnread}

pub handled_ends : {R : ReplyRelation} (connection : ℕ) (old new : Progress) (asks : ℕ → Request) (ended : Option Ended) → HandledOnce R connection old new asks (Served ended) → HandledEnds R connection old new asks ended
handled_ends connection old new asks None span = span
handled_ends connection old new asks (Some ended) span = inl span

pub handled_breaks : {R : ReplyRelation} (connection : ℕ) (old new : Progress) (asks : ℕ → Request) → HandledOnce R connection old new asks Broken → HandledEnds R connection old new asks (Some LineFailed)
handled_breaks connection old new asks span = inr (inl (refl, span))

pub handled_parts : {R : ReplyRelation} (connection : ℕ) (old new : Progress) (asks : ℕ → Request) (ended : Ended) → HandledOnce R connection old new asks (Parted ended) → HandledEnds R connection old new asks (Some ended)
handled_parts connection old new asks ended span = inr (inr span)

-- the progress with these pieces sent
abbrev heard_by : Progress → List Piece → Progress
heard_by so_far heard = record so_far { sent = heard }

-- a request that was resolved was answered
module _ (service : Service) (R : ReplyRelation) (connection : ℕ) where
  pub next_of : (old new : ConnectionCursor) (heard : List Piece) (asks : ℕ → Request) (ended : Option Ended) → ((moment : ℕ) → Resolves service moment old (asks moment) new.rest new.place)
      → OwedIsSent service connection old heard → HandledEnds R connection (heard_by old.progress heard) new.progress asks ended → NextOne service R connection old ended new
  next_of old new heard asks None resolves owed span = (span.span, record { request = asks span.label.moment; label = span.label; heard = heard; resolves = resolves span.label.moment; owed = owed; labels = span.labels; exchange = span.exchange })
  next_of old new heard asks (Some ended) resolves owed (inl span) =
      (span.span ∷ [], served new span.span (record { request = asks span.label.moment; label = span.label; heard = heard; resolves = resolves span.label.moment; owed = owed; labels = span.labels; exchange = span.exchange }) refl)
  next_of old new heard asks (Some ended) resolves owed (inr (inr span)) =
      (span.span ∷ [], parted span.span (record { request = asks span.label.moment; label = span.label; rest = new.rest; place = new.place; heard = heard; resolves = resolves span.label.moment; owed = owed; labels = span.labels; exchange = span.exchange }))
  next_of old new heard asks (Some ended) resolves owed (inr (inl span)) =
      let failed = span.1 in
      (failed.span ∷ [], broken failed.span span.0 (record { request = asks failed.label.moment; label = failed.label; rest = new.rest; place = new.place; heard = heard; resolves = resolves failed.label.moment; owed = owed; labels = failed.labels; exchange = failed.exchange }))

module _ (service : Service) (R : ReplyRelation) (here : StoreCursor) (moments draws : List ℕ) (begun : ℕ) (sent : List Piece) (pending pending' : Pending) (all rest : List ℕ) where
  -- what was read is a message
  pub next_request : (transcript : Transcript) (message : Message) (left : List ℕ) (new : Progress) (ended : Option Ended) → GivesFirstMessage service.settings.largest_body pending all (got.Request message) pending' left
      → transcript.begun ≡ begun → SendsInterim (OwesInterim service.settings.largest_body all) begun here.number sent transcript.sent → rest ≡ left
      → HandledEnds R transcript.begun (progress here moments draws transcript.sent) new (asks_of service (received.Message message)) ended
      → NextOne service R begun (cursor all pending.place (progress here moments draws sent)) ended (cursor rest pending'.place new)
  next_request transcript message left new ended gives b owed r span =
      let P : ℕ → Type 0 = λ n. HandledEnds R n (progress here moments draws transcript.sent) new (asks_of service (received.Message message)) ended in
      next_of service R begun (cursor all pending.place (progress here moments draws sent)) (cursor rest pending'.place new) transcript.sent (asks_of service (received.Message message)) ended
      (λ moment. read message gives.0 gives.2 refl (r ∙ gives.3) gives.4) owed (subst P b span)

  -- what was read is refused
  pub next_refused : (transcript : Transcript) (kind : Kind) (place : ℕ) (head : Bool) (left : List ℕ) (new : Progress) (ended : Option Ended) → GivesFirstMessage service.settings.largest_body pending all (got.Refused kind place head) pending' left
      → transcript.begun ≡ begun → SendsInterim (OwesInterim service.settings.largest_body all) begun here.number sent transcript.sent → rest ≡ left
      → HandledEnds R transcript.begun (progress here moments draws transcript.sent) new (asks_of service (received.Refused kind place head)) ended
      → NextOne service R begun (cursor all pending.place (progress here moments draws sent)) ended (cursor rest pending'.place new)
  next_refused transcript kind place head left new ended gives b owed r span =
      let P : ℕ → Type 0 = λ n. HandledEnds R n (progress here moments draws transcript.sent) new (asks_of service (received.Refused kind place head)) ended in
      next_of service R begun (cursor all pending.place (progress here moments draws sent)) (cursor rest pending'.place new) transcript.sent (asks_of service (received.Refused kind place head)) ended
      (λ moment. rejected kind head gives.1 (ap (λ n. refused_request kind n head) gives.2) (r ∙ gives.3) gives.4) owed (subst P b span)

  same_progress : (sent' : List Piece) → sent' ≡ sent → progress here moments draws sent' ≡ progress here moments draws sent
  same_progress sent' e = ap (progress here moments draws) e

  -- nothing is owed for what no request begins, so nothing was sent
  unowed : (front : FirstMessage) (sent' : List Piece) → BeginsWith service.settings.largest_body all front → (IsOwedFirst service.settings.largest_body all front → ⊥) → SendsInterim (OwesInterim service.settings.largest_body all) begun here.number sent sent' → sent' ≡ sent
  unowed front sent' first never (inl (owes, e)) = absurd (never ((owed_first service.settings.largest_body all front first).0 owes))
  unowed front sent' first never (inr (not, e)) = e

  -- no byte was left
  pub next_end : (sent' : List Piece) (left : List ℕ) → pending.ended ≡ false → GivesFirstMessage service.settings.largest_body pending all got.End pending' left → SendsInterim (OwesInterim service.settings.largest_body all) begun here.number sent sent'
      → NextOne service R begun (cursor all pending.place (progress here moments draws sent)) (Some End) (cursor rest pending'.place (progress here moments draws sent'))
  next_end sent' left goes gives owed = elim gives.0 [
    | inl ended ↦ absurd (let no : true ≡ false = sym ended ∙ goes in cc)
    | inr front ↦ ([], over refl front (same_progress sent' (unowed nothing sent' front (λ first. first) owed)))
  ]

  -- the bytes ended inside a head
  pub next_cut : (place : ℕ) (sent' : List Piece) (left : List ℕ) → GivesFirstMessage service.settings.largest_body pending all (got.CutShort place) pending' left → SendsInterim (OwesInterim service.settings.largest_body all) begun here.number sent sent'
      → NextOne service R begun (cursor all pending.place (progress here moments draws sent)) (Some (CutShort place)) (cursor rest pending'.place (progress here moments draws sent'))
  next_cut place sent' left gives owed = ([], cut (ap CutShort gives.2) gives.1 (same_progress sent' (unowed cut_short sent' gives.1 (λ first. first) owed)))

  -- the line failed while a request was read
  pub next_failed : (sent' : List Piece) → CutsInterim (OwesInterim service.settings.largest_body all) begun here.number sent sent'
      → NextOne service R begun (cursor all pending.place (progress here moments draws sent)) (Some LineFailed) (cursor rest pending'.place (progress here moments draws sent'))
  next_failed sent' owed = ([], unheard refl (record { store = refl; moments = refl; draws = refl }) owed)

  -- memory ran out while a request was read
  pub next_unread : (transcript transcript' : Transcript) (ended : Ended) → transcript.begun ≡ begun → MaySendInterim (OwesInterim service.settings.largest_body all) begun here.number sent transcript.sent → EndsUnread here.number transcript ended transcript'
      → NextOne service R begun (cursor all pending.place (progress here moments draws sent)) (Some ended) (cursor rest pending'.place (progress here moments draws transcript'.sent))
  next_unread transcript transcript' End b owed ends = absurd ends
  next_unread transcript transcript' Closed b owed ends = absurd ends
  next_unread transcript transcript' (CutShort place) b owed ends = absurd ends
  next_unread transcript transcript' (Refused kind place) b owed ends = absurd ends
  next_unread transcript transcript' StoreFailed b owed ends = absurd ends
  next_unread transcript transcript' (Inconsistent container name) b owed ends = absurd ends
  next_unread transcript transcript' LineFailed b owed ends =
      let P : ℕ → Type 0 = λ n. SendsPart n here.number here.number (memory_reply false) transcript.sent transcript'.sent in
      ([], untold transcript.sent refl (record { store = refl; moments = refl; draws = refl }) owed (subst P b ends))
  next_unread transcript transcript' Memory b owed ends =
      let P : ℕ → Type 0 = λ n. Sends n here.number here.number (memory_reply false) transcript.sent transcript'.sent in
      ([], unread transcript.sent refl (record { store = refl; moments = refl; draws = refl }) owed (subst P b ends))
