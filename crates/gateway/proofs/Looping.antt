-- A connection, request by request, over a history that grows.
use Rattle.std.proofs.Common.{◌≡◌, ℕ, List, [], ◌∷◌, ◌++◌, Bool, true, false, None, Some, refl, sym, subst, arith, inl}
use Rattle.gate_base.specs.Transcript.{Transcript}
use Rattle.s3_machine.specs.declared.operation.Settings.{Settings}
use Rattle.swift_calls.specs.History.{History, Extends}
use Rattle.upload_records.specs.Consistent.{IsConsistent}
use Rattle.account_calls.specs.declared.state.Known.{Known}
use Rattle.account_calls.specs.Calls.{GoesOn, Met}
use Rattle.account_calls.specs.Known.{IsKnown}
use Rattle.http_wire.specs.Reading.{Pending}
use Rattle.gateway.specs.declared.ended.Ended.{Ended}
use Rattle.gateway.specs.declared.service.Service.{Service}
use Rattle.gateway.specs.Exchange.{ReplyRelation, StoreCursor, Span, RepliesBy, Where}
use Rattle.gateway.specs.Connection.{Progress, ConnectionCursor, progress, cursor, Exchanges, none, more, ConnectionTrace}
use Rattle.gateway.specs.Serving.{NextOne, EndsUnread}
use Rattle.gateway.specs.Stands.{Stands}
use Rattle.gateway.proofs.lemmas.Map.{between_ends, exchanges_map, replies_agree}
use Rattle.gateway.proofs.Operating.{from_present}
use Rattle.gateway.proofs.lemmas.Order.{follows_append}
use Rattle.gateway.proofs.lemmas.Passing.{all_pass_append, all_pass_agree, all_pass_sound}
use Rattle.gateway.proofs.Serving.{next_unread}

-- ---- what is given of the store

pub where_map : (all : Bool) {P Q : Type 0} → (P → Q) → Where all P → Where all Q
where_map true f given = f given
where_map false f given = tt

-- what was given of it as requests were answered is given of it afterwards
pub met_now : {settings : Settings} {was now : Known} {old new : History} → GoesOn old new → Stands settings was now old new → Met (IsKnown was) old → Met (IsKnown now) new
met_now {settings = settings} {old = old} {new = new} on stands met =
    let stood = stands met in
    record {
      observable = on.observable met.observable;
      sound = all_pass_sound settings new old.called new.called stood.spans (subst IsConsistent (sym (from_present on met.observable)) met.sound) stood.follows stood.passes;
      has = stood.known;
    }

-- requests, and then others
pub stands_trans : {settings : Settings} {was then now : Known} {old middle new : History} → GoesOn old middle → GoesOn middle new → Stands settings was then old middle → Stands settings then now middle new → Stands settings was now old new
stands_trans {settings = settings} {old = old} {middle = middle} {new = new} on on' first then met =
    let before = first met in
    let now_met = met_now on first met in
    let after = then now_met in
    let kept = on'.kept now_met.observable in
    record {
      spans = before.spans ++ after.spans;
      follows = follows_append old.called middle.called new.called before.spans after.spans before.follows after.follows;
      passes = all_pass_append settings new before.spans after.spans (all_pass_agree settings kept old.called middle.called before.spans (omega arith) before.follows before.passes) after.passes;
      known = after.known;
    }

-- ---- the requests answered since the connection began

abbrev pub Answered : Service → ReplyRelation → ℕ → ConnectionCursor → ConnectionCursor → Type 0
Answered service R connection begin present = (spans : List Span) × Exchanges service R connection begin spans present

-- one request more
pub answered_more : {service : Service} {R : ReplyRelation} (connection : ℕ) (begin present next : ConnectionCursor)
    → Answered service R connection begin present → NextOne service R connection present None next → Answered service R connection begin next
answered_more connection begin present next answered served = (answered.0 ++ served.0 ∷ [], more begin present next answered.0 served.0 answered.1 served.1)

-- and the end
pub answered_ends : {service : Service} {R : ReplyRelation} (connection : ℕ) (begin present next : ConnectionCursor) (ended : Ended)
    → Answered service R connection begin present → NextOne service R connection present (Some ended) next → (spans : List Span) × ConnectionTrace service R connection ended begin spans next.progress
answered_ends connection begin present next ended answered ends =
    (answered.0 ++ ends.0, record { last = present; before = answered.0; after = ends.0; exchanges = answered.1; ends = ends.1; all = refl })

-- they are so in a longer history
pub answered_agree : {service : Service} (settings : Settings) (old new : History) (all : Bool) (connection : ℕ) (begin present : ConnectionCursor) → Where all (Extends present.progress.store.number old new)
    → Answered service (RepliesBy all settings old) connection begin present → Answered service (RepliesBy all settings new) connection begin present
answered_agree settings old new true connection begin present kept answered =
    (answered.0, exchanges_map (replies_agree {first = begin.progress.store} {last = present.progress.store} kept) (between_ends begin.progress.store present.progress.store) answered.1)
answered_agree settings old new false connection begin present kept answered = answered

-- a reader at the beginning of a connection
fresh : Pending
fresh = record { bytes = []; place = 0; ended = false }

pub answered_none : (service : Service) (R : ReplyRelation) (connection : ℕ) (rest : List ℕ) (so_far : Progress) (reader : Pending) → reader ≡ record { bytes = []; place = 0; ended = false }
    → Answered service R connection (cursor rest 0 so_far) (cursor (reader.bytes ++ rest) reader.place so_far)
answered_none service R connection rest so_far reader e =
    let P : Pending → Type 0 = λ r. Exchanges service R connection (cursor rest 0 so_far) [] (cursor (r.bytes ++ rest) r.place so_far) in
    ([], subst P (sym e) (none (cursor rest 0 so_far)))

-- memory ran out before any request was read
pub unread_at_once : (service : Service) (R : ReplyRelation) (here : StoreCursor) (moments draws : List ℕ) (transcript transcript' : Transcript) (ended : Ended) → EndsUnread here.number transcript ended transcript'
    → (spans : List Span) × ConnectionTrace service R transcript.begun ended (cursor transcript.rest 0 (progress here moments draws transcript.sent)) spans (progress here moments draws transcript'.sent)
unfolding fresh
unread_at_once service R here moments draws transcript transcript' ended ends =
    let last = next_unread service R here moments draws transcript.begun transcript.sent fresh fresh transcript.rest transcript.rest transcript transcript' ended refl (inl refl) ends in
    (last.0, record { last = cursor transcript.rest 0 (progress here moments draws transcript.sent); before = []; after = last.0; exchanges = none (cursor transcript.rest 0 (progress here moments draws transcript.sent)); ends = last.1; all = refl })
