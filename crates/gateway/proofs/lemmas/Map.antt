-- What is said of the replies of a connection, said otherwise: a connection over one relation is one over another that follows
-- from it. So it is with a history that went on, and with replies where no fault was counted.
use Rattle.std.specs.Prelude.{◌≡◌, ◌≢◌, ◌≤◌, ◌⊎◌, ℕ, ◌+◌, Bool, true, false, List, Option}
use Rattle.std.proofs.Common.{sym, ap, subst, ◌∙◌, inl, inr, arith}
use Rattle.gate_base.specs.Causes.{Rose}
use Rattle.gate_base.specs.declared.outside.Piece.{Piece}
use Rattle.s3_machine.specs.declared.code.Code.{Code}
use Rattle.s3_machine.specs.declared.code.Code.TheVariants.{ServiceUnavailable}
use Rattle.s3_machine.specs.declared.operation.Label.{Label}
use Rattle.s3_machine.specs.declared.operation.Op.{Op}
use Rattle.s3_machine.specs.declared.operation.Reply.{Reply}
use Rattle.s3_machine.specs.declared.operation.Reply.TheVariants.{Refused, Memory}
use Rattle.s3_machine.specs.declared.operation.Settings.{Settings}
use Rattle.swift_calls.specs.History.{History, Extends}
use Rattle.swift_calls.proofs.lemmas.Histories.{extends_before}
use Rattle.upload_records.specs.Native.{IsSettled}
use Rattle.upload_records.specs.Consistent.{IsConsistent}
use Rattle.account_calls.specs.declared.state.Known.{Known}
use Rattle.account_calls.specs.Answers.{beside_of, most_calls, most_settling}
use Rattle.account_calls.specs.Calls.{amount}
use Rattle.account_calls.specs.Stutters.{LastFailed}
use Rattle.account_calls.specs.Known.{IsKnown}
use Rattle.account_calls.proofs.lemmas.Agree.{quiet_agree, last_failed_agree, answers_agree, beside_agree}
use Rattle.gateway.specs.declared.ended.Ended.{Ended}
use Rattle.gateway.specs.declared.service.Service.{Service}
use Rattle.s3_machine.specs.Proper.{IsProperCode, is_store_fault}
use Rattle.gateway.specs.Request.{Request}
use Rattle.gateway.specs.Exchange.{ReplyRelation, StoreCursor, Span, Asked, asked_by, IsSpan, SettledBy, NotSettledBy, IsCaused, Performs, unsettled, answered, Replies, refused, performed, RepliesAny, refused_any, performed_any, RepliesBy, FaultFreeReplies, Exchange, CutExchange, PartExchange}
use Rattle.gateway.specs.Connection.{Progress, ConnectionCursor, Serves, Exchanges, none, more, Breaks, Parts, Ends, over, cut, served, unread, unheard, untold, broken, parted, ConnectionTrace}
use Rattle.gateway.proofs.lemmas.Order.{serves_order, exchanges_order, ends_order, serves_order_faults, exchanges_order_faults, ends_order_faults}

-- ---- between two store cursors

-- the two store cursors of a request, or of a stretch of them, stand between these two
pub record Between (first last old new : StoreCursor) : Type 0 where
  pub since : first.number ≤ old.number
  pub until : new.number ≤ last.number
  pub since_faults : first.faults ≤ old.faults
  pub until_faults : new.faults ≤ last.faults

-- a stretch stands between its own ends
pub between_ends : (first last : StoreCursor) → Between first last first last
between_ends first last = record { since = omega arith; until = omega arith; since_faults = omega arith; until_faults = omega arith }

-- between two store cursors the second relation follows from the first
abbrev pub FollowsBetween : (R R' : ReplyRelation) → StoreCursor → StoreCursor → Type 0
FollowsBetween R R' first last = (old new : StoreCursor) (span : Span) (request : Request) (label : Label) (reply : Reply) → IsSpan old span new (asked_by request.means label) → Between first last old new
    → R old span new request label reply → R' old span new request label reply

module _ {R R' : ReplyRelation} {first last : StoreCursor} (f : FollowsBetween R R' first last) where
  pub exchange_map : {connection : ℕ} {old new : StoreCursor} {span : Span} {request : Request} {label : Label} {end : Option Ended} {sent sent' : List Piece} → Between first last old new
      → Exchange R connection old span new request label end sent sent' → Exchange R' connection old span new request label end sent sent'
  exchange_map {old = old} {new = new} {span = span} {request = request} {label = label} between exchange = record {
    reply = exchange.reply;
    bytes = exchange.bytes;
    is_span = exchange.is_span;
    replies = f old new span request label exchange.reply exchange.is_span between exchange.replies;
    due = exchange.due;
    sends = exchange.sends;
    paced = exchange.paced;
  }

  pub cut_exchange_map : {connection : ℕ} {old new : StoreCursor} {span : Span} {request : Request} {label : Label} {sent sent' : List Piece} → Between first last old new
      → CutExchange R connection old span new request label sent sent' → CutExchange R' connection old span new request label sent sent'
  cut_exchange_map {old = old} {new = new} {span = span} {request = request} {label = label} between exchange = record {
    reply = exchange.reply;
    end = exchange.end;
    bytes = exchange.bytes;
    is_span = exchange.is_span;
    replies = f old new span request label exchange.reply exchange.is_span between exchange.replies;
    due = exchange.due;
    sends = exchange.sends;
  }

  pub serves_map : {service : Service} {connection : ℕ} {end : Option Ended} {old new : ConnectionCursor} {span : Span} → Between first last old.progress.store new.progress.store
      → Serves service R connection end old span new → Serves service R' connection end old span new
  serves_map between serves = record {
    request = serves.request;
    label = serves.label;
    heard = serves.heard;
    resolves = serves.resolves;
    owed = serves.owed;
    labels = serves.labels;
    exchange = exchange_map between serves.exchange;
  }

  pub breaks_map : {service : Service} {connection : ℕ} {old : ConnectionCursor} {span : Span} {new : Progress} → Between first last old.progress.store new.store
      → Breaks service R connection old span new → Breaks service R' connection old span new
  breaks_map between breaks = record {
    request = breaks.request;
    label = breaks.label;
    rest = breaks.rest;
    place = breaks.place;
    heard = breaks.heard;
    resolves = breaks.resolves;
    owed = breaks.owed;
    labels = breaks.labels;
    exchange = cut_exchange_map between breaks.exchange;
  }

  pub part_exchange_map : {connection : ℕ} {old new : StoreCursor} {span : Span} {request : Request} {label : Label} {end : Ended} {sent sent' : List Piece} → Between first last old new
      → PartExchange R connection old span new request label end sent sent' → PartExchange R' connection old span new request label end sent sent'
  part_exchange_map {old = old} {new = new} {span = span} {request = request} {label = label} between exchange = record {
    reply = exchange.reply;
    fault = exchange.fault;
    breaks = exchange.breaks;
    is_span = exchange.is_span;
    replies = f old new span request label exchange.reply exchange.is_span between exchange.replies;
    fails = f old new span request label exchange.fault exchange.is_span between exchange.fails;
    head = exchange.head;
    part = exchange.part;
    unsent = exchange.unsent;
    read = exchange.read;
    due = exchange.due;
    some_left = exchange.some_left;
    sends = exchange.sends;
    cause = exchange.cause;
    of_read = exchange.of_read;
  }

  pub parts_map : {service : Service} {connection : ℕ} {ended : Ended} {old : ConnectionCursor} {span : Span} {new : Progress} → Between first last old.progress.store new.store
      → Parts service R connection ended old span new → Parts service R' connection ended old span new
  parts_map between parts = record {
    request = parts.request;
    label = parts.label;
    rest = parts.rest;
    place = parts.place;
    heard = parts.heard;
    resolves = parts.resolves;
    owed = parts.owed;
    labels = parts.labels;
    exchange = part_exchange_map between parts.exchange;
  }

  pub exchanges_map : {service : Service} {connection : ℕ} {old new : ConnectionCursor} {spans : List Span} → Between first last old.progress.store new.progress.store
      → Exchanges service R connection old spans new → Exchanges service R' connection old spans new
  exchanges_map between (none cursor) = none cursor
  exchanges_map between (more old middle new spans span exchanges serves) =
      let rises = exchanges_order exchanges in
      let rises_faults = exchanges_order_faults exchanges in
      let rises_then = serves_order serves in
      let rises_faults_then = serves_order_faults serves in
      more old middle new spans span
      (exchanges_map (record { since = between.since; until = omega arith; since_faults = between.since_faults; until_faults = omega arith }) exchanges)
      (serves_map (record { since = omega arith; until = between.until; since_faults = omega arith; until_faults = between.until_faults }) serves)

  pub ends_map : {service : Service} {connection : ℕ} {ended : Ended} {old : ConnectionCursor} {new : Progress} {spans : List Span} → Between first last old.progress.store new.store
      → Ends service R connection ended old new spans → Ends service R' connection ended old new spans
  ends_map between (over is front same) = over is front same
  ends_map between (cut is front same) = cut is front same
  ends_map {old = old} between (served cursor span serves same) = served cursor span (serves_map (subst (λ t. Between first last old.progress.store t.store) same between) serves) same
  ends_map between (unread heard is only owed sends) = unread heard is only owed sends
  ends_map between (unheard is only owed) = unheard is only owed
  ends_map between (untold heard is only owed sends) = untold heard is only owed sends
  ends_map between (broken span is breaks) = broken span is (breaks_map between breaks)
  ends_map between (parted span parts) = parted span (parts_map between parts)

  pub connection_trace_map : {service : Service} {connection : ℕ} {ended : Ended} {old : ConnectionCursor} {spans : List Span} {new : Progress} → Between first last old.progress.store new.store
      → ConnectionTrace service R connection ended old spans new → ConnectionTrace service R' connection ended old spans new
  connection_trace_map between trace =
      let rises = exchanges_order trace.exchanges in
      let rises_faults = exchanges_order_faults trace.exchanges in
      let rises_then = ends_order trace.ends in
      let rises_faults_then = ends_order_faults trace.ends in
      record {
        last = trace.last;
        before = trace.before;
        after = trace.after;
        exchanges = exchanges_map (record { since = between.since; until = omega arith; since_faults = between.since_faults; until_faults = omega arith }) trace.exchanges;
        ends = ends_map (record { since = omega arith; until = between.until; since_faults = omega arith; until_faults = between.until_faults }) trace.ends;
        all = trace.all;
      }

-- ---- later histories

module _ {h h' : History} {c : ℕ} (kept : Extends c h h') where
  pub settled_by_agree : {was : Known} {p q : ℕ} → p ≤ q → q ≤ c → SettledBy h was p q → SettledBy h' was p q
  settled_by_agree {p = p} {q = q} order near settled = record {
    needs_none = settled.needs_none;
    quiet = quiet_agree (extends_before near kept) settled.quiet;
    no_fault = kept.counts q near ∙ settled.no_fault ∙ sym (kept.counts p (omega arith));
    within = subst (λ tree. q ≤ p + amount (most_settling tree)) (sym (kept.accounts p (omega arith))) settled.within;
    settled = subst IsSettled (sym (kept.accounts q near)) settled.settled;
  }

  says_agree : {p q : ℕ} {reply : Reply} → p ≤ q → q ≤ c → ((reply ≡ Refused ServiceUnavailable) × LastFailed h p q) ⊎ (reply ≡ Memory)
      → ((reply ≡ Refused ServiceUnavailable) × LastFailed h' p q) ⊎ (reply ≡ Memory)
  says_agree order near (inl (is, failed)) = inl (is, last_failed_agree order (extends_before near kept) failed)
  says_agree order near (inr is) = inr is

  not_settled_by_agree : {was : Known} {p q : ℕ} {reply : Reply} → p ≤ q → q ≤ c → NotSettledBy h was p q reply → NotSettledBy h' was p q reply
  not_settled_by_agree {p = p} {q = q} order near not = record {
    needs_some = not.needs_some;
    quiet = quiet_agree (extends_before near kept) not.quiet;
    within = subst (λ tree. q ≤ p + amount (most_settling tree)) (sym (kept.accounts p (omega arith))) not.within;
    says = says_agree order near not.says;
  }

  performs_agree : {settings : Settings} {old new : StoreCursor} {span : Span} {asks : Option Asked} {op : Op} {label : Label} {reply : Reply} → IsSpan old span new asks → new.number ≤ c
      → Performs settings h old span new op label reply → Performs settings h' old span new op label reply
  performs_agree is_span near (unsettled not begins takes) = unsettled (not_settled_by_agree (omega arith) near not) begins takes
  performs_agree {new = new} {span = span} {op = op} {label = label} {reply = reply} is_span near (answered settled answers beside bound shown) =
      answered (settled_by_agree (omega arith) (omega arith) settled) (answers_agree (extends_before near kept) answers)
      (beside_agree (beside_of op) label reply (omega arith) (extends_before near kept) beside)
      (subst (λ tree. new.number ≤ span.begins + amount (most_calls op tree)) (sym (kept.accounts span.begins (omega arith))) bound) shown

-- what was said of replies over an observable store, is so in each later history
pub replies_agree : {settings : Settings} {h h' : History} {first last : StoreCursor} → Extends last.number h h' → FollowsBetween (Replies settings h) (Replies settings h') first last
replies_agree kept old new span request label reply is_span between (refused code means is proper sound same takes) =
    refused code means is proper (subst IsConsistent (sym (kept.accounts old.number (omega arith))) sound) same takes
replies_agree kept old new span request label reply is_span between (performed op means performs caused known) =
    let near = between.until in
    performed op means (performs_agree kept is_span near performs) caused (subst (IsKnown new.known) (sym (kept.accounts new.number near)) known)

-- and so is what was said of them over every store
pub by_agree : (all : Bool) (settings : Settings) {h h' : History} {first last : StoreCursor} → Extends last.number h h' → FollowsBetween (RepliesBy all settings h) (RepliesBy all settings h') first last
by_agree true settings kept = replies_agree kept
by_agree false settings kept = λ old new span request label reply is_span between replies. replies

-- ---- where no fault was counted

-- a request whose code is a proper one is not answered ServiceUnavailable
proper_available : {code : Code} {reply : Reply} → reply ≡ Refused code → IsProperCode code → reply ≢ Refused ServiceUnavailable
proper_available {code = code} is proper says = let same : code ≡ ServiceUnavailable = cc in let no : true ≡ false = sym (ap is_store_fault same) ∙ proper in cc

-- an operation is answered so only where a fault was counted
caused_available : {first last old new : StoreCursor} {op : Op} {reply : Reply} → old.faults ≤ new.faults → Between first last old new → (Rose first.faults last.faults → ⊥) → IsCaused old new op reply
    → reply ≢ Refused ServiceUnavailable
caused_available rises between still caused says = let rose = caused.unavailable says in still (omega arith)

replies_available : {settings : Settings} {h : History} {first last old new : StoreCursor} {span : Span} {request : Request} {label : Label} {reply : Reply} → old.faults ≤ new.faults → Between first last old new
    → (Rose first.faults last.faults → ⊥) → Replies settings h old span new request label reply → reply ≢ Refused ServiceUnavailable
replies_available rises between still (refused code means is proper sound same takes) = proper_available is proper
replies_available rises between still (performed op means performs caused known) = caused_available rises between still caused

replies_any_available : {first last old new : StoreCursor} {span : Span} {request : Request} {label : Label} {reply : Reply} → old.faults ≤ new.faults → Between first last old new
    → (Rose first.faults last.faults → ⊥) → RepliesAny old span new request label reply → reply ≢ Refused ServiceUnavailable
replies_any_available rises between still (refused_any code means is proper same) = proper_available is proper
replies_any_available rises between still (performed_any op means caused) = caused_available rises between still caused

-- where the count of faults did not rise between two store cursors, no request between them is answered ServiceUnavailable
pub fault_free_map : (all : Bool) (settings : Settings) (h : History) (first last : StoreCursor) → (Rose first.faults last.faults → ⊥)
    → FollowsBetween (RepliesBy all settings h) (FaultFreeReplies (RepliesBy all settings h)) first last
fault_free_map true settings h first last still = λ old new span request label reply is_span between replies.
    record { replies = replies; available = replies_available is_span.faults between still replies }
fault_free_map false settings h first last still = λ old new span request label reply is_span between replies.
    record { replies = replies; available = replies_any_available is_span.faults between still replies }
