-- What follows from the spans of requests alone, whatever is said of their replies: along a connection the numbers and the
-- counts of faults rise, and its spans follow one another.
use Rattle.std.specs.Prelude.{◌≡◌, ◌≤◌, ℕ, List, [], ◌∷◌, ◌++◌, Option}
use Rattle.std.proofs.Common.{refl, sym, ap, subst, arith}
use Rattle.gateway.specs.declared.ended.Ended.{Ended}
use Rattle.gateway.specs.declared.service.Service.{Service}
use Rattle.gateway.specs.Exchange.{ReplyRelation, StoreCursor, Span, Asked, IsSpan}
use Rattle.gateway.specs.Connection.{Progress, ConnectionCursor, Serves, Exchanges, none, more, Breaks, Ends, over, cut, served, unread, unheard, untold, broken, parted, ConnectionTrace}
use Rattle.gateway.specs.Stands.{Follows}

-- ---- lists of spans

pub follows_none : {p q : ℕ} → q ≡ p → Follows p [] q
unfolding Follows
follows_none same = sym same

-- one request
pub is_span_follows : {old new : StoreCursor} {span : Span} {asks : Option Asked} → IsSpan old span new asks → Follows old.number (span ∷ []) new.number
unfolding Follows
is_span_follows is_span = (is_span.from, is_span.settles, is_span.first, is_span.last, is_span.to)

pub follows_append : (p m q : ℕ) (before after : List Span) → Follows p before m → Follows m after q → Follows p (before ++ after) q
unfolding Follows
follows_append p m q [] after same then = subst (λ n. Follows n after q) (sym same) then
follows_append p m q (span ∷ before) after (begins, settled, committed, ends, first) then = (begins, settled, committed, ends, follows_append span.to m q before after first then)

-- the numbers of spans that follow one another rise
pub follows_order : (p q : ℕ) (spans : List Span) → Follows p spans q → p ≤ q
unfolding Follows
follows_order p q [] same = omega arith
follows_order p q (span ∷ spans) (begins, settled, committed, ends, then) = let rises = follows_order span.to q spans then in omega arith

-- ---- one connection

module _ {service : Service} {R : ReplyRelation} {connection : ℕ} where
  -- ---- the numbers

  pub serves_order : {end : Option Ended} {old new : ConnectionCursor} {span : Span} → Serves service R connection end old span new → old.progress.store.number ≤ new.progress.store.number
  serves_order serves = let is_span = serves.exchange.is_span in omega arith

  pub breaks_order : {old : ConnectionCursor} {span : Span} {new : Progress} → Breaks service R connection old span new → old.progress.store.number ≤ new.store.number
  breaks_order breaks = let is_span = breaks.exchange.is_span in omega arith

  pub exchanges_order : {old new : ConnectionCursor} {spans : List Span} → Exchanges service R connection old spans new → old.progress.store.number ≤ new.progress.store.number
  exchanges_order (none cursor) = omega arith
  exchanges_order (more old middle new spans span exchanges serves) = let first = exchanges_order exchanges in let last = serves_order serves in omega arith

  pub ends_order : {ended : Ended} {last : ConnectionCursor} {new : Progress} {spans : List Span} → Ends service R connection ended last new spans → last.progress.store.number ≤ new.store.number
  ends_order (over is front same) = let e = ap (λ t. t.store.number) same in omega arith
  ends_order (cut is front same) = let e = ap (λ t. t.store.number) same in omega arith
  ends_order (served cursor span serves same) = let e = ap (λ t. t.store.number) same in let near = serves_order serves in omega arith
  ends_order (unread heard is only owed sends) = let e = ap (λ m. m.number) only.store in omega arith
  ends_order (unheard is only owed) = let e = ap (λ m. m.number) only.store in omega arith
  ends_order (untold heard is only owed sends) = let e = ap (λ m. m.number) only.store in omega arith
  ends_order (broken span is breaks) = breaks_order breaks
  ends_order (parted span parts) = let is_span = parts.exchange.is_span in omega arith

  pub connection_trace_order : {ended : Ended} {old : ConnectionCursor} {spans : List Span} {new : Progress} → ConnectionTrace service R connection ended old spans new → old.progress.store.number ≤ new.store.number
  connection_trace_order trace = let first = exchanges_order trace.exchanges in let last = ends_order trace.ends in omega arith

  -- ---- the counts of faults

  pub serves_order_faults : {end : Option Ended} {old new : ConnectionCursor} {span : Span} → Serves service R connection end old span new → old.progress.store.faults ≤ new.progress.store.faults
  serves_order_faults serves = serves.exchange.is_span.faults

  pub breaks_order_faults : {old : ConnectionCursor} {span : Span} {new : Progress} → Breaks service R connection old span new → old.progress.store.faults ≤ new.store.faults
  breaks_order_faults breaks = breaks.exchange.is_span.faults

  pub exchanges_order_faults : {old new : ConnectionCursor} {spans : List Span} → Exchanges service R connection old spans new → old.progress.store.faults ≤ new.progress.store.faults
  exchanges_order_faults (none cursor) = omega arith
  exchanges_order_faults (more old middle new spans span exchanges serves) = let first = exchanges_order_faults exchanges in let last = serves_order_faults serves in omega arith

  pub ends_order_faults : {ended : Ended} {last : ConnectionCursor} {new : Progress} {spans : List Span} → Ends service R connection ended last new spans → last.progress.store.faults ≤ new.store.faults
  ends_order_faults (over is front same) = let e = ap (λ t. t.store.faults) same in omega arith
  ends_order_faults (cut is front same) = let e = ap (λ t. t.store.faults) same in omega arith
  ends_order_faults (served cursor span serves same) = let e = ap (λ t. t.store.faults) same in let near = serves_order_faults serves in omega arith
  ends_order_faults (unread heard is only owed sends) = let e = ap (λ m. m.faults) only.store in omega arith
  ends_order_faults (unheard is only owed) = let e = ap (λ m. m.faults) only.store in omega arith
  ends_order_faults (untold heard is only owed sends) = let e = ap (λ m. m.faults) only.store in omega arith
  ends_order_faults (broken span is breaks) = breaks_order_faults breaks
  ends_order_faults (parted span parts) = parts.exchange.is_span.faults

  pub connection_trace_order_faults : {ended : Ended} {old : ConnectionCursor} {spans : List Span} {new : Progress} → ConnectionTrace service R connection ended old spans new → old.progress.store.faults ≤ new.store.faults
  connection_trace_order_faults trace = let first = exchanges_order_faults trace.exchanges in let last = ends_order_faults trace.ends in omega arith

  -- ---- the spans

  pub serves_follow : {end : Option Ended} {old new : ConnectionCursor} {span : Span} → Serves service R connection end old span new → Follows old.progress.store.number (span ∷ []) new.progress.store.number
  serves_follow serves = is_span_follows serves.exchange.is_span

  pub breaks_follow : {old : ConnectionCursor} {span : Span} {new : Progress} → Breaks service R connection old span new → Follows old.progress.store.number (span ∷ []) new.store.number
  breaks_follow breaks = is_span_follows breaks.exchange.is_span

  pub exchanges_follow : {old new : ConnectionCursor} {spans : List Span} → Exchanges service R connection old spans new → Follows old.progress.store.number spans new.progress.store.number
  exchanges_follow (none cursor) = follows_none refl
  exchanges_follow (more old middle new spans span exchanges serves) =
      follows_append old.progress.store.number middle.progress.store.number new.progress.store.number spans (span ∷ []) (exchanges_follow exchanges) (serves_follow serves)

  pub ends_follow : {ended : Ended} {last : ConnectionCursor} {new : Progress} {spans : List Span} → Ends service R connection ended last new spans → Follows last.progress.store.number spans new.store.number
  ends_follow (over is front same) = follows_none (ap (λ t. t.store.number) same)
  ends_follow (cut is front same) = follows_none (ap (λ t. t.store.number) same)
  ends_follow {last = last} (served cursor span serves same) = subst (λ t. Follows last.progress.store.number (span ∷ []) t.store.number) (sym same) (serves_follow serves)
  ends_follow (unread heard is only owed sends) = follows_none (ap (λ m. m.number) only.store)
  ends_follow (unheard is only owed) = follows_none (ap (λ m. m.number) only.store)
  ends_follow (untold heard is only owed sends) = follows_none (ap (λ m. m.number) only.store)
  ends_follow (broken span is breaks) = breaks_follow breaks
  ends_follow (parted span parts) = is_span_follows parts.exchange.is_span

  pub connection_trace_follow : {ended : Ended} {old : ConnectionCursor} {spans : List Span} {new : Progress} → ConnectionTrace service R connection ended old spans new → Follows old.progress.store.number spans new.store.number
  connection_trace_follow {old = old} {new = new} trace =
      subst (λ spans. Follows old.progress.store.number spans new.store.number) (sym trace.all)
      (follows_append old.progress.store.number trace.last.progress.store.number new.store.number trace.before trace.after (exchanges_follow trace.exchanges) (ends_follow trace.ends))
