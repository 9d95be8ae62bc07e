-- What the account goes through in the requests of a connection, over an observable store: the steps of each.
use Rattle.std.specs.Prelude.{◌≡◌, ◌≤◌, ℕ, ◌+◌, List, [], ◌∷◌, ◌++◌, Option, None, Some}
use Rattle.std.proofs.Common.{sym, ap, subst, ◌∙◌, inl, inr, arith}
use Rattle.std.proofs.lemmas.Bool.{cases_lt}
use Rattle.s3_machine.specs.declared.operation.Label.{Label}
use Rattle.s3_machine.specs.declared.operation.Op.{Op}
use Rattle.s3_machine.specs.declared.operation.Reply.{Reply}
use Rattle.s3_machine.specs.declared.operation.Settings.{Settings}
use Rattle.swift_calls.specs.History.{History, Extends}
use Rattle.swift_calls.proofs.lemmas.Histories.{extends_before}
use Rattle.upload_records.specs.Native.{s3_state}
use Rattle.upload_records.specs.Consistent.{IsConsistent}
use Rattle.account_calls.specs.Answers.{Passes, most_calls, most_settling}
use Rattle.account_calls.specs.Calls.{amount}
use Rattle.account_calls.specs.Stutters.{Stutters}
use Rattle.account_calls.proofs.lemmas.Agree.{quiet_agree, passes_agree, passes_still}
use Rattle.gateway.specs.declared.ended.Ended.{Ended}
use Rattle.gateway.specs.declared.service.Service.{Service}
use Rattle.gateway.specs.Request.{Request}
use Rattle.gateway.specs.Exchange.{StoreCursor, Span, Asked, asked_by, IsSpan, Performs, unsettled, answered, Replies, refused, performed}
use Rattle.gateway.specs.Connection.{Progress, ConnectionCursor, Serves, Exchanges, none, more, Breaks, Ends, over, cut, served, unread, unheard, untold, broken, parted, ConnectionTrace}
use Rattle.gateway.specs.Stands.{Follows, OpPasses, NonePasses, SpanPasses, AllPass}
use Rattle.gateway.proofs.lemmas.Order.{follows_order}

-- ---- one request

-- at one number nothing is done
quiet_none : {h : History} {p q : ℕ} → p ≡ q → IsConsistent (h.account_at p) → Stutters h p q
quiet_none {h = h} {p = p} one sound = record {
  ordered = omega arith;
  same = λ k from to. let e : k ≡ p = omega arith in ap (λ n. s3_state (h.account_at n)) e;
  sound = λ k from to. let e : p ≡ k = omega arith in subst (λ n. IsConsistent (h.account_at n)) e sound;
}

-- an operation: the store could not be settled, and nothing was done from there on; or the operation was answered
pub performs_pass : {settings : Settings} {h : History} {old new : StoreCursor} {span : Span} {asks : Option Asked} {op : Op} {label : Label} {reply : Reply} → IsSpan old span new asks
    → Performs settings h old span new op label reply → OpPasses settings h span (record { op = op; label = label })
performs_pass {settings = settings} {h = h} {old = old} {new = new} {span = span} {op = op} {label = label} is_span (unsettled not begins takes) =
    let order : old.number ≤ new.number = omega arith in
    let within = not.within in
    let at : new.number ≡ span.begins = omega arith in
    let whole : span.begins ≡ span.to = omega arith in
    let committed : span.begins ≡ span.committed = omega arith in
    let still : Stutters h span.begins span.to = quiet_none whole (subst (λ n. IsConsistent (h.account_at n)) at (not.quiet.sound new.number order (omega arith))) in
    record {
      settles = subst {A = ℕ × ℕ} (λ n. Stutters h n.0 n.1) (λ i. (sym is_span.from i, at i)) not.quiet;
      passes = subst {A = ℕ × ℕ} (λ n. Passes settings h span.begins n.0 span.to op label n.1) (λ i. (committed i, sym takes i)) (passes_still still);
      settling = subst (λ n. span.begins ≤ n + amount (most_settling (h.account_at n))) (sym is_span.from) (omega arith);
      calls = omega arith;
    }
performs_pass {settings = settings} {h = h} {span = span} {op = op} {label = label} is_span (answered settled answers beside bound shown) = record {
  settles = subst (λ n. Stutters h n span.begins) (sym is_span.from) settled.quiet;
  passes = subst (λ n. Passes settings h span.begins span.committed n op label span.takes) (sym is_span.to) answers.passes;
  settling = subst (λ n. span.begins ≤ n + amount (most_settling (h.account_at n))) (sym is_span.from) settled.within;
  calls = subst (λ n. n ≤ span.begins + amount (most_calls op (h.account_at span.begins))) (sym is_span.to) bound;
}

pub replies_pass : {settings : Settings} {h : History} {old new : StoreCursor} {span : Span} {request : Request} {label : Label} {reply : Reply} → IsSpan old span new (asked_by request.means label)
    → Replies settings h old span new request label reply → SpanPasses settings h span span.asked
replies_pass {settings = settings} {h = h} {old = old} {new = new} {span = span} {label = label} is_span (refused code means is proper sound same takes) =
    let number : new.number ≡ old.number = ap (λ m. m.number) same in
    let passes : NonePasses h span = record { none = omega arith; takes = takes; sound = subst (λ n. IsConsistent (h.account_at n)) (sym is_span.from) sound } in
    subst (SpanPasses settings h span) (sym (is_span.asked ∙ ap (λ m. asked_by m label) means)) passes
replies_pass {settings = settings} {h = h} {span = span} {label = label} is_span (performed op means performs caused known) =
    subst (SpanPasses settings h span) (sym (is_span.asked ∙ ap (λ m. asked_by m label) means)) (performs_pass is_span performs)

-- the account is consistent at each of its numbers
pub span_sound : (settings : Settings) (h : History) (span : Span) (asked : Option Asked) (k : ℕ) → span.from ≤ k → k ≤ span.to → SpanPasses settings h span asked → IsConsistent (h.account_at k)
span_sound settings h span None k from to passes = let one = passes.none in let e : span.from ≡ k = omega arith in subst (λ n. IsConsistent (h.account_at n)) e passes.sound
span_sound settings h span (Some asked) k from to passes = elim (cases_lt k span.begins) as (λ _. IsConsistent (h.account_at k)) [
  | inl near ↦ passes.settles.sound k from (omega arith)
  | inr far ↦ passes.passes.sound k far to
]

-- ---- lists of spans

pub all_pass_none : (settings : Settings) (h : History) → AllPass settings h []
unfolding AllPass
all_pass_none settings h = tt

pub all_pass_one : (settings : Settings) (h : History) (span : Span) → SpanPasses settings h span span.asked → AllPass settings h (span ∷ [])
unfolding AllPass
all_pass_one settings h span passes = (passes, tt)

pub all_pass_append : (settings : Settings) (h : History) (before after : List Span) → AllPass settings h before → AllPass settings h after → AllPass settings h (before ++ after)
unfolding AllPass
all_pass_append settings h [] after first then = then
all_pass_append settings h (span ∷ before) after (passes, first) then = (passes, all_pass_append settings h before after first then)

-- after requests that follow one another the account is consistent
pub all_pass_sound : (settings : Settings) (h : History) (p q : ℕ) (spans : List Span) → IsConsistent (h.account_at p) → Follows p spans q → AllPass settings h spans → IsConsistent (h.account_at q)
unfolding Follows AllPass
all_pass_sound settings h p q [] sound same passes = subst (λ n. IsConsistent (h.account_at n)) same sound
all_pass_sound settings h p q (span ∷ spans) sound (begins, settled, committed, ends, then) (passes, rest) =
    all_pass_sound settings h span.to q spans (span_sound settings h span span.asked span.to (omega arith) (omega arith) passes) then rest

-- ---- one connection

module _ {service : Service} {h : History} {connection : ℕ} where
  pub serves_pass : {end : Option Ended} {old new : ConnectionCursor} {span : Span} → Serves service (Replies service.settings h) connection end old span new → SpanPasses service.settings h span span.asked
  serves_pass serves = replies_pass serves.exchange.is_span serves.exchange.replies

  pub breaks_pass : {old : ConnectionCursor} {span : Span} {new : Progress} → Breaks service (Replies service.settings h) connection old span new → SpanPasses service.settings h span span.asked
  breaks_pass breaks = replies_pass breaks.exchange.is_span breaks.exchange.replies

  pub exchanges_pass : {old new : ConnectionCursor} {spans : List Span} → Exchanges service (Replies service.settings h) connection old spans new → AllPass service.settings h spans
  exchanges_pass (none cursor) = all_pass_none service.settings h
  exchanges_pass (more old middle new spans span exchanges serves) =
      all_pass_append service.settings h spans (span ∷ []) (exchanges_pass exchanges) (all_pass_one service.settings h span (serves_pass serves))

  pub ends_pass : {ended : Ended} {last : ConnectionCursor} {new : Progress} {spans : List Span} → Ends service (Replies service.settings h) connection ended last new spans → AllPass service.settings h spans
  ends_pass (over is front same) = all_pass_none service.settings h
  ends_pass (cut is front same) = all_pass_none service.settings h
  ends_pass (served cursor span serves same) = all_pass_one service.settings h span (serves_pass serves)
  ends_pass (unread heard is only owed sends) = all_pass_none service.settings h
  ends_pass (unheard is only owed) = all_pass_none service.settings h
  ends_pass (untold heard is only owed sends) = all_pass_none service.settings h
  ends_pass (broken span is breaks) = all_pass_one service.settings h span (breaks_pass breaks)
  ends_pass (parted span parts) = all_pass_one service.settings h span (replies_pass parts.exchange.is_span parts.exchange.replies)

  pub connection_trace_pass : {ended : Ended} {old : ConnectionCursor} {spans : List Span} {new : Progress} → ConnectionTrace service (Replies service.settings h) connection ended old spans new → AllPass service.settings h spans
  connection_trace_pass trace =
      subst (AllPass service.settings h) (sym trace.all) (all_pass_append service.settings h trace.before trace.after (exchanges_pass trace.exchanges) (ends_pass trace.ends))

-- ---- later histories

module _ (settings : Settings) {h h' : History} {c : ℕ} (kept : Extends c h h') where
  span_passes_agree : (span : Span) (asked : Option Asked) → span.from ≤ span.begins → span.begins ≤ span.to → span.to ≤ c → SpanPasses settings h span asked → SpanPasses settings h' span asked
  span_passes_agree span None settles order near passes =
      record { none = passes.none; takes = passes.takes; sound = subst IsConsistent (sym (kept.accounts span.from (omega arith))) passes.sound }
  span_passes_agree span (Some asked) settles order near passes = record {
    settles = quiet_agree (extends_before (omega arith) kept) passes.settles;
    passes = passes_agree (extends_before near kept) passes.passes;
    settling = subst (λ tree. span.begins ≤ span.from + amount (most_settling tree)) (sym (kept.accounts span.from (omega arith))) passes.settling;
    calls = subst (λ tree. span.to ≤ span.begins + amount (most_calls asked.op tree)) (sym (kept.accounts span.begins (omega arith))) passes.calls;
  }

  pub all_pass_agree : (p q : ℕ) (spans : List Span) → q ≤ c → Follows p spans q → AllPass settings h spans → AllPass settings h' spans
  unfolding Follows AllPass
  all_pass_agree p q [] near follows passes = tt
  all_pass_agree p q (span ∷ spans) near (begins, settled, committed, ends, then) (passes, rest) =
      let later : span.to ≤ q = follows_order span.to q spans then in
      (span_passes_agree span span.asked settled (omega arith) (omega arith) passes, all_pass_agree span.to q spans near then rest)
