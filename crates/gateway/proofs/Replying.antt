-- What a request means, and what it is answered.
use Rattle.std.specs.Prelude.{◌≡◌, ◌≢◌, ℕ, Bool, true, false, [], ◌∷◌, Option}
use Rattle.std.proofs.Common.{refl, sym, ap, subst, ◌∙◌, inl, inr, arith}
use Rattle.gate_base.specs.declared.caller.Caller.{Caller}
use Rattle.s3_machine.specs.declared.code.Code.{Code}
use Rattle.s3_machine.specs.declared.code.Code.TheVariants.{ServiceUnavailable}
use Rattle.s3_machine.specs.declared.operation.Label.{Label}
use Rattle.s3_machine.specs.declared.operation.Settings.{Settings}
use Rattle.s3_machine.specs.declared.operation.Op.{Op}
use Rattle.s3_machine.specs.declared.operation.Reply.{Reply}
use Rattle.s3_machine.specs.declared.operation.Reply.TheVariants as answer
use Rattle.swift_calls.specs.History.{History}
use Rattle.account_calls.specs.declared.state.Known.{Known}
use Rattle.account_calls.specs.declared.state.Known.TheVariants as known
use Rattle.account_calls.specs.Answers.{is_old_if_out_of_memory, OldIf, memory, beside_of}
use Rattle.account_calls.specs.Calls.{Met}
use Rattle.account_calls.specs.Known.{IsKnown, Knows}
use Rattle.account_calls.proofs.lemmas.Agree.{passes_still, beside_memory}
use Rattle.account_calls.proofs.lemmas.Idle.{none_made}
use Rattle.s3_requests.specs.declared.meant.Meant.{Meant}
use Rattle.s3_requests.specs.declared.meant.Meant.TheVariants as meant
use Rattle.gateway.specs.ResolvedRequest.{Understands}
use Rattle.s3_machine.specs.Proper.{IsProperCode}
use Rattle.s3_requests.specs.Proper.{IsProperMeant}
use Rattle.gateway.specs.Request.{Request}
use Rattle.gateway.specs.Connection.{sent_by}
use Rattle.gateway.specs.Exchange.{Asked, asked_by, store_cursor, Span, IsSpan, Performs, unsettled, answered, refused, performed, refused_any, performed_any, RepliesBy, RepliesExpected, Where, IsCaused, Operated}
use Rattle.planner.specs.declared.reading.Reading.{Reading}
use Rattle.planner.specs.declared.reading.Reading.TheVariants.{Whole, Pieces}
use Rattle.gateway.specs.Reading.{OperatedOrReads, RepliedOrReads}
use Rattle.gateway.specs.Stands.{SpanPasses, Stands}
use Rattle.gateway.proofs.lemmas.Order.{follows_none, is_span_follows}
use Rattle.gateway.proofs.lemmas.Passing.{performs_pass, all_pass_none, all_pass_one}

-- ---- the account

-- a span in which the calls are made between two numbers
abbrev pub span_between : ℕ → ℕ → Option Asked → Span
span_between p q asked = record { from = p; begins = p; committed = p; to = q; asked = asked; takes = 0 }

-- the account goes through the steps of an operation
pub operated_stands : {settings : Settings} {op : Op} {label : Label} {old new : History} {was now : Known} {reply : Reply} → Operated settings op label old new was now reply → Stands settings was now old new
operated_stands {settings = settings} {new = new} operated met =
    let told = operated.effect met in
    let span = told.0 in
    let is_span = told.1 in
    record {
      spans = span ∷ [];
      follows = is_span_follows is_span;
      passes = all_pass_one settings new span (subst (SpanPasses settings new span) (sym is_span.asked) (performs_pass is_span told.2));
      known = operated.known met.observable met.has;
    }

-- what is known of the store after an operation is so
pub operated_knows : {settings : Settings} {op : Op} {label : Label} {old new : History} {was now : Known} {reply : Reply} → Operated settings op label old new was now reply → Knows was old → Knows now new
operated_knows operated known observable = let before = operated.on.told observable in operated.known before (known before)

-- no call was made
pub stands_still : (settings : Settings) (was : Known) (h : History) → Stands settings was was h h
stands_still settings was h met = record { spans = []; follows = follows_none refl; passes = all_pass_none settings h; known = met.has }

-- ---- a reply that is expected

module _ (settings : Settings) (old new : History) (was now : Known) (request : Request) (label : Label) where
  due_op : (all : Bool) {op : Op} {given : Reply} → request.means ≡ meant.Op op → Operated settings op (sent_by request.caller label) old new was now given → Where all (Met (IsKnown was) old)
      → RepliesExpected (RepliesBy all settings new) (store_cursor old was) (store_cursor new now) request (sent_by request.caller label) given
  due_op true {op = op} {given = given} is own met =
      let told = own.effect met in
      record {
        span = told.0;
        due = given;
        is_span = subst (IsSpan (store_cursor old was) told.0 (store_cursor new now)) (sym (ap (λ m. asked_by m (sent_by request.caller label)) is)) told.1;
        replies = performed op is told.2 own.caused (own.known met.observable met.has);
        same = λ _. refl;
      }
  due_op false {op = op} {given = given} is own met = record {
    span = span_between old.called new.called (asked_by request.means (sent_by request.caller label));
    due = given;
    is_span = record { from = refl; settles = omega arith; first = omega arith; last = own.on.ordered; to = refl; asked = refl; faults = own.on.faults };
    replies = performed_any op is own.caused;
    same = λ _. refl;
  }

  -- to an operation
  pub replied_op : (all : Bool) (means : Meant) (op : Op) (given : Reply) → means ≡ meant.Op op → Understands means request → (means ≢ meant.Memory → label.caller ≡ request.caller)
      → Operated settings op label old new was now given → Where all (Met (IsKnown was) old)
      → RepliesExpected (RepliesBy all settings new) (store_cursor old was) (store_cursor new now) request (sent_by request.caller label) given
  replied_op all means op given e understands from operated met =
      let not_memory : means ≢ meant.Memory = λ m. (let no : meant.Op op ≡ meant.Memory = sym e ∙ m in cc) in
      let P : Caller → Type 0 = λ caller. Operated settings op (sent_by caller label) old new was now given in
      let own : P request.caller = subst P (from not_memory) operated in
      due_op all (sym (understands.same not_memory) ∙ e) own met

-- where no call is made
is_span_still : (h : History) (was : Known) (asked : Option Asked) → IsSpan (store_cursor h was) (span_between h.called h.called asked) (store_cursor h was) asked
is_span_still h was asked = record { from = refl; settles = omega arith; first = omega arith; last = omega arith; to = refl; asked = refl; faults = omega arith }

-- a request whose code is known has it
pub code_meant : (request : Request) (means : Meant) (code : Code) → means ≡ meant.Refused code → Understands means request → request.means ≡ meant.Refused code
code_meant request means code e understands = sym (understands.same (λ m. (let no : meant.Refused code ≡ meant.Memory = sym e ∙ m in cc))) ∙ e

-- what the code holds is as proper as what the request means
pub understood_proper : (means : Meant) (request : Request) → Understands means request → IsProperMeant means
understood_proper (meant.Op op) request understands = subst IsProperMeant (sym (understands.same (λ e. cc))) understands.proper
understood_proper (meant.Refused code) request understands = subst IsProperMeant (sym (understands.same (λ e. cc))) understands.proper
understood_proper meant.Memory request understands = tt

-- a request that has a code of its own
module _ (settings : Settings) (h : History) (was : Known) (request : Request) (label : Label) where
  by_code : (all : Bool) {code : Code} → request.means ≡ meant.Refused code → IsProperCode code → Where all (Met (IsKnown was) h)
      → RepliesBy all settings h (store_cursor h was) (span_between h.called h.called (asked_by request.means label)) (store_cursor h was) request label (answer.Refused code)
  by_code true {code = code} is proper met = refused code is refl proper met.sound refl refl
  by_code false {code = code} is proper met = refused_any code is refl proper refl

  pub replied_refused : (all : Bool) (code : Code) → request.means ≡ meant.Refused code → IsProperCode code → Where all (Met (IsKnown was) h)
      → RepliesExpected (RepliesBy all settings h) (store_cursor h was) (store_cursor h was) request label (answer.Refused code)
  replied_refused all code is proper met = record {
    span = span_between h.called h.called (asked_by request.means label);
    due = answer.Refused code;
    is_span = is_span_still h was (asked_by request.means label);
    replies = by_code all is proper met;
    same = λ _. refl;
  }

-- the word that memory ran out is one that may be said to an operation, whatever is known of the store
out_of_memory_caused : (h : History) (was : Known) (op : Op) → IsCaused (store_cursor h was) (store_cursor h was) op answer.Memory
out_of_memory_caused h was op = record { unavailable = λ is. absurd (let no : answer.Memory ≡ answer.Refused ServiceUnavailable = is in cc); stops = λ is. tt; unsure = λ is. inl (is, inr (inr refl)); bodiless = inl tt }

-- before the first call the state is the old one, if that is asked for
old_if_none : (t : Bool) (h : History) (p : ℕ) → OldIf t h p p
old_if_none true h p = λ k from to. absurd (omega arith)
old_if_none false h p = tt

out_of_memory_performs : (settings : Settings) (h : History) (was : Known) (op : Op) (label : Label) (asked : Option Asked) → Met (IsKnown was) h
    → Performs settings h (store_cursor h was) (span_between h.called h.called asked) (store_cursor h was) op label answer.Memory
out_of_memory_performs settings h known.Settled op label asked met = answered
    (record { needs_none = λ is. refl; quiet = none_made refl met.sound; no_fault = refl; within = omega arith; settled = met.has refl })
    (record { passes = passes_still (none_made refl met.sound); by = memory refl (old_if_none (is_old_if_out_of_memory op) h h.called) })
    (beside_memory (beside_of op) label h h.called)
    (omega arith)
    tt
out_of_memory_performs settings h known.Unsure op label asked met = unsettled
    (record { needs_some = refl; quiet = none_made refl met.sound; within = omega arith; says = inr refl })
    refl refl

-- memory ran out before any call
module _ (settings : Settings) (h : History) (was : Known) (request : Request) (label : Label) where
  out_of_memory_op : (all : Bool) (op : Op) → request.means ≡ meant.Op op → Where all (Met (IsKnown was) h)
      → RepliesBy all settings h (store_cursor h was) (span_between h.called h.called (asked_by request.means label)) (store_cursor h was) request label answer.Memory
  out_of_memory_op true op is met = performed op is (out_of_memory_performs settings h was op label (asked_by request.means label) met) (out_of_memory_caused h was op) met.has
  out_of_memory_op false op is met = performed_any op is (out_of_memory_caused h was op)

  by_means : (all : Bool) (means : Meant) → request.means ≡ means → request.means ≢ meant.Memory → IsProperMeant request.means → Where all (Met (IsKnown was) h)
      → RepliesExpected (RepliesBy all settings h) (store_cursor h was) (store_cursor h was) request label answer.Memory
  by_means all (meant.Op op) is some proper met = record {
    span = span_between h.called h.called (asked_by request.means label);
    due = answer.Memory;
    is_span = is_span_still h was (asked_by request.means label);
    replies = out_of_memory_op all op is met;
    same = λ _. refl;
  }
  by_means all (meant.Refused code) is some proper met =
      let due = replied_refused settings h was request label all code is (subst IsProperMeant is proper) met in
      record { span = due.span; due = due.due; is_span = due.is_span; replies = due.replies; same = λ not. absurd (not refl) }
  by_means all meant.Memory is some proper met = absurd (some is)

  pub replied_memory : (all : Bool) → Understands meant.Memory request → Where all (Met (IsKnown was) h)
      → RepliesExpected (RepliesBy all settings h) (store_cursor h was) (store_cursor h was) request label answer.Memory
  replied_memory all understands met = by_means all request.means refl understands.meant understands.proper met

-- an operation was answered, or its object found
pub replied_by : (settings : Settings) (label : Label) (old new : History) (was now : Known) (means : Meant) (op : Op) → means ≡ meant.Op op → (reading : Reading) → OperatedOrReads settings op label old new was now reading
    → RepliedOrReads settings means label old new was now reading
replied_by settings label old new was now means op is (Whole reply) operated = record {
  showable = operated.showable;
  on = operated.on;
  knows = operated_knows operated;
  out_of_memory = λ none. absurd (let no : meant.Op op ≡ meant.Memory = sym is ∙ none in cc);
  stands = operated_stands operated;
  effect = λ all met request understands from. replied_op settings old new was now request label all means op reply is understands from operated met;
}
replied_by settings label old new was now means op is (Pieces found) (settled, reads) = (op, is, settled, reads)
