-- A connection that was served to its end where no fault was counted: what was written are the replies alone.
use Rattle.std.specs.Prelude.{◌≡◌, ◌≢◌, ℕ, Bool, true, false, List, [], ◌∷◌, ◌++◌, Option, None, Some}
use Rattle.std.proofs.Common.{refl, sym, ap, subst, ◌∙◌, inl, inr, arith, append-nil, append_assoc}
use Rattle.std.proofs.lemmas.List.Concat.{flat_map-append}
use Rattle.gate_base.specs.Causes.{Rose}
use Rattle.gate_base.specs.declared.outside.Piece.{Piece}
use Rattle.s3_machine.specs.declared.code.Code.TheVariants.{ServiceUnavailable}
use Rattle.s3_machine.specs.declared.operation.Label.{Label}
use Rattle.s3_machine.specs.declared.operation.Op.{Op}
use Rattle.s3_machine.specs.declared.operation.Reply.{Reply}
use Rattle.s3_machine.specs.declared.operation.Reply.TheVariants as reply
use Rattle.s3_machine.specs.declared.operation.Settings.{Settings}
use Rattle.s3_machine.specs.Step.{S3Step}
use Rattle.swift_calls.specs.History.{History}
use Rattle.upload_records.specs.Native.{s3_state}
use Rattle.account_calls.specs.Answers.{AnswersBy, machine, unavailable, memory}
use Rattle.http_wire.specs.Interim.{interim_line}
use Rattle.s3_requests.specs.declared.meant.Meant.TheVariants as meant
use Rattle.gateway.specs.declared.ended.Ended.{Ended}
use Rattle.gateway.specs.declared.ended.Ended.TheVariants.{End, Closed, CutShort, Refused, LineFailed, StoreFailed, Inconsistent, Memory}
use Rattle.gateway.specs.declared.service.Service.{Service}
use Rattle.gateway.specs.Request.{Request, print}
use Rattle.gateway.specs.Exchange.{ReplyRelation, StoreCursor, Span, Performs, unsettled, answered, Replies, refused, performed, RepliesBy, ExpectedBytes, printed, out_of_memory, Sends, BreaksOff}
use Rattle.gateway.specs.Connection.{Progress, ConnectionCursor, OwedIsSent, Serves, Exchanges, none, more, Ends, over, cut, served, unread, unheard, untold, broken, parted, ConnectionTrace}
use Rattle.gateway.proofs.lemmas.Counted.{unsaid}
use Rattle.gateway.proofs.lemmas.Map.{Between, fault_free_map}
use Rattle.gateway.proofs.lemmas.Order.{serves_order, serves_order_faults, exchanges_order, exchanges_order_faults, ends_order, ends_order_faults}
use Rattle.trial_cmd.specs.Replied.{output_of, is_replied_end, OwnReplies, IsOwedLine, Replied, none_replied, one_replied, by_reply, at_end, inside_head, RepliesAlone}

-- ---- the machine's step

step_by : {settings : Settings} {h : History} {p q : ℕ} {op : Op} {label : Label} {takes : ℕ} {given : Reply} → given ≢ reply.Memory → given ≢ reply.Refused ServiceUnavailable → AnswersBy settings h p q op label takes given
    → S3Step settings (s3_state (h.account_at p)) op label given (s3_state (h.account_at q))
step_by known steady (machine all stepped) = stepped
step_by known steady (unavailable is failed old) = absurd (steady is)
step_by known steady (memory is old) = absurd (known is)

-- settling left the state, so the step is one from the state before the request
step_of : {settings : Settings} {h : History} {old new : StoreCursor} {span : Span} {op : Op} {label : Label} {given : Reply} → given ≢ reply.Memory → given ≢ reply.Refused ServiceUnavailable
    → Performs settings h old span new op label given → S3Step settings (s3_state (h.account_at old.number)) op label given (s3_state (h.account_at new.number))
step_of known steady (unsettled not begins takes) = absurd (unsaid known steady not.says)
step_of {settings = settings} {h = h} {old = old} {new = new} {span = span} {op = op} {label = label} {given = given} known steady (answered settled answers beside bound shown) =
    let ordered = settled.quiet.ordered in
    subst (λ state. S3Step settings state op label given (s3_state (h.account_at new.number))) (settled.quiet.same span.begins ordered (omega arith)) (step_by known steady answers.by)

machine_step : {settings : Settings} {h : History} {old new : StoreCursor} {span : Span} {request : Request} {label : Label} {given : Reply} → given ≢ reply.Memory → given ≢ reply.Refused ServiceUnavailable
    → Replies settings h old span new request label given → (op : Op) → request.means ≡ meant.Op op → S3Step settings (s3_state (h.account_at old.number)) op label given (s3_state (h.account_at new.number))
machine_step known steady (refused code means is proper sound same takes) op asks = cc
machine_step {settings = settings} {h = h} {old = old} {new = new} {label = label} {given = given} known steady (performed other means performs caused known') op asks =
    let one : other ≡ op = cc in
    subst (λ o. S3Step settings (s3_state (h.account_at old.number)) o label given (s3_state (h.account_at new.number))) one (step_of known steady performs)

stepped_by : (all : Bool) (settings : Settings) (h : History) (old new : StoreCursor) (span : Span) (request : Request) (label : Label) (given : Reply) → given ≢ reply.Memory → given ≢ reply.Refused ServiceUnavailable
    → RepliesBy all settings h old span new request label given → all ≡ true → (op : Op) → request.means ≡ meant.Op op → S3Step settings (s3_state (h.account_at old.number)) op label given (s3_state (h.account_at new.number))
stepped_by true settings h old new span request label given known steady replies is = machine_step known steady replies
stepped_by false settings h old new span request label given known steady replies is = absurd (let no : false ≡ true = is in cc)

-- ---- what was written

module _ {request : Request} {label : Label} {given : Reply} {end : Option Ended} {bytes : List ℕ} (other : end ≢ Some Memory) where
  due_known : ExpectedBytes request label given end bytes → given ≢ reply.Memory
  due_known (printed known text is) = known
  due_known (out_of_memory text is) = absurd (other is)

  due_print : ExpectedBytes request label given end bytes → bytes ≡ print given label request
  due_print (printed known text is) = text
  due_print (out_of_memory text is) = absurd (other is)

sends_output : {connection t q : ℕ} {bytes : List ℕ} {old new : List Piece} → Sends connection t q bytes old new → output_of new ≡ output_of old ++ bytes
sends_output {old = old} sends =
    ap output_of sends.sent
    ∙ flat_map-append (λ (piece : Piece). piece.bytes) old (sends.first ++ sends.last ∷ [])
    ∙ ap (λ later. output_of old ++ later) sends.whole

-- the line that is owed, and what was written before the reply
owed_output : (service : Service) (connection : ℕ) (old : ConnectionCursor) (heard : List Piece) → OwedIsSent service connection old heard → (line : List ℕ) × IsOwedLine service old line × (output_of heard ≡ output_of old.progress.sent ++ line)
owed_output service connection old heard (inl (owes, is)) = (
  interim_line,
  inl (owes, refl),
  ap output_of is ∙ flat_map-append (λ (piece : Piece). piece.bytes) old.progress.sent _ ∙ ap (λ later. output_of old.progress.sent ++ later) (append-nil interim_line),
)
owed_output service connection old heard (inr (free, is)) = ([], inr (free, refl), ap output_of is ∙ sym (append-nil (output_of old.progress.sent)))

-- ---- one connection

-- one request, and what was written for it
record One (service : Service) (R : ReplyRelation) (connection : ℕ) (end : Option Ended) (old : ConnectionCursor) (span : Span) (new : ConnectionCursor) : Type 0 where
  pub serves : Serves service R connection end old span new
  pub line : List ℕ
  pub owed : IsOwedLine service old line
  pub written : output_of new.progress.sent ≡ output_of old.progress.sent ++ (line ++ print serves.exchange.reply serves.label serves.request)

-- any number of them
record Many (service : Service) (R : ReplyRelation) (connection : ℕ) (old : ConnectionCursor) (spans : List Span) (end : Option Ended) (new : ConnectionCursor) : Type 0 where
  pub output : List ℕ
  pub replied : Replied service R connection old spans output end new
  pub written : output_of new.progress.sent ≡ output_of old.progress.sent ++ output

many_more : {service : Service} {R : ReplyRelation} {connection : ℕ} {end : Option Ended} {old middle new : ConnectionCursor} {spans : List Span} {span : Span} → Many service R connection old spans None middle
    → One service R connection end middle span new → Many service R connection old (spans ++ span ∷ []) end new
many_more {end = end} {old = old} {middle = middle} {new = new} {spans = spans} {span = span} many one =
    let text = one.line ++ print one.serves.exchange.reply one.serves.label one.serves.request in
    record {
      output = many.output ++ text;
      replied = one_replied old middle new spans span many.output one.line end many.replied one.serves one.owed;
      written = one.written ∙ ap (λ before. before ++ text) many.written ∙ append_assoc (output_of old.progress.sent) many.output text;
    }

never_parted : (ended : Ended) (fault : Reply) → is_replied_end ended ≡ true → BreaksOff ended fault → ⊥
never_parted End fault is breaks = breaks
never_parted Closed fault is breaks = breaks
never_parted (CutShort place) fault is breaks = breaks
never_parted (Refused kind place) fault is breaks = breaks
never_parted LineFailed fault is breaks = breaks
never_parted StoreFailed fault is breaks = let no : false ≡ true = is in cc
never_parted (Inconsistent container name) fault is breaks = let no : false ≡ true = is in cc
never_parted Memory fault is breaks = let no : false ≡ true = is in cc

module _ (all : Bool) {service : Service} {h : History} {first last : StoreCursor} (still : Rose first.faults last.faults → ⊥) where
  serves_own : {connection : ℕ} {end : Option Ended} {old new : ConnectionCursor} {span : Span} → end ≢ Some Memory → Between first last old.progress.store new.progress.store
      → Serves service (RepliesBy all service.settings h) connection end old span new → One service (OwnReplies all service.settings h) connection end old span new
  serves_own {connection = connection} {end = end} {old = old} {new = new} {span = span} other between serves =
      let exchange = serves.exchange in
      let known = due_known other exchange.due in
      let steady = (fault_free_map all service.settings h first last still old.progress.store new.progress.store span serves.request serves.label exchange.reply exchange.is_span between exchange.replies).available in
      let owed = owed_output service connection old serves.heard serves.owed in
      record {
        serves = record {
          request = serves.request;
          label = serves.label;
          heard = serves.heard;
          resolves = serves.resolves;
          owed = serves.owed;
          labels = serves.labels;
          exchange = record {
            reply = exchange.reply;
            bytes = exchange.bytes;
            is_span = exchange.is_span;
            replies = record { replies = exchange.replies; available = steady; in_memory = known; stepped = stepped_by all service.settings h old.progress.store new.progress.store span serves.request serves.label exchange.reply known steady exchange.replies };
            due = exchange.due;
            sends = exchange.sends;
            paced = exchange.paced;
          };
        };
        line = owed.0;
        owed = owed.1;
        written = sends_output exchange.sends
            ∙ ap (λ before. before ++ exchange.bytes) owed.2
            ∙ append_assoc (output_of old.progress.sent) owed.0 exchange.bytes
            ∙ ap (λ text. output_of old.progress.sent ++ (owed.0 ++ text)) (due_print other exchange.due);
      }

  exchanges_own : {connection : ℕ} {old new : ConnectionCursor} {spans : List Span} → Between first last old.progress.store new.progress.store → Exchanges service (RepliesBy all service.settings h) connection old spans new
      → Many service (OwnReplies all service.settings h) connection old spans None new
  exchanges_own between (none cursor) = record { output = []; replied = none_replied cursor; written = sym (append-nil (output_of cursor.progress.sent)) }
  exchanges_own between (more old middle new spans span exchanges serves) =
      let rises = exchanges_order exchanges in
      let rises_faults = exchanges_order_faults exchanges in
      let rises_then = serves_order serves in
      let rises_faults_then = serves_order_faults serves in
      many_more
      (exchanges_own (record { since = between.since; until = omega arith; since_faults = between.since_faults; until_faults = omega arith }) exchanges)
      (serves_own (λ is. let no : None ≡ Some Memory = is in cc) (record { since = omega arith; until = between.until; since_faults = omega arith; until_faults = between.until_faults }) serves)

  ends_own : {connection : ℕ} (ended : Ended) {old cursor : ConnectionCursor} {before after : List Span} {new : Progress} → is_replied_end ended ≡ true → Many service (OwnReplies all service.settings h) connection old before None cursor
      → Between first last cursor.progress.store new.store → Ends service (RepliesBy all service.settings h) connection ended cursor new after
      → (output : List ℕ) × RepliesAlone service (OwnReplies all service.settings h) connection ended old output new
  ends_own ended {cursor = cursor} {before = before} is many between (over e front same) =
      (many.output, record { spans = before; end = None; last = cursor; replied = many.replied; over = at_end e front; same = same; written = ap (λ t. output_of t.sent) same ∙ many.written })
  ends_own ended {cursor = cursor} {before = before} is many between (cut e front same) =
      (many.output, record { spans = before; end = None; last = cursor; replied = many.replied; over = inside_head e front; same = same; written = ap (λ t. output_of t.sent) same ∙ many.written })
  ends_own ended {cursor = cursor} {before = before} is many between (served next span serves same) =
      let other : Some ended ≢ Some Memory = λ e. (let one : ended ≡ Memory = cc in let no : true ≡ false = sym is ∙ ap is_replied_end one in cc) in
      let whole = many_more many (serves_own other (subst (λ t. Between first last cursor.progress.store t.store) same between) serves) in
      (whole.output, record { spans = before ++ span ∷ []; end = Some ended; last = next; replied = whole.replied; over = by_reply; same = same; written = ap (λ t. output_of t.sent) same ∙ whole.written })
  ends_own ended is many between (unread heard e only owed sends) = absurd (let no : true ≡ false = sym is ∙ ap is_replied_end e in cc)
  ends_own ended is many between (unheard e only owed) = absurd (let no : true ≡ false = sym is ∙ ap is_replied_end e in cc)
  ends_own ended is many between (untold heard e only owed sends) = absurd (let no : true ≡ false = sym is ∙ ap is_replied_end e in cc)
  ends_own ended is many between (broken span e breaks) = absurd (let no : true ≡ false = sym is ∙ ap is_replied_end e in cc)
  ends_own ended is many between (parted span parts) = absurd (never_parted ended parts.exchange.fault is parts.exchange.breaks)

-- where neither the line nor memory ended it, and no fault was counted
pub replies_alone : (all : Bool) (service : Service) (h : History) {connection : ℕ} (ended : Ended) {old : ConnectionCursor} {spans : List Span} {new : Progress} → is_replied_end ended ≡ true
    → (Rose old.progress.store.faults new.store.faults → ⊥) → ConnectionTrace service (RepliesBy all service.settings h) connection ended old spans new
    → (output : List ℕ) × RepliesAlone service (OwnReplies all service.settings h) connection ended old output new
replies_alone all service h ended {old = old} {new = new} is still trace =
    let rises = exchanges_order trace.exchanges in
    let rises_faults = exchanges_order_faults trace.exchanges in
    let rises_then = ends_order trace.ends in
    let rises_faults_then = ends_order_faults trace.ends in
    ends_own all {first = old.progress.store} {last = new.store} still ended is
    (exchanges_own all {first = old.progress.store} {last = new.store} still (record { since = omega arith; until = omega arith; since_faults = omega arith; until_faults = omega arith }) trace.exchanges)
    (record { since = omega arith; until = omega arith; since_faults = omega arith; until_faults = omega arith }) trace.ends
