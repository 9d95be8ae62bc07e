-- What is sent for a request, and the exchange that it is.
use Rattle.std.specs.Prelude.{◌≡◌, ◌≢◌, ◌≤◌, ◌<◌, ◌⊎◌, ◌+◌, ◌-◌, ℕ, Bool, true, false, IsTrue, is_some, List, [], ◌∷◌, ◌++◌, length, drop, replicate, Option, Some, None, Err}
use Rattle.std.proofs.Common.{refl, sym, ap, subst, ◌∙◌, inl, inr, arith, append-nil, append_assoc}
use Rattle.std.proofs.lemmas.List.{length-append, length-replicate, nil_from_length}
use Rattle.gate_base.specs.Causes.{Rose}
use Rattle.gate_base.specs.declared.outside.Piece.{Piece}
use Rattle.gate_base.specs.Line.{LineModel}
use Rattle.gate_base.specs.Transcript.{Transcript, with_piece, SendsPrefix}
use Rattle.http_wire.specs.FirstMessage.{is_head}
use Rattle.http_wire.specs.Print.{memory_reply}
use Rattle.s3_machine.specs.declared.code.Code.TheVariants.{ServiceUnavailable}
use Rattle.s3_machine.specs.declared.operation.Label.{Label}
use Rattle.s3_machine.specs.declared.operation.Op.{Op}
use Rattle.s3_machine.specs.Ops.{GetObject}
use Rattle.s3_machine.specs.declared.operation.Reply.{Reply}
use Rattle.s3_machine.specs.declared.operation.Reply.TheVariants as answer
use Rattle.s3_machine.specs.declared.operation.Settings.{Settings}
use Rattle.s3_machine.specs.State.{State}
use Rattle.s3_machine.specs.Step.{S3Step}
use Rattle.swift_calls.specs.History.{History, present}
use Rattle.upload_records.specs.Native.{IsSettled, s3_state}
use Rattle.account_calls.specs.Refusals.{IsWithinShown, most_refused}
use Rattle.account_calls.proofs.lemmas.Refusals.{shown_of}
use Rattle.account_calls.specs.declared.fault.PlanFault.{PlanFault}
use Rattle.account_calls.specs.declared.fault.PlanFault.TheVariants as fault
use Rattle.account_calls.specs.declared.state.Known.{Known}
use Rattle.account_calls.specs.declared.state.Known.TheVariants as known
use Rattle.account_calls.specs.Answers.{steps_of, beside_of, SaysBeside, pieces}
use Rattle.account_calls.specs.Calls.{always, Asks, Given, GoesOn, Met, Tells}
use Rattle.account_calls.specs.Fault.{CausesFault}
use Rattle.account_calls.specs.Plan.{reply_of}
use Rattle.account_calls.specs.Known.{IsKnown}
use Rattle.account_calls.specs.Told.{CountsOne}
use Rattle.account_calls.proofs.lemmas.Idle.{goes_trans}
use Rattle.planner.specs.declared.reading.Found.{Found}
use Rattle.planner.specs.Reading.{found_reply, IsReadBy, HasFound, ReadsBytes, TellsPiece, gives_bytes}
use Rattle.s3_requests.specs.declared.meant.Meant.{Meant}
use Rattle.s3_requests.specs.declared.meant.Meant.TheVariants as meant
use Rattle.gateway.specs.declared.ended.Ended.{Ended}
use Rattle.gateway.specs.declared.ended.Ended.TheVariants as ended
use Rattle.gateway.specs.declared.handle.Handled.{Handled}
use Rattle.gateway.specs.declared.handle.Handled.TheVariants.{Served, Broken, Parted}
use Rattle.gateway.specs.declared.send.Stop.TheVariants as stop
use Rattle.gateway.specs.Exchange.{ReplyRelation, StoreCursor, store_cursor, Span, IsSpan, IsCaused, Asked, asked_by, answered, Replies, refused, performed, performed_any, RepliesBy, RepliesExpected, Where, printed, out_of_memory, Sends, SendsPart, SendsPieces, AsksBytes, ReadIsPaced, Exchange, CutExchange, PartExchange, BreaksOff, IsBrokenBy, ReadsObject}
use Rattle.gateway.specs.Reading.{Reads, Got, SentSoFar, SendsBody, SendsBehind, SendsObject, head_sent, head_unsent, head_cut, SendsReply, head_text, ended_by}
use Rattle.gateway.specs.Request.{Request, print}
use Rattle.gateway.specs.Write.{CutsHead}
use Rattle.gateway.proofs.Operating.{rose_later}
use Rattle.gateway.proofs.Pieces.{one_piece, part_of, part_longer, sent_behind, cut_behind, pieces_behind, counted_behind, head_and_body}
use Rattle.gateway.specs.Stands.{SpanPasses, Stood, Stands}
use Rattle.gateway.proofs.lemmas.Order.{is_span_follows}
use Rattle.gateway.proofs.lemmas.Passing.{performs_pass, all_pass_one}
use Rattle.gateway.proofs.Tracing.{few_pieces, got_none, reads_more, rest_is, traced, traced_more, failed_answers, never_inconsistent, quiet_own, quiet_memory}

-- what became of one request
abbrev pub Responds : ReplyRelation → ℕ → StoreCursor → StoreCursor → Request → Label → List Piece → List Piece → Handled → Type 0
Responds R connection old new request label sent sent' (Served end) = (span : Span) × Exchange R connection old span new request label end sent sent'
Responds R connection old new request label sent sent' Broken = (span : Span) × CutExchange R connection old span new request label sent sent'
Responds R connection old new request label sent sent' (Parted end) = (span : Span) × PartExchange R connection old span new request label end sent sent'

-- ---- a whole reply

-- a reply that gives no bytes of an object is none with a body of it
not_paced : (connection t q : ℕ) (means : Meant) (given reply : Reply) (bytes : List ℕ) (sent sent' : List Piece) → given ≡ reply → (AsksBytes means → gives_bytes given ≡ false)
    → ReadIsPaced connection t q means reply bytes sent sent'
not_paced connection t q means given reply bytes sent sent' same bare body asks (head, from, length, partial, shown, parts, has) =
    absurd (let no : true ≡ false = sym (ap gives_bytes (same ∙ has)) ∙ bare asks in cc)

module _ {R : ReplyRelation} (old new : StoreCursor) (transcript transcript' : Transcript) (request : Request) (label : Label) (given : Reply) (replied : RepliesExpected R old new request label given)
    (bare : AsksBytes request.means → gives_bytes given ≡ false) where
  near : replied.span.committed ≤ new.number
  near = let last = replied.is_span.last in let to = replied.is_span.to in omega arith

  pub whole_responds : (handled : Handled) → SendsReply given label request.method request.resource request.end transcript new.number handled transcript'
      → Responds R transcript.begun old new request label transcript.sent transcript'.sent handled
  whole_responds (Served end) (inl (known, is, wrote)) =
      let same : given ≡ replied.due = replied.same known in (
        replied.span,
        record {
          reply = replied.due;
          bytes = print given label request;
          is_span = replied.is_span;
          replies = replied.replies;
          due = printed (λ e. known (same ∙ e)) (λ i. print (same i) label request) is;
          sends = one_piece replied.span.committed new.number (print given label request) transcript transcript' near wrote;
          paced = λ other. not_paced transcript.begun replied.span.committed new.number request.means given replied.due (print given label request) transcript.sent transcript'.sent same bare;
        },
      )
  whole_responds (Served end) (inr (is, wrote)) = (
    replied.span,
    record {
      reply = replied.due;
      bytes = memory_reply (is_head request.method);
      is_span = replied.is_span;
      replies = replied.replies;
      due = out_of_memory refl is;
      sends = one_piece replied.span.committed new.number (memory_reply (is_head request.method)) transcript transcript' near wrote;
      paced = λ other. absurd (other is);
    },
  )
  whole_responds Broken (bytes, inl (known, text), part) =
      let same : given ≡ replied.due = replied.same known in (
        replied.span,
        record {
          reply = replied.due;
          end = request.end;
          bytes = bytes;
          is_span = replied.is_span;
          replies = replied.replies;
          due = printed (λ e. known (same ∙ e)) (text ∙ (λ i. print (same i) label request)) refl;
          sends = part_of replied.span.committed new.number bytes transcript transcript' near part;
        },
      )
  whole_responds Broken (bytes, inr text, part) = (
    replied.span,
    record {
      reply = replied.due;
      end = Some ended.Memory;
      bytes = bytes;
      is_span = replied.is_span;
      replies = replied.replies;
      due = out_of_memory text refl;
      sends = part_of replied.span.committed new.number bytes transcript transcript' near part;
    },
  )
  whole_responds (Parted end) never = absurd never

-- ---- an object

-- as far as these bytes were got: what is replied with all of them, and under which span; it committed before so many calls
pub record RepliesRead (R : ReplyRelation) (old new : StoreCursor) (early : ℕ) (request : Request) (label : Label) (found : Found) (done : List ℕ) (fails : Option Reply) : Type 0 where
  rest : List ℕ
  sized : length (done ++ rest) ≡ found.length
  span : Span
  is_span : IsSpan old span new (asked_by request.means label)
  soon : span.committed ≤ early
  replies : R old span new request label (found_reply found (done ++ rest))
  failing : (reply : Reply) → fails ≡ Some reply → R old span new request label reply

-- an operation that reads asks nothing of the account beside the state
beside_read : (op : Op) (found : Found) (label : Label) (h : History) (p q : ℕ) (reply : Reply) → IsReadBy op found → SaysBeside (beside_of op) label h p q reply
beside_read op found label h p q reply reads = subst (λ o. SaysBeside (beside_of o) label h p q reply) (sym reads.3) tt

-- it reads the object that was found
reads_bytes : (op : Op) (found : Found) → IsReadBy op found → ReadsBytes op
reads_bytes op found (range, conditions, part, is) = (found.bucket, found.key, range, conditions, part, found.shown, is)

-- a reply to a read behind which the store is known to be settled has its cause
caused_by : (old new : StoreCursor) (op : Op) (reply : Reply) → ReadsBytes op → new.known ≡ known.Settled → IsWithinShown (most_refused op reply) old.number new.number
    → (reply ≡ answer.Refused ServiceUnavailable → Rose old.faults new.faults) → IsCaused old new op reply
caused_by old new op reply reads settled shown rose = record { unavailable = rose; stops = λ is. shown; unsure = λ is. absurd (let no : known.Settled ≡ known.Unsure = sym settled ∙ is in cc); bodiless = inr reads }

-- a fault is no refusal
fault_unshown : (op : Op) (old new : History) (f : PlanFault) → IsWithinShown (most_refused op (reply_of (Err f))) old.called new.called
fault_unshown op old new f = shown_of op old new (Err f) (record { so = tt })

fault_rose : (T : Type 0) (f : PlanFault) (before then now : ℕ) → before ≤ then → CausesFault {T = T} then now (Err f) → reply_of (Err f) ≡ answer.Refused ServiceUnavailable → Rose before now
fault_rose T fault.Failed before then now near cause is = rose_later before then now near cause
fault_rose T fault.Memory before then now near cause is = cc
fault_rose T fault.Inconsistent before then now near cause is = cc

is_inconsistent : (f : PlanFault) → (f ≡ fault.Inconsistent) ⊎ (f ≢ fault.Inconsistent)
is_inconsistent fault.Failed = inr (λ e. cc)
is_inconsistent fault.Memory = inr (λ e. cc)
is_inconsistent fault.Inconsistent = inl refl

module _ {settings : Settings} {op : Op} {label : Label} {found : Found} {old now : History} {was : Known} {done : List ℕ} {count : ℕ} (request : Request) (means : request.means ≡ meant.Op op)
    (reads : Reads settings op label found old now was done count) (few : length done ≤ found.length) (early : ℕ) (soon : reads.middle.called ≤ early) where
  abbrev asked : Option Asked
  asked = Some (record { op = op; label = label })

  asks_so : asked ≡ asked_by request.means label
  asks_so = sym (ap (λ m. asked_by m label) means)

  since : old.called ≤ reads.middle.called
  since = reads.readied.on.ordered

  abbrev span_to : ℕ → Span
  span_to q = record { from = old.called; begins = reads.middle.called; committed = reads.middle.called; to = q; asked = asked; takes = steps_of op }

  abbrev any_span_to : ℕ → Span
  any_span_to q = record { from = old.called; begins = old.called; committed = old.called; to = q; asked = asked; takes = 0 }

  -- no call failed
  pub read_replies : (all : Bool) → count ≤ pieces found.length → Where all (Met (IsKnown was) old) → RepliesRead (RepliesBy all settings now) (store_cursor old was) (store_cursor now known.Settled) early request label found done (Some answer.Memory)
  read_replies true most met =
      let so = traced reads met most in
      let left : List ℕ = drop (length done) so.body.body in
      let whole : done ++ left ≡ so.body.body = rest_is found done so.body.body (s3_state (now.account_at reads.middle.called)) so.body.has so.first so.body.first (let size = so.body.sized in omega arith) in
      let told = reads.told.on.ordered in
      let faults = (goes_trans reads.readied.on reads.told.on).faults in
      let settles : IsKnown known.Settled (now.account_at now.called) = λ is. reads.told.settled (reads.readied.on.observable met.observable) (reads.readied.settled met.observable met.has) in
      record {
        rest = left;
        sized = ap length whole ∙ so.body.sized;
        span = span_to now.called;
        is_span = record { from = refl; settles = since; first = omega arith; last = told; to = refl; asked = asks_so; faults = faults };
        soon = soon;
        replies = performed op means
            (answered so.settled (quiet_own so.quiet (subst (λ b. S3Step settings (s3_state (now.account_at reads.middle.called)) op label (found_reply found b) (s3_state (now.account_at reads.middle.called))) (sym whole) so.body.step))
            (beside_read op found label now reads.middle.called now.called (found_reply found (done ++ left)) reads.reads) so.bound tt)
            (caused_by (store_cursor old was) (store_cursor now known.Settled) op (found_reply found (done ++ left)) (reads_bytes op found reads.reads) refl tt (λ e. cc)) settles;
        failing = λ reply is.
            let same : answer.Memory ≡ reply = cc in
            subst (λ r. Replies settings now (store_cursor old was) (span_to now.called) (store_cursor now known.Settled) request label r) same
            (performed op means (answered so.settled (quiet_memory so.quiet so.body.step) (beside_read op found label now reads.middle.called now.called answer.Memory reads.reads) so.bound tt)
            (caused_by (store_cursor old was) (store_cursor now known.Settled) op answer.Memory (reads_bytes op found reads.reads) refl tt (λ e. cc)) settles);
      }
  read_replies false most met =
      let told = reads.told.on.ordered in
      let faults = (goes_trans reads.readied.on reads.told.on).faults in
      let left : List ℕ = replicate (found.length - length done) 0 in
      record {
        rest = left;
        sized = omega (arith, few, length-append done left, length-replicate {A = ℕ} (found.length - length done) 0);
        span = any_span_to now.called;
        is_span = record { from = refl; settles = omega arith; first = omega arith; last = omega (arith, since, told); to = refl; asked = asks_so; faults = faults };
        soon = omega (arith, since, soon);
        replies = performed_any op means (caused_by (store_cursor old was) (store_cursor now known.Settled) op (found_reply found (done ++ left)) (reads_bytes op found reads.reads) refl tt (λ e. cc));
        failing = λ reply is. performed_any op means (caused_by (store_cursor old was) (store_cursor now known.Settled) op reply (reads_bytes op found reads.reads) refl
            (let same : answer.Memory ≡ reply = cc in subst (λ r. IsWithinShown (most_refused op r) old.called now.called) same tt) (λ e. (let same : answer.Memory ≡ reply = cc in absurd (let no : answer.Memory ≡ answer.Refused ServiceUnavailable = same ∙ e in cc))));
      }

  -- the last call told nothing
  module _ {new : History} {f : PlanFault} {T : Type 0} {P : State → T → Type 0} (asks : Asks (always 1) now new (Given (HasFound found)) (Tells P) (Err f)) where
    pub failed_replies : (all : Bool) → count + 1 ≤ pieces found.length → Where all (Met (IsKnown was) old)
        → RepliesRead (RepliesBy all settings new) (store_cursor old was) (store_cursor new known.Settled) early request label found done (Some (reply_of (Err f)))
    failed_replies true most met = elim (is_inconsistent f) [
      | inl is ↦ absurd (never_inconsistent reads asks met is)
      | inr other ↦
          (let so = traced_more reads asks met most in
          let left : List ℕ = drop (length done) so.body.body in
          let whole : done ++ left ≡ so.body.body = rest_is found done so.body.body (s3_state (new.account_at reads.middle.called)) so.body.has so.first so.body.first (let size = so.body.sized in omega arith) in
          let told = reads.told.on.ordered in
          let then = asks.grows.on.ordered in
          let faults = (goes_trans reads.readied.on (goes_trans reads.told.on asks.grows.on)).faults in
          let before = (goes_trans reads.readied.on reads.told.on).faults in
          let settles : IsKnown known.Settled (new.account_at new.called) = λ is.
          asks.settled (reads.told.on.observable (reads.readied.on.observable met.observable)) (reads.told.settled (reads.readied.on.observable met.observable) (reads.readied.settled met.observable met.has)) in
          record {
            rest = left;
            sized = ap length whole ∙ so.body.sized;
            span = span_to new.called;
            is_span = record { from = refl; settles = since; first = omega arith; last = omega (arith, told, then); to = refl; asked = asks_so; faults = faults };
            soon = soon;
            replies = performed op means
                (answered so.settled (quiet_own so.quiet (subst (λ b. S3Step settings (s3_state (new.account_at reads.middle.called)) op label (found_reply found b) (s3_state (new.account_at reads.middle.called))) (sym whole) so.body.step))
                (beside_read op found label new reads.middle.called new.called (found_reply found (done ++ left)) reads.reads) so.bound tt)
                (caused_by (store_cursor old was) (store_cursor new known.Settled) op (found_reply found (done ++ left)) (reads_bytes op found reads.reads) refl tt (λ e. cc)) settles;
            failing = λ reply is.
                let same : reply_of (Err f) ≡ reply = cc in
                subst (λ r. Replies settings new (store_cursor old was) (span_to new.called) (store_cursor new known.Settled) request label r) same
                (performed op means (answered so.settled (failed_answers reads asks met other most) (beside_read op found label new reads.middle.called new.called (reply_of (Err f)) reads.reads) so.bound (fault_unshown op reads.middle new f))
                (caused_by (store_cursor old was) (store_cursor new known.Settled) op (reply_of (Err f)) (reads_bytes op found reads.reads) refl (fault_unshown op old new f) (fault_rose T f old.faults now.faults new.faults before asks.cause)) settles);
          })
    ]
    failed_replies false most met =
        let told = reads.told.on.ordered in
        let then = asks.grows.on.ordered in
        let faults = (goes_trans reads.readied.on (goes_trans reads.told.on asks.grows.on)).faults in
        let before = (goes_trans reads.readied.on reads.told.on).faults in
        let left : List ℕ = replicate (found.length - length done) 0 in
        record {
          rest = left;
          sized = omega (arith, few, length-append done left, length-replicate {A = ℕ} (found.length - length done) 0);
          span = any_span_to new.called;
          is_span = record { from = refl; settles = omega arith; first = omega arith; last = omega (arith, since, told, then); to = refl; asked = asks_so; faults = faults };
          soon = omega (arith, since, soon);
          replies = performed_any op means (caused_by (store_cursor old was) (store_cursor new known.Settled) op (found_reply found (done ++ left)) (reads_bytes op found reads.reads) refl tt (λ e. cc));
          failing = λ reply is. performed_any op means (caused_by (store_cursor old was) (store_cursor new known.Settled) op reply (reads_bytes op found reads.reads) refl
              (let same : reply_of (Err f) ≡ reply = cc in subst (λ r. IsWithinShown (most_refused op r) old.called new.called) same (fault_unshown op old new f))
              (λ e. (let same : reply_of (Err f) ≡ reply = cc in fault_rose T f old.faults now.faults new.faults before asks.cause (same ∙ e))));
        }

-- ---- an object that was sent

-- a reply with bytes is some reply
no_memory : (found : Found) (body : List ℕ) → found_reply found body ≢ answer.Memory
no_memory found body e = cc

breaks_off : (found : Found) (f : PlanFault) → BreaksOff (ended_by found f) (reply_of (Err f))
breaks_off found fault.Failed = refl
breaks_off found fault.Memory = refl
breaks_off found fault.Inconsistent = refl

reads_object : (op : Op) (found : Found) (f : PlanFault) → IsReadBy op found → ReadsObject (meant.Op op) (ended_by found f)
reads_object op found f reads = subst (λ o. ReadsObject (meant.Op o) (ended_by found f)) (sym reads.3) (by f)
  where
    by : (f : PlanFault) → ReadsObject (meant.Op (GetObject found.bucket found.key reads.0 reads.1 reads.2 found.shown)) (ended_by found f)
    by fault.Failed = tt
    by fault.Memory = tt
    by fault.Inconsistent = (refl, refl)

-- the call that told nothing broke it off
broken_by : (found : Found) (f : PlanFault) (p q before then now : ℕ) → p ≤ q → q ≤ p + 1 → then ≡ before → CountsOne {T = List ℕ} p q (Err f) → CausesFault {T = List ℕ} then now (Err f) → IsBrokenBy (ended_by found f) p q before now
broken_by found fault.Failed p q before then now ordered near same counts cause = (counts, subst (λ n. Rose n now) same cause)
broken_by found fault.Memory p q before then now ordered near same counts cause = (ordered, near, cause ∙ same)
broken_by found fault.Inconsistent p q before then now ordered near same counts cause = (counts, cause ∙ same)

-- the bytes of an object that a reply shows
abbrev body_of : Reply → List ℕ
body_of (answer.Object object) = object.body
body_of reply = []

-- an object was sent as its bytes came
is_paced : (connection t q : ℕ) (means : Meant) (found : Found) (head body bytes : List ℕ) (sent sent' : List Piece) → bytes ≡ head ++ body → SendsPieces connection t q head body sent sent'
    → ReadIsPaced connection t q means (found_reply found body) bytes sent sent'
is_paced connection t q means found head body bytes sent sent' whole sends body' asks (head', from, length, partial, shown, parts, has) =
    let same : body ≡ body' = ap body_of has in
    (head, whole ∙ ap (λ b. head ++ b) same, subst (λ b. SendsPieces connection t q head b sent sent') same sends)

module _ {settings : Settings} {op : Op} {label : Label} {found : Found} {old here : History} {was : Known} (all : Bool) (request : Request) (means : request.means ≡ meant.Op op)
    (reads : Reads settings op label found old here was [] 0) (met : Where all (Met (IsKnown was) old)) (line : LineModel) (observable : IsTrue line.observable) where
  begun : reads.middle.called ≤ here.called
  begun = reads.told.on.ordered

  abbrev head : List ℕ
  head = head_text found label request.method request.resource (is_some request.end)

  -- before the head
  at_once : RepliesRead (RepliesBy all settings here) (store_cursor old was) (store_cursor here known.Settled) here.called request label found [] (Some answer.Memory)
  at_once = read_replies request means reads (omega arith) here.called begun all (omega arith) met

  expected : RepliesExpected (RepliesBy all settings here) (store_cursor old was) (store_cursor here known.Settled) request label answer.Memory
  expected = record { span = at_once.span; due = answer.Memory; is_span = at_once.is_span; replies = at_once.failing answer.Memory refl; same = λ other. refl }

  unsent_responds : (handled : Handled) (line' : LineModel) → SendsReply answer.Memory label request.method request.resource request.end line.transcript here.called handled line'.transcript
      → Responds (RepliesBy all settings here) line.transcript.begun (store_cursor old was) (store_cursor here known.Settled) request label line.transcript.sent line'.transcript.sent handled
  unsent_responds handled line' sends = whole_responds (store_cursor old was) (store_cursor here known.Settled) line.transcript line'.transcript request label answer.Memory expected (λ asks. refl) handled sends

  head_responds : (line' : LineModel) → CutsHead line.transcript here.called head request.method line'.transcript
      → Responds (RepliesBy all settings here) line.transcript.begun (store_cursor old was) (store_cursor here known.Settled) request label line.transcript.sent line'.transcript.sent Broken
  head_responds line' (bytes, inr text, part) = unsent_responds Broken line' (bytes, inr text, part)
  head_responds line' (bytes, inl (other, text), part) =
      let near : at_once.span.committed ≤ here.called = at_once.soon in
      let body : List ℕ = [] ++ at_once.rest in
      let cut : SendsPart line.transcript.begun at_once.span.committed here.called head line.transcript.sent line'.transcript.sent =
      part_of at_once.span.committed here.called head line.transcript line'.transcript near (subst (λ b. SendsPrefix line.transcript here.called b line'.transcript) text part) in (
        at_once.span,
        record {
          reply = found_reply found body;
          end = request.end;
          bytes = print (found_reply found body) label request;
          is_span = at_once.is_span;
          replies = at_once.replies;
          due = printed (no_memory found body) refl refl;
          sends = subst (λ b. SendsPart line.transcript.begun at_once.span.committed here.called b line.transcript.sent line'.transcript.sent)
              (sym (head_and_body found label request.method request.resource (is_some request.end) other body)) (part_longer body cut);
        },
      )

  -- behind it
  module _ (other : is_head request.method ≡ false) (then line' : LineModel) (seen : IsTrue then.observable) (wrote : then.transcript ≡ with_piece line.transcript here.called head) where
    abbrev text : (body : List ℕ) → print (found_reply found body) label request ≡ head ++ body
    text body = head_and_body found label request.method request.resource (is_some request.end) other body

    all_responds : (new : History) → SentSoFar found then here line' new found.length
        → Responds (RepliesBy all settings new) line.transcript.begun (store_cursor old was) (store_cursor new known.Settled) request label line.transcript.sent line'.transcript.sent (Served request.end)
    unfolding reads_more
    all_responds new so_far =
        let got = so_far.got in
        let size = so_far.length_is in
        let replies = read_replies request means (reads_more reads got) (omega arith) here.called begun all (few_pieces so_far.count found.length got.needed) met in
        let none : replies.rest ≡ [] = nil_from_length replies.rest (let sized = replies.sized in omega (arith, size, sized, length-append so_far.done replies.rest)) in
        let whole : so_far.done ++ replies.rest ≡ so_far.done = ap (λ r. so_far.done ++ r) none ∙ append-nil so_far.done in
        let body = so_far.done ++ replies.rest in (
          replies.span,
          record {
            reply = found_reply found body;
            bytes = print (found_reply found body) label request;
            is_span = replies.is_span;
            replies = replies.replies;
            due = printed (no_memory found body) refl refl;
            sends = subst (λ b. Sends line.transcript.begun replies.span.committed new.called b line.transcript.sent line'.transcript.sent) (ap (λ b. head ++ b) (sym whole) ∙ sym (text body))
                (sent_behind head line.transcript then.transcript replies.soon wrote line'.transcript.sent (so_far.sent seen) got.counted);
            paced = λ sent. is_paced line.transcript.begun replies.span.committed new.called request.means found head body (print (found_reply found body) label request) line.transcript.sent line'.transcript.sent (text body)
                (subst (λ b. SendsPieces line.transcript.begun replies.span.committed new.called head b line.transcript.sent line'.transcript.sent) (sym whole)
                (pieces_behind head line.transcript then.transcript replies.soon wrote line'.transcript.sent (so_far.sent seen) (let counted = got.counted in omega arith)));
          },
        )

    cut_responds : (new : History) → SendsBody found then here (Some stop.Line) line' new
        → Responds (RepliesBy all settings new) line.transcript.begun (store_cursor old was) (store_cursor new known.Settled) request label line.transcript.sent line'.transcript.sent Broken
    unfolding reads_more
    cut_responds new (done, count, got, cut) =
        let sized = got.sized in
        let counted = got.counted in
        let replies = read_replies request means (reads_more reads got) (omega arith) here.called begun all (few_pieces count found.length got.needed) met in
        let body = done ++ replies.rest in (
          replies.span,
          record {
            reply = found_reply found body;
            end = request.end;
            bytes = print (found_reply found body) label request;
            is_span = replies.is_span;
            replies = replies.replies;
            due = printed (no_memory found body) refl refl;
            sends = subst (λ b. SendsPart line.transcript.begun replies.span.committed new.called b line.transcript.sent line'.transcript.sent) (append_assoc head done replies.rest ∙ sym (text body))
                (part_longer replies.rest (cut_behind head line.transcript then.transcript replies.soon wrote line'.transcript.sent (omega arith) (cut seen)));
          },
        )

    parted_responds : (new : History) (f : PlanFault) → SendsBody found then here (Some (stop.Fault f)) line' new
        → Responds (RepliesBy all settings new) line.transcript.begun (store_cursor old was) (store_cursor new known.Settled) request label line.transcript.sent line'.transcript.sent (Parted (ended_by found f))
    unfolding reads_more pieces_behind
    parted_responds new f (middle, at, size, left, so_far, counts, asks) =
        let got = so_far.got in
        let length_is = so_far.length_is in
        let counted = got.counted in
        let later = asks.grows.on.ordered in
        let sized = got.sized in
        let few = asks.grows.calls in
        let still : middle.faults ≡ old.faults = (reads_more reads got).told.faults ∙ reads.readied.still in
        let replies = failed_replies request means (reads_more reads got) (omega arith) here.called begun asks all (few_pieces (so_far.count + 1) found.length (omega arith)) met in
        let near : here.called + so_far.count ≤ new.called = omega arith in
        let last = counted_behind head line.transcript then.transcript replies.soon wrote line'.transcript.sent (so_far.sent seen) near in (
          replies.span,
          record {
            reply = found_reply found (so_far.done ++ replies.rest);
            fault = reply_of (Err f);
            breaks = breaks_off found f;
            is_span = replies.is_span;
            replies = replies.replies;
            fails = replies.failing (reply_of (Err f)) refl;
            head = head;
            part = so_far.done;
            unsent = replies.rest;
            read = (found.head, found.from, found.length, found.partial, found.shown, found.parts, refl);
            due = text (so_far.done ++ replies.rest);
            some_left = λ none. absurd (let whole = replies.sized in omega (arith, left, length_is, whole, length-append so_far.done replies.rest, ap length none));
            sends = pieces_behind head line.transcript then.transcript replies.soon wrote line'.transcript.sent (so_far.sent seen) near;
            cause = subst (λ p. IsBrokenBy (ended_by found f) p new.called old.faults new.faults) (counted ∙ sym last) (broken_by found f middle.called new.called old.faults middle.faults new.faults later few still counts asks.cause);
            of_read = subst (λ m. ReadsObject m (ended_by found f)) (sym means) (reads_object op found f reads.reads);
          },
        )

    behind_responds : (new : History) (handled : Handled) → SendsBehind found request.end then here handled line' new
        → Responds (RepliesBy all settings new) line.transcript.begun (store_cursor old was) (store_cursor new known.Settled) request label line.transcript.sent line'.transcript.sent handled
    behind_responds new (Served end) (is, body) =
        subst (λ e. Responds (RepliesBy all settings new) line.transcript.begun (store_cursor old was) (store_cursor new known.Settled) request label line.transcript.sent line'.transcript.sent (Served e)) (sym is) (all_responds new body)
    behind_responds new Broken body = cut_responds new body
    behind_responds new (Parted end) (f, is, body) =
        subst (λ e. Responds (RepliesBy all settings new) line.transcript.begun (store_cursor old was) (store_cursor new known.Settled) request label line.transcript.sent line'.transcript.sent (Parted e)) (sym is) (parted_responds new f body)

  pub object_responds : (line' : LineModel) (new : History) (handled : Handled) → SendsObject found label request.method request.resource request.end line here handled line' new
      → Responds (RepliesBy all settings new) line.transcript.begun (store_cursor old was) (store_cursor new known.Settled) request label line.transcript.sent line'.transcript.sent handled
  object_responds line' new handled (head_sent then other seen wrote behind) = behind_responds other then line' (seen observable) (wrote observable) new handled behind
  object_responds line' new handled (head_unsent same is wrote) =
      subst {A = History × Handled} (λ x. Responds (RepliesBy all settings x.0) line.transcript.begun (store_cursor old was) (store_cursor x.0 known.Settled) request label line.transcript.sent line'.transcript.sent x.1) (λ i. (sym same i, sym is i))
      (unsent_responds (Served (Some ended.Memory)) line' (inr (refl, wrote observable)))
  object_responds line' new handled (head_cut same is cuts) =
      subst {A = History × Handled} (λ x. Responds (RepliesBy all settings x.0) line.transcript.begun (store_cursor old was) (store_cursor x.0 known.Settled) request label line.transcript.sent line'.transcript.sent x.1) (λ i. (sym same i, sym is i))
      (head_responds line' (cuts observable))

-- ---- what became of the account

-- the span of a read that was answered as far as that
replies_stand : {settings : Settings} {op : Op} {label : Label} {found : Found} {old new : History} {was : Known} {done : List ℕ} {early : ℕ} {fails : Option Reply} (request : Request) → request.means ≡ meant.Op op
    → RepliesRead (Replies settings new) (store_cursor old was) (store_cursor new known.Settled) early request label found done fails → IsKnown known.Settled (present new) → Stood settings was known.Settled old new
replies_stand {settings = settings} {label = label} {found = found} {old = old} {new = new} {was = was} {done = done} request means read settled = by read.replies
  where
    by : Replies settings new (store_cursor old was) read.span (store_cursor new known.Settled) request label (found_reply found (done ++ read.rest)) → Stood settings was known.Settled old new
    by (refused code says is proper sound same takes) = absurd (let no : meant.Op _ ≡ meant.Refused code = sym means ∙ says in cc)
    by (performed op' says performs caused is_known) =
        let is_span : IsSpan (store_cursor old was) read.span (store_cursor new known.Settled) (Some (record { op = op'; label = label })) = subst (IsSpan (store_cursor old was) read.span (store_cursor new known.Settled)) (ap (λ m. asked_by m label) says) read.is_span in
        record {
          spans = read.span ∷ [];
          follows = is_span_follows is_span;
          passes = all_pass_one settings new read.span (subst (SpanPasses settings new read.span) (sym is_span.asked) (performs_pass is_span performs));
          known = settled;
        }

-- the store went on, and stands as the read leaves it
pub record Stayed (settings : Settings) (was : Known) (old new : History) : Type 0 where
  pub on : GoesOn old new
  pub settled : IsTrue old.observable → IsKnown was (present old) → IsSettled (present new)
  pub stands : Stands settings was known.Settled old new

module _ {settings : Settings} {op : Op} {label : Label} {found : Found} {old here : History} {was : Known} (reads : Reads settings op label found old here was [] 0) where
  asking : Request
  asking = record { caller = label.caller; method = []; resource = []; means = meant.Op op; end = None }

  stayed_got : {new : History} {done : List ℕ} {count : ℕ} → Got found here new done count → Stayed settings was old new
  unfolding asking reads_more
  stayed_got {new = new} {done = done} {count = count} got =
      let now = reads_more reads got in
      let sized = got.sized in
      let settled : IsTrue old.observable → IsKnown was (present old) → IsSettled (present new) = λ observable is. now.told.settled (now.readied.on.observable observable) (now.readied.settled observable is) in
      record {
        on = goes_trans now.readied.on now.told.on;
        settled = settled;
        stands = λ met.
            replies_stand asking refl (read_replies asking refl now (omega arith) here.called reads.told.on.ordered true (few_pieces count found.length got.needed) met) (λ is. settled met.observable met.has);
      }

  stayed_failed : {middle new : History} {done : List ℕ} {count at : ℕ} (size : ℕ) {f : PlanFault} → length done ≡ at → at < found.length → Got found here middle done count
      → Asks (always 1) middle new (Given (HasFound found)) (Tells (TellsPiece found at size)) (Err f) → Stayed settings was old new
  unfolding asking reads_more
  stayed_failed {new = new} {count = count} size length_is left got asks =
      let now = reads_more reads got in
      let sized = got.sized in
      let settled : IsTrue old.observable → IsKnown was (present old) → IsSettled (present new) = λ observable is.
      asks.settled (now.told.on.observable (now.readied.on.observable observable)) (now.told.settled (now.readied.on.observable observable) (now.readied.settled observable is)) in
      record {
        on = goes_trans now.readied.on (goes_trans now.told.on asks.grows.on);
        settled = settled;
        stands = λ met.
            replies_stand asking refl (failed_replies asking refl now (omega arith) here.called reads.told.on.ordered asks true (few_pieces (count + 1) found.length (omega arith)) met) (λ is. settled met.observable met.has);
      }

  stayed_behind : (end : Option Ended) (line line' : LineModel) (new : History) (handled : Handled) → SendsBehind found end line here handled line' new → Stayed settings was old new
  stayed_behind due line line' new (Served end) (is, body) = stayed_got body.got
  stayed_behind due line line' new Broken (done, count, got, cut) = stayed_got got
  stayed_behind due line line' new (Parted end) (f, is, (middle, at, size, left, so_far, counts, asks)) = stayed_failed size so_far.length_is left so_far.got asks

  pub object_stays : {method resource : List ℕ} {end : Option Ended} {line line' : LineModel} {new : History} {handled : Handled} {sent : Label} → SendsObject found sent method resource end line here handled line' new → Stayed settings was old new
  object_stays {end = end} {line' = line'} {new = new} {handled = handled} (head_sent then other seen wrote behind) = stayed_behind end then line' new handled behind
  object_stays (head_unsent same is wrote) = subst (Stayed settings was old) (sym same) (stayed_got (got_none found here))
  object_stays (head_cut same is cuts) = subst (Stayed settings was old) (sym same) (stayed_got (got_none found here))
