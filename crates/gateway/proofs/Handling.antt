-- One request answered: what was sent for it, and the exchange that it is.
use Rattle.std.proofs.Common.{◌≡◌, ◌≢◌, ◌⊎◌, ℕ, List, [], Bool, false, Option, IsTrue, refl, sym, ap, subst, ◌∙◌, inl, inr, is_some}
use Rattle.gate_base.specs.declared.caller.Caller.{Caller}
use Rattle.gate_base.specs.declared.outside.Piece.{Piece}
use Rattle.gate_base.specs.Line.{LineModel}
use Rattle.gate_base.specs.Transcript.{Transcript, with_piece}
use Rattle.s3_machine.specs.declared.operation.Label.{Label}
use Rattle.s3_machine.specs.declared.operation.Reply.{Reply}
use Rattle.s3_machine.specs.declared.operation.Reply.TheVariants as answer
use Rattle.s3_machine.specs.declared.operation.Settings.{Settings}
use Rattle.swift_calls.specs.History.{History}
use Rattle.account_calls.specs.declared.state.Known.{Known}
use Rattle.account_calls.specs.Calls.{GoesOn, Met}
use Rattle.account_calls.specs.Known.{IsKnown, Knows}
use Rattle.planner.specs.declared.reading.Reading.{Reading}
use Rattle.planner.specs.declared.reading.Reading.TheVariants.{Whole, Pieces}
use Rattle.planner.specs.Reading.{LeavesBytes, gives_bytes}
use Rattle.s3_requests.specs.declared.meant.Meant.{Meant}
use Rattle.s3_requests.specs.declared.meant.Meant.TheVariants as meant
use Rattle.gateway.specs.declared.ended.Ended.{Ended}
use Rattle.gateway.specs.declared.handle.Handled.{Handled}
use Rattle.gateway.specs.declared.handle.Handled.TheVariants.{Served, Broken, Parted}
use Rattle.gateway.specs.declared.resolved.ResolvedRequest.{ResolvedRequest}
use Rattle.gateway.specs.ResolvedRequest.{Is}
use Rattle.gateway.specs.Connection.{LabelGiven, sent_by, progress}
use Rattle.gateway.specs.Exchange.{ReplyRelation, StoreCursor, store_cursor, AsksBytes, RepliesBy, Where}
use Rattle.gateway.specs.Handled.{HandledOnce}
use Rattle.gateway.specs.Reading.{Reads, RepliedOrReads, SendsObject, SendsReading, SendsReply}
use Rattle.gateway.specs.Request.{Request, reply_text}
use Rattle.gateway.specs.Stands.{Stands}
use Rattle.gateway.proofs.Sending.{Responds, object_stays, object_responds, whole_responds}

handled_of : (R : ReplyRelation) (connection : ℕ) (old new : StoreCursor) (moments draws moments' draws' : List ℕ) (asks : ℕ → Request) (label : Label) (sent sent' : List Piece) → LabelGiven moments draws moments' draws' (asks label.moment).caller label
    → (handled : Handled) → Responds R connection old new (asks label.moment) label sent sent' handled → HandledOnce R connection (progress old moments draws sent) (progress new moments' draws' sent') asks handled
handled_of R connection old new moments draws moments' draws' asks label sent sent' labels (Served end) (span, exchange) = record { span = span; label = label; labels = labels; exchange = exchange }
handled_of R connection old new moments draws moments' draws' asks label sent sent' labels Broken (span, exchange) = record { span = span; label = label; labels = labels; exchange = exchange }
handled_of R connection old new moments draws moments' draws' asks label sent sent' labels (Parted end) (span, exchange) = record { span = span; label = label; labels = labels; exchange = exchange }

-- the same is sent under another label, where that prints the reply
sends_under : (given : Reply) (label label' : Label) (method resource : List ℕ) (end : Option Ended) (transcript transcript' : Transcript) (at : ℕ) → (given ≢ answer.Memory → label ≡ label') → (handled : Handled)
    → SendsReply given label method resource end transcript at handled transcript' → SendsReply given label' method resource end transcript at handled transcript'
sends_under given label label' method resource end transcript transcript' at same (Served end') (inl (known, is, wrote)) =
    inl (known, is, wrote ∙ ap (λ l. with_piece transcript at (reply_text given l method resource (is_some end))) (same known))
sends_under given label label' method resource end transcript transcript' at same (Served end') (inr sends) = inr sends
sends_under given label label' method resource end transcript transcript' at same Broken (bytes, inl (known, text), part) = (bytes, inl (known, text ∙ ap (λ l. reply_text given l method resource (is_some end)) (same known)), part)
sends_under given label label' method resource end transcript transcript' at same Broken (bytes, inr text, part) = (bytes, inr text, part)
sends_under given label label' method resource end transcript transcript' at same (Parted end') never = never

is_out_of_memory : (means : Meant) → (means ≡ meant.Memory) ⊎ (means ≢ meant.Memory)
is_out_of_memory (meant.Op op) = inr (λ e. cc)
is_out_of_memory (meant.Refused code) = inr (λ e. cc)
is_out_of_memory meant.Memory = inl refl

module _ (settings : Settings) (old here new : History) (was now : Known) (next label : Label) (resolved : ResolvedRequest) (line line' : LineModel) (handled : Handled) where
  pub handled_on : (reading : Reading) → RepliedOrReads settings resolved.means label old here was now reading → SendsReading reading label resolved.method.now resolved.resource.now resolved.end line here handled line' new → GoesOn old new
  handled_on (Whole reply) replied (same, sends) = subst (GoesOn old) (sym same) replied.on
  handled_on (Pieces found) (op, means, is, reads) sends = (object_stays reads sends).on

  pub handled_knows : (reading : Reading) → RepliedOrReads settings resolved.means label old here was now reading → SendsReading reading label resolved.method.now resolved.resource.now resolved.end line here handled line' new → Knows was old → Knows now new
  handled_knows (Whole reply) replied (same, sends) known = subst (Knows now) (sym same) (replied.knows known)
  handled_knows (Pieces found) (op, means, is, reads) sends known =
      let stayed = object_stays reads sends in
      λ observable settled. let before = stayed.on.told observable in stayed.settled before (known before)

  pub handled_stands : (reading : Reading) → RepliedOrReads settings resolved.means label old here was now reading → SendsReading reading label resolved.method.now resolved.resource.now resolved.end line here handled line' new → Stands settings was now old new
  handled_stands (Whole reply) replied (same, sends) = subst (Stands settings was now old) (sym same) replied.stands
  handled_stands (Pieces found) (op, means, is, reads) sends = subst (λ k. Stands settings was k old new) (sym is) (object_stays reads sends).stands

  module _ (moments draws moments' draws' : List ℕ) (asks : ℕ → Request) (is : Is resolved (asks next.moment)) (own : label ≡ sent_by resolved.caller next) (labels : (from : Caller) → LabelGiven moments draws moments' draws' from (sent_by from next))
      (all : Bool) (met : Where all (Met (IsKnown was) old)) (observable : IsTrue line.observable) where
    abbrev due_label : Label
    due_label = sent_by (asks next.moment).caller next

    same_label : resolved.means ≢ meant.Memory → label ≡ due_label
    same_label some = own ∙ (λ i. sent_by (is.caller some i) next)

    -- the request asks for what was understood of it, or memory ran out
    gives_none : (reply : Reply) → (resolved.means ≡ meant.Memory → reply ≡ answer.Memory) → (AsksBytes resolved.means → LeavesBytes (Whole reply)) → AsksBytes (asks next.moment).means → gives_bytes reply ≡ false
    gives_none reply out leaves reads = elim (is_out_of_memory resolved.means) [
      | inl none ↦ ap gives_bytes (out none)
      | inr some ↦ leaves (subst AsksBytes (sym (is.understands.same some)) reads)
    ]

    expects : (reading : Reading) → (AsksBytes resolved.means → LeavesBytes reading) → RepliedOrReads settings resolved.means label old here was now reading → SendsReading reading label resolved.method.now resolved.resource.now resolved.end line here handled line' new
        → Responds (RepliesBy all settings new) line.transcript.begun (store_cursor old was) (store_cursor new now) (asks next.moment) due_label line.transcript.sent line'.transcript.sent handled
    expects (Whole reply) leaves replied (same, sends) =
        let request = asks next.moment in
        let due : Label = sent_by request.caller label in
        let is_due : due ≡ due_label = ap (sent_by request.caller) own in
        let expected = replied.effect all met request is.understands (λ some. ap (λ l. l.caller) own ∙ is.caller some) in
        let other : reply ≢ answer.Memory → label ≡ due = λ some. same_label (λ e. some (replied.out_of_memory e)) ∙ sym is_due in
        let sent = sends_under reply label due request.method request.resource request.end line.transcript line'.transcript here.called other handled
        (subst {A = List ℕ × List ℕ × Option Ended} (λ x. SendsReply reply label x.0 x.1 x.2 line.transcript here.called handled line'.transcript) (λ i. (is.method i, is.resource i, is.end i)) (sends observable)) in
        subst {A = History × Label} (λ x. Responds (RepliesBy all settings x.0) line.transcript.begun (store_cursor old was) (store_cursor x.0 now) request x.1 line.transcript.sent line'.transcript.sent handled) (λ i. (sym same i, is_due i))
        (whole_responds (store_cursor old was) (store_cursor here now) line.transcript line'.transcript request due reply expected (gives_none reply replied.out_of_memory leaves) handled sent)
    expects (Pieces found) leaves (op, means, settled, reads) sends =
        let request = asks next.moment in
        let some : resolved.means ≢ meant.Memory = λ e. (let no : meant.Op op ≡ meant.Memory = sym means ∙ e in cc) in
        let to_due = same_label some in
        let asked : request.means ≡ meant.Op op = sym (is.understands.same some) ∙ means in
        subst (λ k. Responds (RepliesBy all settings new) line.transcript.begun (store_cursor old was) (store_cursor new k) request due_label line.transcript.sent line'.transcript.sent handled) (sym settled)
        (object_responds all request asked (subst (λ l. Reads settings op l found old here was [] 0) to_due reads) met line observable line' new handled
        (subst {A = Label × List ℕ × List ℕ × Option Ended} (λ x. SendsObject found x.0 x.1 x.2 x.3 line here handled line' new) (λ i. (to_due i, is.method i, is.resource i, is.end i)) sends))

    pub handled_effect : (reading : Reading) → (AsksBytes resolved.means → LeavesBytes reading) → RepliedOrReads settings resolved.means label old here was now reading → SendsReading reading label resolved.method.now resolved.resource.now resolved.end line here handled line' new
        → HandledOnce (RepliesBy all settings new) line.transcript.begun (progress (store_cursor old was) moments draws line.transcript.sent) (progress (store_cursor new now) moments' draws' line'.transcript.sent) asks handled
    handled_effect reading leaves replied sends =
        handled_of (RepliesBy all settings new) line.transcript.begun (store_cursor old was) (store_cursor new now) moments draws moments' draws' asks due_label line.transcript.sent line'.transcript.sent (labels (asks next.moment).caller) handled (expects reading leaves replied sends)
