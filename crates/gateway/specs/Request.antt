-- A request as it is answered, whether it was read as a message or refused before. Source: this profile.
use Rattle.std.specs.Prelude.{◌≡◌, ◌≢◌, ℕ, Bool, not, ◌&&◌, cond, if◌then◌else◌, is_some, ◌==◌, List, [], Option, None, Some, Result, Ok, Err, codes}
use Rattle.std.specs.List.{before_first}
use Rattle.gate_base.specs.declared.caller.Caller.{Caller}
use Rattle.gate_base.specs.declared.caller.Caller.TheVariants.{Anonymous}
use Rattle.s3_machine.specs.declared.code.Code.{Code}
use Rattle.s3_machine.specs.declared.code.Code.TheVariants.{AccessDenied, AuthorizationQueryParametersError}
use Rattle.s3_machine.specs.declared.code.Code.TheVariants.{EntityTooLarge, IncompleteBody}
use Rattle.s3_machine.specs.declared.code.Code.TheVariants.{InvalidAccessKeyId, InvalidRequest, InvalidURI, MissingContentLength, NotImplemented}
use Rattle.s3_machine.specs.declared.code.Code.TheVariants.{SignatureDoesNotMatch}
use Rattle.s3_machine.specs.declared.operation.Label.{Label}
use Rattle.s3_machine.specs.declared.operation.Reply.{Reply}
use Rattle.s3_machine.specs.declared.operation.Settings.{Settings}
use Rattle.s3_machine.specs.Limits.{body_limit}
use Rattle.s3_names.specs.declared.fault.NameFault.{NameFault}
use Rattle.s3_names.specs.declared.target.Target.{Target}
use Rattle.s3_names.specs.Target.{target_of}
use Rattle.http_wire.specs.declared.message.Message.{Message}
use Rattle.http_wire.specs.declared.message.Kind.{Kind}
use Rattle.http_wire.specs.declared.message.Kind.TheVariants.{BadHead, LongHead, ManyHeaders, NoLength, BadLength, LongBody, Transfer, ShortBody}
use Rattle.http_wire.specs.Closing.{is_closing}
use Rattle.http_wire.specs.Print.{page_text}
use Rattle.s3_pages.specs.Pages.{page_of, strict_context}
use Rattle.sigv4.specs.declared.refusal.Refusal.{Refusal}
use Rattle.sigv4.specs.Verdict.{caller_or_refusal}
use Rattle.presign.specs.Parameters.{is_presigned, without_signature}
use Rattle.presign.specs.Verdict.{owner_or_refusal}
use Rattle.presign.specs.declared.refusal.QueryRefusal.{QueryRefusal}
use Rattle.presign.specs.declared.refusal.QueryRefusal.TheVariants as url
use Rattle.chunked.specs.declared.form.ChunkedForm.{ChunkedForm}
use Rattle.extended.specs.declared.sender.Sender.{Sender}
use Rattle.extended.specs.Chunks.{chunked_form}
use Rattle.extended.specs.Opened.{Opened, opened}
use Rattle.extended.specs.Checked.{unchunked_sender, extended_meaning}
use Rattle.extended.specs.Refused.{refused_by}
use Rattle.gateway.specs.declared.ended.Ended.{Ended}
use Rattle.gateway.specs.declared.ended.Ended.TheVariants.{Closed, Refused}
use Rattle.s3_requests.specs.declared.meant.Meant.{Meant}
use Rattle.s3_requests.specs.declared.meant.Meant.TheVariants as meant
use Rattle.http_service.specs.declared.received.Received.{Received}
use Rattle.http_service.specs.declared.received.Received.TheVariants as received
use Rattle.gateway.specs.declared.service.Service.{Service}
use Rattle.s3_requests.specs.Meaning.{meaning_of}

-- a request as it is answered: who sent it, its method, the resource that a page names, what it means, and how the connection ends after it
pub record Request : Type 0 where
  pub caller : Caller
  pub method : List ℕ
  -- what an error names: the path of the target as it was sent
  pub resource : List ℕ
  pub means : Meant
  -- how the connection ends after the reply, if it does
  pub end : Option Ended

abbrev pub is_question_mark : ℕ → Bool
is_question_mark byte = byte == 63

-- the text before a `?`
abbrev pub raw_path : List ℕ → List ℕ
raw_path target = before_first is_question_mark target

-- what a presigned request is answered whose signature is refused
abbrev pub refused_by_query : QueryRefusal → Meant
refused_by_query url.QueryMalformed = meant.Refused AuthorizationQueryParametersError
refused_by_query url.UnknownKey = meant.Refused InvalidAccessKeyId
refused_by_query url.WrongScope = meant.Refused AuthorizationQueryParametersError
refused_by_query url.UnsignedHeader = meant.Refused AccessDenied
refused_by_query url.Streaming = meant.Refused NotImplemented
refused_by_query url.OutOfTime = meant.Refused AccessDenied
refused_by_query (url.SignatureDiffers hash) = meant.Refused SignatureDoesNotMatch
refused_by_query url.Memory = meant.Memory

-- what the verification of a request comes to: who sent it, or what it is answered
abbrev pub Verdict : Type 0
Verdict = Result Caller Meant

-- with the message as its meaning is found
abbrev pub Opening : Type 0
Opening = Result Opened Meant

abbrev pub by_header : Result Caller Refusal → Verdict
by_header (Ok caller) = Ok caller
by_header (Err refusal) = Err (refused_by refusal)

abbrev pub by_query : Result Caller QueryRefusal → Verdict
by_query (Ok caller) = Ok caller
by_query (Err refusal) = Err (refused_by_query refusal)

-- who sent a request at a moment, by the signature in its query where it is presigned, and else by the one in its header: the
-- owner, who signed it by one of the keys, an anonymous caller, or what it is answered where its signature is refused
abbrev pub verdict_at : Service → ℕ → Message → Target → Verdict
verdict_at service moment message target =
    if is_presigned target.query then by_query (owner_or_refusal service.keys service.settings.region message target moment)
    else by_header (caller_or_refusal service.keys service.settings.region message target moment)

-- the target as it asks for an operation: the names of a signature in the query don't count
abbrev pub asked_target : Target → Target
asked_target target = if is_presigned target.query then record target { query = without_signature target.query } else target

-- what verifying gave is what it comes to; where memory ran out it may say nothing
abbrev pub Verifies : Verdict → Verdict → Type 0
Verifies due (Ok caller) = due ≡ Ok caller
Verifies due (Err means) = means ≢ meant.Memory → due ≡ Err means

-- the form in which the body of a request comes in chunks, where the settings are extended and it isn't presigned
abbrev pub taken_form : Settings → Message → Target → Option ChunkedForm
taken_form settings message target =
    if settings.extended && not (is_presigned target.query) then chunked_form message.headers else None

-- a message as it was sent, and who sent it
abbrev pub as_sent : Message → Verdict → Opening
as_sent message (Ok caller) = Ok (record { sender = unchunked_sender caller; message = message })
as_sent message (Err means) = Err means

-- by the form of its body: as it was sent, or opened
abbrev pub opening_by : Option ChunkedForm → Service → ℕ → Message → Target → Opening
opening_by None service moment message target = as_sent message (verdict_at service moment message target)
opening_by (Some form) service moment message target =
    opened service.keys service.settings.region (body_limit service.settings) form message target moment

-- who sent a request, and the message as its meaning is found, or what it is answered
abbrev pub opening_at : Service → ℕ → Message → Target → Opening
opening_at service moment message target = opening_by (taken_form service.settings message target) service moment message target

-- what a message means that this sender sent: where the settings are extended, by its checksums too
abbrev pub sent_meaning : Settings → Message → Target → Sender → Meant
sent_meaning settings message target sender =
    if settings.extended then extended_meaning settings message target sender else meaning_of settings message target sender.caller

-- what a request means by who sent it
abbrev pub admitted : Settings → Target → Opening → Meant
admitted settings target (Ok opened) = sent_meaning settings opened.message (asked_target target) opened.sender
admitted settings target (Err means) = means

-- who sent a request, an anonymous caller where it is refused for its signature or its body
abbrev pub caller_or_anonymous : Opening → Caller
caller_or_anonymous (Ok opened) = opened.sender.caller
caller_or_anonymous (Err means) = Anonymous

-- what a request means by how its target is read: one that can't be read is no URI of this service
abbrev pub resolve_target : Service → ℕ → Message → Result Target NameFault → Meant
resolve_target service moment message (Ok target) = admitted service.settings target (opening_at service moment message target)
resolve_target service moment message (Err fault) = meant.Refused InvalidURI

-- who sent it, likewise
abbrev pub caller_of : Service → ℕ → Message → Result Target NameFault → Caller
caller_of service moment message (Ok target) = caller_or_anonymous (opening_at service moment message target)
caller_of service moment message (Err fault) = Anonymous

-- how the connection ends after the reply to a message, if it does
abbrev pub end_after : Message → Option Ended
end_after message = cond (is_closing message) (Some Closed) None

-- a request that was read, at its moment: first its target is, then its signature is verified, then its body is opened where it
-- comes in chunks and the settings are extended, and then its meaning is found
abbrev pub request_of : Service → ℕ → Message → Request
request_of service moment message = record {
  caller = caller_of service moment message (target_of message.target);
  method = message.method;
  resource = raw_path message.target;
  means = resolve_target service moment message (target_of message.target);
  end = end_after message;
}

-- the code of a request that was refused before it was understood
abbrev pub code_of : Kind → Code
code_of BadHead = InvalidRequest
code_of LongHead = InvalidRequest
code_of ManyHeaders = InvalidRequest
code_of NoLength = MissingContentLength
code_of BadLength = InvalidRequest
code_of LongBody = EntityTooLarge
code_of Transfer = NotImplemented
code_of ShortBody = IncompleteBody

-- such a request, at its place in the connection, which ends after the reply
abbrev pub refused_request : Kind → ℕ → Bool → Request
refused_request kind place head =
    record {
      caller = Anonymous;
      method = cond head (codes "HEAD") [];
      resource = codes "/";
      means = meant.Refused (code_of kind);
      end = Some (Refused kind place);
    }

-- what was received, as a request at a moment
abbrev pub asks_of : Service → Received → ℕ → Request
asks_of service (received.Message message) = λ moment. request_of service moment message
asks_of service (received.Refused kind place head) = λ moment. refused_request kind place head

-- how the connection ends after the reply to it, if it does
abbrev pub end_of : Received → Option Ended
end_of (received.Message message) = end_after message
end_of (received.Refused kind place head) = Some (Refused kind place)

-- the bytes of a reply
unfoldable pub reply_text : Reply → Label → List ℕ → List ℕ → Bool → List ℕ
reply_text reply label method resource closing = page_text (page_of reply label (strict_context resource)) method closing

-- those that answer a request
abbrev pub print : Reply → Label → Request → List ℕ
print reply label request = reply_text reply label request.method request.resource (is_some request.end)
