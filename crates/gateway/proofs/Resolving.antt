-- A message as it is resolved.
use Rattle.std.proofs.Common.{◌≡◌, ◌≢◌, ℕ, Bool, true, false, cond, List, [], Option, None, Some, Result, Ok, Err, IfErr, codes, refl, sym, ap, ◌∙◌, subst}
use Rattle.gate_base.specs.declared.caller.Caller.{Caller}
use Rattle.gate_base.specs.declared.caller.Caller.TheVariants.{Owner, Anonymous}
use Rattle.s3_machine.specs.declared.code.Code.TheVariants.{AccessDenied, AuthorizationHeaderMalformed, AuthorizationQueryParametersError, InvalidAccessKeyId, InvalidRequest, InvalidURI, NotImplemented, RequestTimeTooSkewed, SignatureDoesNotMatch, XAmzContentSHA256Mismatch}
use Rattle.s3_machine.specs.declared.operation.Settings.{Settings}
use Rattle.s3_names.specs.declared.fault.NameFault.{NameFault}
use Rattle.s3_names.specs.declared.target.Target.{Target}
use Rattle.s3_names.specs.Target.{target_of}
use Rattle.http_wire.specs.declared.message.Message.{Message}
use Rattle.http_wire.specs.declared.message.Kind.{Kind}
use Rattle.http_wire.specs.declared.message.Kind.TheVariants.{BadHead, LongHead, ManyHeaders, NoLength, BadLength, LongBody, Transfer, ShortBody}
use Rattle.sigv4.specs.declared.authorization.Authorization.{Authorization}
use Rattle.sigv4.specs.declared.keys.AccessKey.{AccessKey}
use Rattle.sigv4.specs.declared.refusal.Refusal.{Refusal}
use Rattle.sigv4.specs.declared.refusal.Refusal.TheVariants as signature
use Rattle.sigv4.specs.Verdict.{has_wrong_scope, leaves_unsigned, lacks_date, time_of, has_signed_pieces, lacks_payload_hash, signature_differs, expected, payload_differs, claim_of, judged_with, judged, caller_or_refusal, Gives}
use Rattle.presign.specs.declared.claim.Claim.{Claim}
use Rattle.presign.specs.declared.refusal.QueryRefusal.{QueryRefusal}
use Rattle.presign.specs.declared.refusal.QueryRefusal.TheVariants as url
use Rattle.presign.specs.Claim.{claim_of as query_claim_of}
use Rattle.presign.specs.Parameters.{is_presigned}
use Rattle.presign.specs.Verdict as presigned
use Rattle.sigv4.specs.Keys.{secret_of}
use Rattle.sigv4.specs.Moment.{is_skewed}
use Rattle.gateway.specs.declared.ended.Ended.TheVariants as ended
use Rattle.gateway.specs.declared.resolved.ResolvedRequest.{ResolvedRequest}
use Rattle.s3_requests.specs.declared.meant.Meant.{Meant}
use Rattle.s3_requests.specs.declared.meant.Meant.TheVariants.{Refused, Memory}
use Rattle.gateway.specs.declared.service.Service.{Service}
use Rattle.s3_machine.specs.Limits.{body_limit}
use Rattle.s3_requests.specs.Meaning.{meaning_of}
use Rattle.chunked.specs.declared.form.ChunkedForm.{ChunkedForm}
use Rattle.extended.specs.declared.sender.Sender.{Sender}
use Rattle.extended.specs.Checked.{unchunked_sender, extended_meaning}
use Rattle.extended.specs.Opened.{Opens}
use Rattle.extended.specs.Refused.{refused_by}
use Rattle.extended.proofs.lemmas.Checked.{extended_known, extended_proper}
use Rattle.extended.proofs.lemmas.Opened.{opened_known, opened_proper}
use Rattle.extended.proofs.lemmas.Refused.{known_if, refusal_known, gives_refusal, refused_proper}
use Rattle.gateway.specs.Request.{raw_path, end_after, refused_by_query, admitted, asked_target, as_sent, caller_or_anonymous, caller_of, Verdict, Opening, by_header, by_query, opening_at, opening_by, sent_meaning, taken_form, verdict_at, Verifies, resolve_target, request_of, refused_request, code_of}
use Rattle.gateway.specs.ResolvedRequest.{Is}
use Rattle.s3_machine.specs.Proper.{IsProperCode, is_store_fault}
use Rattle.s3_requests.specs.Proper.{IsProperMeant}
use Rattle.s3_requests.proofs.lemmas.Proper.{meaning_known, meaning_proper}

-- ---- signatures

-- no reason to refuse a signature is a lack of memory
secret_known : (secret : Option (List ℕ)) (region : List ℕ) (message : Message) (target : Target) (moment : ℕ) (claim : Authorization)
    → judged_with secret region message target moment claim ≢ Err signature.Memory
secret_known None region message target moment claim = λ e. cc
secret_known (Some secret) region message target moment claim =
    known_if (has_wrong_scope region claim) signature.WrongScope _ (λ e. cc)
    (known_if (leaves_unsigned claim message.headers) signature.UnsignedHeader _ (λ e. cc)
    (known_if (lacks_date claim message.headers) signature.NoDate _ (λ e. cc)
    (known_if (is_skewed (time_of message.headers) moment) signature.Skewed _ (λ e. cc)
    (known_if (has_signed_pieces message.headers) signature.Streaming _ (λ e. cc)
    (known_if (lacks_payload_hash message.headers) signature.NoPayloadHash _ (λ e. cc)
    (known_if (signature_differs claim (expected secret region message target claim)) (signature.SignatureDiffers (expected secret region message target claim).canonical_hash) _ (λ e. cc)
    (known_if (payload_differs message) signature.PayloadDiffers (Ok Owner) (λ e. cc) (λ e. cc))))))))

judged_known : (keys : List AccessKey) (region : List ℕ) (message : Message) (target : Target) (moment : ℕ) (claim : Option Authorization)
    → judged keys region message target moment claim ≢ Err signature.Memory
judged_known keys region message target moment None = λ e. cc
judged_known keys region message target moment (Some claim) = secret_known (secret_of claim.id keys) region message target moment claim

claimed_known : (b : Bool) (judgement : Result Caller Refusal) → judgement ≢ Err signature.Memory → cond b judgement (Ok Anonymous) ≢ Err signature.Memory
claimed_known true judgement known = known
claimed_known false judgement known = λ e. cc

caller_or_refusal_known : (keys : List AccessKey) (region : List ℕ) (message : Message) (target : Target) (moment : ℕ) → caller_or_refusal keys region message target moment ≢ Err signature.Memory
unfolding caller_or_refusal
caller_or_refusal_known keys region message target moment =
    claimed_known _ (judged keys region message target moment (claim_of message.headers)) (judged_known keys region message target moment (claim_of message.headers))

pub refused_means : (settings : Settings) (target : Target) (means : Meant) (due : Opening) (left : Message) → Opens due (Err means) left → means ≢ Memory → means ≡ admitted settings target due
refused_means settings target means due left opens known = sym (ap (admitted settings target) (opens known))

pub refused_caller : (means : Meant) (due : Opening) (left : Message) → Opens due (Err means) left → means ≢ Memory → Anonymous ≡ caller_or_anonymous due
refused_caller means due left opens known = sym (ap caller_or_anonymous (opens known))

-- a message that is left as it was sent
pub sent_unchunked : (message : Message) (due : Verdict) (caller : Caller) (sender : Sender) → Verifies due (Ok caller) → sender ≡ unchunked_sender caller → Opens (as_sent message due) (Ok sender) message
sent_unchunked message due caller sender verifies is = ap (as_sent message) verifies ∙ ap (λ s. Ok (record { sender = s; message = message })) (sym is)

pub sent_refused : (message : Message) (due : Verdict) (means : Meant) → Verifies due (Err means) → Opens (as_sent message due) (Err means) message
sent_refused message due means verifies = λ known. ap (as_sent message) (verifies known)

pub refused_verifies : (refusal : Refusal) (due : Result Caller Refusal) → Gives (Err refusal) due → Verifies (by_header due) (Err (refused_by refusal))
refused_verifies refusal due gives = λ known. ap by_header (gives_refusal refusal due gives known)

-- what verifying one way gives, where that is the way
pub verified_first : (p : Bool) (first second given : Verdict) → p ≡ true → Verifies first given → Verifies (cond p first second) given
verified_first p first second given e verifies = subst (λ q. Verifies (cond q first second) given) (sym e) verifies

pub verified_second : (p : Bool) (first second given : Verdict) → p ≡ false → Verifies second given → Verifies (cond p first second) given
verified_second p first second given e verifies = subst (λ q. Verifies (cond q first second) given) (sym e) verifies

-- ---- signatures in the query

query_known_if : (b : Bool) (refusal : QueryRefusal) (rest : Result Caller QueryRefusal) → refusal ≢ url.Memory → rest ≢ Err url.Memory → cond b (Err refusal) rest ≢ Err url.Memory
query_known_if true refusal rest one others = λ e. one (let same : refusal ≡ url.Memory = cc in same)
query_known_if false refusal rest one others = others

query_secret_known : (secret : Option (List ℕ)) (region : List ℕ) (message : Message) (target : Target) (moment : ℕ) (claim : Claim)
    → presigned.judged_with secret region message target moment claim ≢ Err url.Memory
query_secret_known None region message target moment claim = λ e. cc
query_secret_known (Some secret) region message target moment claim =
    query_known_if (has_wrong_scope region claim.by) url.WrongScope _ (λ e. cc)
    (query_known_if (presigned.leaves_unsigned claim.by.names message.headers) url.UnsignedHeader _ (λ e. cc)
    (query_known_if (has_signed_pieces message.headers) url.Streaming _ (λ e. cc)
    (query_known_if (presigned.is_out_of_time claim moment) url.OutOfTime _ (λ e. cc)
    (query_known_if (signature_differs claim.by (presigned.expected secret region message target claim)) (url.SignatureDiffers (presigned.expected secret region message target claim).canonical_hash) (Ok Owner) (λ e. cc) (λ e. cc)))))

query_judged_known : (keys : List AccessKey) (region : List ℕ) (message : Message) (target : Target) (moment : ℕ) (claim : Option Claim)
    → presigned.judged keys region message target moment claim ≢ Err url.Memory
query_judged_known keys region message target moment None = λ e. cc
query_judged_known keys region message target moment (Some claim) = query_secret_known (secret_of claim.by.id keys) region message target moment claim

owner_or_refusal_known : (keys : List AccessKey) (region : List ℕ) (message : Message) (target : Target) (moment : ℕ) → presigned.owner_or_refusal keys region message target moment ≢ Err url.Memory
unfolding presigned.owner_or_refusal
owner_or_refusal_known keys region message target moment = query_judged_known keys region message target moment (query_claim_of message.headers target.query)

query_refusal_known : (refusal : QueryRefusal) → refusal ≢ url.Memory → refused_by_query refusal ≢ Memory
query_refusal_known url.QueryMalformed other = λ e. cc
query_refusal_known url.UnknownKey other = λ e. cc
query_refusal_known url.WrongScope other = λ e. cc
query_refusal_known url.UnsignedHeader other = λ e. cc
query_refusal_known url.Streaming other = λ e. cc
query_refusal_known url.OutOfTime other = λ e. cc
query_refusal_known (url.SignatureDiffers hash) other = λ e. cc
query_refusal_known url.Memory other = absurd (other refl)

query_gives : (refusal : QueryRefusal) (due : Result Caller QueryRefusal) → presigned.Gives (Err refusal) due → refused_by_query refusal ≢ Memory → due ≡ Err refusal
query_gives url.QueryMalformed due gives known = gives
query_gives url.UnknownKey due gives known = gives
query_gives url.WrongScope due gives known = gives
query_gives url.UnsignedHeader due gives known = gives
query_gives url.Streaming due gives known = gives
query_gives url.OutOfTime due gives known = gives
query_gives (url.SignatureDiffers hash) due gives known = gives
query_gives url.Memory due gives known = absurd (known refl)

pub query_verifies : (refusal : QueryRefusal) (due : Result Caller QueryRefusal) → presigned.Gives (Err refusal) due → Verifies (by_query due) (Err (refused_by_query refusal))
query_verifies refusal due gives = λ known. ap by_query (query_gives refusal due gives known)

pub query_proper : (refusal : QueryRefusal) → IsProperMeant (refused_by_query refusal)
query_proper url.QueryMalformed = refl
query_proper url.UnknownKey = refl
query_proper url.WrongScope = refl
query_proper url.UnsignedHeader = refl
query_proper url.Streaming = refl
query_proper url.OutOfTime = refl
query_proper (url.SignatureDiffers hash) = refl
query_proper url.Memory = tt

-- ---- messages

-- a refusal is no lack of memory
header_known : (due : Result Caller Refusal) → due ≢ Err signature.Memory → by_header due ≢ Err Memory
header_known (Ok caller) known = λ e. cc
header_known (Err refusal) known = λ e. refusal_known refusal (λ is. known (ap Err is)) (let same : refused_by refusal ≡ Memory = cc in same)

query_is_known : (due : Result Caller QueryRefusal) → due ≢ Err url.Memory → by_query due ≢ Err Memory
query_is_known (Ok caller) known = λ e. cc
query_is_known (Err refusal) known = λ e. query_refusal_known refusal (λ is. known (ap Err is)) (let same : refused_by_query refusal ≡ Memory = cc in same)

-- either way of verifying
either : (P : Verdict → Type 0) (b : Bool) (in_query in_header : Verdict) → P in_query → P in_header → P (cond b in_query in_header)
either P true in_query in_header p q = p
either P false in_query in_header p q = q

verdict_known : (service : Service) (moment : ℕ) (message : Message) (target : Target) → verdict_at service moment message target ≢ Err Memory
verdict_known service moment message target =
    let in_query = presigned.owner_or_refusal service.keys service.settings.region message target moment in
    let in_header = caller_or_refusal service.keys service.settings.region message target moment in
    either (λ verdict. verdict ≢ Err Memory)
    (is_presigned target.query)
    (by_query in_query)
    (by_header in_header)
    (query_is_known in_query (owner_or_refusal_known service.keys service.settings.region message target moment))
    (header_known in_header (caller_or_refusal_known service.keys service.settings.region message target moment))

header_proper : (due : Result Caller Refusal) → IfErr (by_header due) IsProperMeant
header_proper (Ok caller) = tt
header_proper (Err refusal) = refused_proper refusal

query_is_proper : (due : Result Caller QueryRefusal) → IfErr (by_query due) IsProperMeant
query_is_proper (Ok caller) = tt
query_is_proper (Err refusal) = query_proper refusal

verdict_proper : (service : Service) (moment : ℕ) (message : Message) (target : Target) → IfErr (verdict_at service moment message target) IsProperMeant
verdict_proper service moment message target =
    let in_query = presigned.owner_or_refusal service.keys service.settings.region message target moment in
    let in_header = caller_or_refusal service.keys service.settings.region message target moment in
    either (λ verdict. IfErr verdict IsProperMeant) (is_presigned target.query) (by_query in_query) (by_header in_header) (query_is_proper in_query) (header_proper in_header)

as_sent_known : (message : Message) (verdict : Verdict) → verdict ≢ Err Memory → as_sent message verdict ≢ Err Memory
as_sent_known message (Ok caller) known = λ e. cc
as_sent_known message (Err means) known = λ e. known (ap Err (let same : means ≡ Memory = cc in same))

opening_by_known : (form : Option ChunkedForm) (service : Service) (moment : ℕ) (message : Message) (target : Target) → opening_by form service moment message target ≢ Err Memory
opening_by_known None service moment message target = as_sent_known message (verdict_at service moment message target) (verdict_known service moment message target)
opening_by_known (Some form) service moment message target = opened_known service.keys service.settings.region (body_limit service.settings) form message target moment

as_sent_proper : (message : Message) (verdict : Verdict) → IfErr verdict IsProperMeant → IfErr (as_sent message verdict) IsProperMeant
as_sent_proper message (Ok caller) proper = tt
as_sent_proper message (Err means) proper = proper

opening_by_proper : (form : Option ChunkedForm) (service : Service) (moment : ℕ) (message : Message) (target : Target) → IfErr (opening_by form service moment message target) IsProperMeant
opening_by_proper None service moment message target = as_sent_proper message (verdict_at service moment message target) (verdict_proper service moment message target)
opening_by_proper (Some form) service moment message target = opened_proper service.keys service.settings.region (body_limit service.settings) form message target moment

-- either meaning
either_meant : (P : Meant → Type 0) (b : Bool) (one other : Meant) → P one → P other → P (cond b one other)
either_meant P true one other p q = p
either_meant P false one other p q = q

sent_known : (settings : Settings) (message : Message) (target : Target) (sender : Sender) → sent_meaning settings message target sender ≢ Memory
sent_known settings message target sender =
    either_meant (λ means. means ≢ Memory) settings.extended (extended_meaning settings message target sender) (meaning_of settings message target sender.caller)
    (extended_known settings message target sender) (meaning_known settings message target sender.caller)

sent_proper : (settings : Settings) (message : Message) (target : Target) (sender : Sender) → IsProperMeant (sent_meaning settings message target sender)
sent_proper settings message target sender =
    either_meant IsProperMeant settings.extended (extended_meaning settings message target sender) (meaning_of settings message target sender.caller)
    (extended_proper settings message target sender) (meaning_proper settings message target sender.caller)

admitted_known : (settings : Settings) (target : Target) (opening : Opening) → opening ≢ Err Memory → admitted settings target opening ≢ Memory
admitted_known settings target (Ok opened) known = sent_known settings opened.message (asked_target target) opened.sender
admitted_known settings target (Err means) known = λ e. known (ap Err e)

resolve_target_known : (service : Service) (moment : ℕ) (message : Message) (read : Result Target NameFault) → resolve_target service moment message read ≢ Memory
resolve_target_known service moment message (Ok target) = admitted_known service.settings target (opening_at service moment message target) (opening_by_known (taken_form service.settings message target) service moment message target)
resolve_target_known service moment message (Err fault) = λ e. cc

admitted_proper : (settings : Settings) (target : Target) (opening : Opening) → IfErr opening IsProperMeant → IsProperMeant (admitted settings target opening)
admitted_proper settings target (Ok opened) proper = sent_proper settings opened.message (asked_target target) opened.sender
admitted_proper settings target (Err means) proper = proper

resolve_target_proper : (service : Service) (moment : ℕ) (message : Message) (read : Result Target NameFault) → IsProperMeant (resolve_target service moment message read)
resolve_target_proper service moment message (Ok target) = admitted_proper service.settings target (opening_at service moment message target) (opening_by_proper (taken_form service.settings message target) service moment message target)
resolve_target_proper service moment message (Err fault) = refl

pub message_is : (resolved : ResolvedRequest) (service : Service) (moment : ℕ) (message : Message)
    → (resolved.means ≢ Memory → resolved.caller ≡ caller_of service moment message (target_of message.target))
    → resolved.method.now ≡ message.method → resolved.resource.now ≡ raw_path message.target
    → (resolved.means ≢ Memory → resolved.means ≡ resolve_target service moment message (target_of message.target))
    → resolved.end ≡ end_after message → Is resolved (request_of service moment message)
message_is resolved service moment message caller method resource means end = record {
  caller = caller;
  method = method;
  resource = resource;
  understands = record {
    meant = resolve_target_known service moment message (target_of message.target);
    proper = resolve_target_proper service moment message (target_of message.target);
    same = means;
  };
  end = end;
}

-- no code of a request that was refused before is one for a store that failed
own_code : (kind : Kind) → is_store_fault (code_of kind) ≡ false
own_code BadHead = refl
own_code LongHead = refl
own_code ManyHeaders = refl
own_code NoLength = refl
own_code BadLength = refl
own_code LongBody = refl
own_code Transfer = refl
own_code ShortBody = refl

pub code_is_proper : (kind : Kind) → IsProperCode (code_of kind)
code_is_proper kind = own_code kind

-- a request that was refused before it was understood
pub refused_is : (resolved : ResolvedRequest) (kind : Kind) (place : ℕ) (head : Bool) → resolved.caller ≡ Anonymous → resolved.method.now ≡ cond head (codes "HEAD") [] → resolved.resource.now ≡ codes "/"
    → resolved.means ≡ Refused (code_of kind) → resolved.end ≡ Some (ended.Refused kind place) → Is resolved (refused_request kind place head)
refused_is resolved kind place head caller method resource means end = record {
  caller = λ _. caller;
  method = method;
  resource = resource;
  understands = record { meant = λ e. cc; proper = code_is_proper kind; same = λ _. means };
  end = end;
}
