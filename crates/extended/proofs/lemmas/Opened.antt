-- What opening a message comes to: never a lack of memory, and else an opened message or a proper code.
use Rattle.std.proofs.Common.{◌≡◌, ◌≢◌, ℕ, Bool, true, false, not, cond, nat_lt, List, Option, None, Some, Result, Ok, Err, IfErr, codes, refl, ap}
use Rattle.gate_base.specs.declared.caller.Caller.{Caller}
use Rattle.gate_base.specs.declared.caller.Caller.TheVariants.{Owner, Anonymous}
use Rattle.gate_base.specs.declared.page.Pair.{Pair}
use Rattle.s3_machine.specs.declared.code.Code.{Code}
use Rattle.s3_machine.specs.declared.code.Code.TheVariants.{EntityTooLarge, InvalidRequest, MissingContentLength}
use Rattle.s3_names.specs.declared.target.Target.{Target}
use Rattle.http_wire.specs.declared.message.Message.{Message}
use Rattle.http_wire.specs.Headers.{first_value, has_header, has_single_header}
use Rattle.text_forms.specs.Numbers.{number_of}
use Rattle.s3_requests.specs.declared.meant.Meant.{Meant}
use Rattle.s3_requests.specs.declared.meant.Meant.TheVariants as meant
use Rattle.s3_machine.specs.Proper.{IsProperCode}
use Rattle.s3_requests.specs.Proper.{IsProperMeant}
use Rattle.sigv4.specs.declared.authorization.Authorization.{Authorization}
use Rattle.sigv4.specs.declared.keys.AccessKey.{AccessKey}
use Rattle.sigv4.specs.declared.pieces.Seal.{Seal}
use Rattle.sigv4.specs.declared.refusal.Refusal.{Refusal}
use Rattle.sigv4.specs.declared.refusal.Refusal.TheVariants as signature
use Rattle.sigv4.specs.Chunked.{seal_after, seal_of, head_judged, head_judged_with, seal_or_refusal}
use Rattle.sigv4.specs.Keys.{secret_of}
use Rattle.sigv4.specs.Moment.{is_skewed}
use Rattle.sigv4.specs.Verdict.{claim_of, expected, has_wrong_scope, lacks_date, leaves_unsigned, signature_differs, time_of}
use Rattle.chunked.specs.declared.body.Decoded.{Decoded}
use Rattle.chunked.specs.declared.fault.ChunkedFault.{ChunkedFault}
use Rattle.chunked.specs.declared.fault.ChunkedFault.TheVariants as chunks
use Rattle.chunked.specs.declared.form.ChunkedForm.{ChunkedForm}
use Rattle.chunked.specs.Forms.{is_signed}
use Rattle.chunked.specs.Reading.{decoded_of}
use Rattle.chunked.proofs.lemmas.Decoding.{decoded_known}
use Rattle.extended.specs.Chunks.{announced_value, announced_length}
use Rattle.extended.specs.Opened.{Opened, unused_seal, opened_by, opened_with, opened_for, opened}
use Rattle.extended.specs.Refused.{refused_by, refused_by_chunks}
use Rattle.extended.proofs.lemmas.Refused.{known_if, refusal_known, refused_proper, chunks_known, chunks_proper}

-- ---- the head

after_known : (judgement : Result Caller Refusal) (seal : Seal) → judgement ≢ Err signature.Memory → seal_after judgement seal ≢ Err signature.Memory
after_known (Ok caller) seal known = λ e. cc
after_known (Err refusal) seal known = λ e. known (ap Err (let same : refusal ≡ signature.Memory = cc in same))

head_secret_known : (secret : Option (List ℕ)) (region : List ℕ) (message : Message) (target : Target) (moment : ℕ) (claim : Authorization)
    → head_judged_with secret region message target moment claim ≢ Err signature.Memory
head_secret_known None region message target moment claim = λ e. cc
head_secret_known (Some secret) region message target moment claim =
    after_known _ (seal_of secret region message claim)
    (known_if (has_wrong_scope region claim) signature.WrongScope _ (λ e. cc)
    (known_if (leaves_unsigned claim message.headers) signature.UnsignedHeader _ (λ e. cc)
    (known_if (lacks_date claim message.headers) signature.NoDate _ (λ e. cc)
    (known_if (is_skewed (time_of message.headers) moment) signature.Skewed _ (λ e. cc)
    (known_if _ signature.NoPayloadHash _ (λ e. cc)
    (known_if (signature_differs claim (expected secret region message target claim)) (signature.SignatureDiffers (expected secret region message target claim).canonical_hash) (Ok Owner) (λ e. cc) (λ e. cc)))))))

head_judged_known : (keys : List AccessKey) (region : List ℕ) (message : Message) (target : Target) (moment : ℕ) (claim : Option Authorization)
    → head_judged keys region message target moment claim ≢ Err signature.Memory
head_judged_known keys region message target moment None = λ e. cc
head_judged_known keys region message target moment (Some claim) = head_secret_known (secret_of claim.id keys) region message target moment claim

head_claimed_known : (b : Bool) (judgement : Result (Option Seal) Refusal) → judgement ≢ Err signature.Memory → cond b judgement (Ok None) ≢ Err signature.Memory
head_claimed_known true judgement known = known
head_claimed_known false judgement known = λ e. cc

seal_or_refusal_known : (keys : List AccessKey) (region : List ℕ) (message : Message) (target : Target) (moment : ℕ) → seal_or_refusal keys region message target moment ≢ Err signature.Memory
unfolding seal_or_refusal
seal_or_refusal_known keys region message target moment =
    head_claimed_known _ (head_judged keys region message target moment (claim_of message.headers)) (head_judged_known keys region message target moment (claim_of message.headers))

-- ---- never a lack of memory

opened_by_known : (caller : Caller) (message : Message) (decoded : Result Decoded ChunkedFault) → decoded ≢ Err chunks.Memory → opened_by caller message decoded ≢ Err meant.Memory
opened_by_known caller message (Ok decoded) known = λ e. cc
opened_by_known caller message (Err fault) known = λ e. chunks_known fault (λ is. known (ap Err is)) (let same : refused_by_chunks fault ≡ meant.Memory = cc in same)

opened_with_known : (caller : Caller) (form : ChunkedForm) (seal : Seal) (message : Message) (count : Result ℕ Code) → opened_with caller form seal message count ≢ Err meant.Memory
opened_with_known caller form seal message (Ok count) = opened_by_known caller message (decoded_of form seal count message.body) (decoded_known form seal count message.body)
opened_with_known caller form seal message (Err code) = λ e. cc

unsigned_known : (b : Bool) (rest : Result Opened Meant) → rest ≢ Err meant.Memory → cond b (Err (meant.Refused InvalidRequest)) rest ≢ Err meant.Memory
unsigned_known true rest known = λ e. cc
unsigned_known false rest known = known

opened_for_known : (largest : ℕ) (form : ChunkedForm) (message : Message) (head : Result (Option Seal) Refusal) → head ≢ Err signature.Memory → opened_for largest form message head ≢ Err meant.Memory
opened_for_known largest form message (Ok (Some seal)) known = opened_with_known Owner form seal message (announced_length largest message.headers)
opened_for_known largest form message (Ok None) known =
    unsigned_known (is_signed form) (opened_with Anonymous form unused_seal message (announced_length largest message.headers)) (opened_with_known Anonymous form unused_seal message (announced_length largest message.headers))
opened_for_known largest form message (Err refusal) known = λ e. refusal_known refusal (λ is. known (ap Err is)) (let same : refused_by refusal ≡ meant.Memory = cc in same)

pub opened_known : (keys : List AccessKey) (region : List ℕ) (largest : ℕ) (form : ChunkedForm) (message : Message) (target : Target) (moment : ℕ)
    → opened keys region largest form message target moment ≢ Err meant.Memory
unfolding opened
opened_known keys region largest form message target moment =
    opened_for_known largest form message (seal_or_refusal keys region message target moment) (seal_or_refusal_known keys region message target moment)

-- ---- proper codes

if_proper : (b : Bool) (code : Code) (rest : Result ℕ Code) → IsProperCode code → IfErr rest IsProperCode → IfErr (cond b (Err code) rest) IsProperCode
if_proper true code rest one others = one
if_proper false code rest one others = others

value_proper : (largest : ℕ) (count : Option ℕ) → IfErr (announced_value largest count) IsProperCode
value_proper largest None = refl
value_proper largest (Some count) = if_proper (nat_lt largest count) EntityTooLarge (Ok count) refl tt

pub announced_proper : (largest : ℕ) (headers : List Pair) → IfErr (announced_length largest headers) IsProperCode
announced_proper largest headers =
    let count = number_of 19 (first_value (codes "x-amz-decoded-content-length") headers) in
    let one = has_single_header (codes "x-amz-decoded-content-length") headers in
    if_proper (not (has_header (codes "x-amz-decoded-content-length") headers)) MissingContentLength (cond (not one) (Err InvalidRequest) (announced_value largest count))
    refl
    (if_proper (not one) InvalidRequest (announced_value largest count) refl (value_proper largest count))

opened_by_proper : (caller : Caller) (message : Message) (decoded : Result Decoded ChunkedFault) → IfErr (opened_by caller message decoded) IsProperMeant
opened_by_proper caller message (Ok decoded) = tt
opened_by_proper caller message (Err fault) = chunks_proper fault

opened_with_proper : (caller : Caller) (form : ChunkedForm) (seal : Seal) (message : Message) (count : Result ℕ Code) → IfErr count IsProperCode → IfErr (opened_with caller form seal message count) IsProperMeant
opened_with_proper caller form seal message (Ok count) proper = opened_by_proper caller message (decoded_of form seal count message.body)
opened_with_proper caller form seal message (Err code) proper = proper

unsigned_proper : (b : Bool) (rest : Result Opened Meant) → IfErr rest IsProperMeant → IfErr (cond b (Err (meant.Refused InvalidRequest)) rest) IsProperMeant
unsigned_proper true rest proper = refl
unsigned_proper false rest proper = proper

opened_for_proper : (largest : ℕ) (form : ChunkedForm) (message : Message) (head : Result (Option Seal) Refusal) → IfErr (opened_for largest form message head) IsProperMeant
opened_for_proper largest form message (Ok (Some seal)) = opened_with_proper Owner form seal message (announced_length largest message.headers) (announced_proper largest message.headers)
opened_for_proper largest form message (Ok None) =
    unsigned_proper (is_signed form) (opened_with Anonymous form unused_seal message (announced_length largest message.headers))
    (opened_with_proper Anonymous form unused_seal message (announced_length largest message.headers) (announced_proper largest message.headers))
opened_for_proper largest form message (Err refusal) = refused_proper refusal

pub opened_proper : (keys : List AccessKey) (region : List ℕ) (largest : ℕ) (form : ChunkedForm) (message : Message) (target : Target) (moment : ℕ)
    → IfErr (opened keys region largest form message target moment) IsProperMeant
unfolding opened
opened_proper keys region largest form message target moment = opened_for_proper largest form message (seal_or_refusal keys region message target moment)
