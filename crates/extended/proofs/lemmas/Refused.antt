-- What a request is answered whose signature or body is refused: a proper code, unless memory ran out.
use Rattle.std.proofs.Common.{◌≡◌, ◌≢◌, Bool, true, false, cond, Option, Result, Err, refl}
use Rattle.gate_base.specs.declared.caller.Caller.{Caller}
use Rattle.s3_requests.specs.declared.meant.Meant.TheVariants as meant
use Rattle.s3_requests.specs.Proper.{IsProperMeant}
use Rattle.sigv4.specs.declared.refusal.Refusal.{Refusal}
use Rattle.sigv4.specs.declared.refusal.Refusal.TheVariants as signature
use Rattle.sigv4.specs.declared.pieces.Seal.{Seal}
use Rattle.sigv4.specs.Verdict.{Gives}
use Rattle.sigv4.specs.Chunked.{GivesSeal}
use Rattle.chunked.specs.declared.fault.ChunkedFault.{ChunkedFault}
use Rattle.chunked.specs.declared.fault.ChunkedFault.TheVariants as chunks
use Rattle.extended.specs.Refused.{refused_by, refused_by_chunks}

-- a refusal that isn't a lack of memory, before others that aren't
pub known_if : (b : Bool) (refusal : Refusal) (rest : Result Caller Refusal) → refusal ≢ signature.Memory → rest ≢ Err signature.Memory → cond b (Err refusal) rest ≢ Err signature.Memory
known_if true refusal rest one others = λ e. one (let same : refusal ≡ signature.Memory = cc in same)
known_if false refusal rest one others = others

pub refusal_known : (refusal : Refusal) → refusal ≢ signature.Memory → refused_by refusal ≢ meant.Memory
refusal_known signature.HeaderMalformed other = λ e. cc
refusal_known signature.UnknownKey other = λ e. cc
refusal_known signature.WrongScope other = λ e. cc
refusal_known signature.UnsignedHeader other = λ e. cc
refusal_known signature.NoDate other = λ e. cc
refusal_known signature.Skewed other = λ e. cc
refusal_known signature.Streaming other = λ e. cc
refusal_known signature.NoPayloadHash other = λ e. cc
refusal_known (signature.SignatureDiffers hash) other = λ e. cc
refusal_known signature.PayloadDiffers other = λ e. cc
refusal_known signature.Memory other = absurd (other refl)

pub refused_proper : (refusal : Refusal) → IsProperMeant (refused_by refusal)
refused_proper signature.HeaderMalformed = refl
refused_proper signature.UnknownKey = refl
refused_proper signature.WrongScope = refl
refused_proper signature.UnsignedHeader = refl
refused_proper signature.NoDate = refl
refused_proper signature.Skewed = refl
refused_proper signature.Streaming = refl
refused_proper signature.NoPayloadHash = refl
refused_proper (signature.SignatureDiffers hash) = refl
refused_proper signature.PayloadDiffers = refl
refused_proper signature.Memory = tt

-- a refusal that isn't a lack of memory is the one that is expected
pub gives_refusal : (refusal : Refusal) (due : Result Caller Refusal) → Gives (Err refusal) due → refused_by refusal ≢ meant.Memory → due ≡ Err refusal
gives_refusal signature.HeaderMalformed due gives known = gives
gives_refusal signature.UnknownKey due gives known = gives
gives_refusal signature.WrongScope due gives known = gives
gives_refusal signature.UnsignedHeader due gives known = gives
gives_refusal signature.NoDate due gives known = gives
gives_refusal signature.Skewed due gives known = gives
gives_refusal signature.Streaming due gives known = gives
gives_refusal signature.NoPayloadHash due gives known = gives
gives_refusal (signature.SignatureDiffers hash) due gives known = gives
gives_refusal signature.PayloadDiffers due gives known = gives
gives_refusal signature.Memory due gives known = absurd (known refl)

-- so of the head alone
pub gives_seal_refusal : (refusal : Refusal) (due : Result (Option Seal) Refusal) → GivesSeal (Err refusal) due → refused_by refusal ≢ meant.Memory → due ≡ Err refusal
gives_seal_refusal signature.HeaderMalformed due gives known = gives
gives_seal_refusal signature.UnknownKey due gives known = gives
gives_seal_refusal signature.WrongScope due gives known = gives
gives_seal_refusal signature.UnsignedHeader due gives known = gives
gives_seal_refusal signature.NoDate due gives known = gives
gives_seal_refusal signature.Skewed due gives known = gives
gives_seal_refusal signature.Streaming due gives known = gives
gives_seal_refusal signature.NoPayloadHash due gives known = gives
gives_seal_refusal (signature.SignatureDiffers hash) due gives known = gives
gives_seal_refusal signature.PayloadDiffers due gives known = gives
gives_seal_refusal signature.Memory due gives known = absurd (known refl)

pub chunks_known : (fault : ChunkedFault) → fault ≢ chunks.Memory → refused_by_chunks fault ≢ meant.Memory
chunks_known chunks.IncompleteBody other = λ e. cc
chunks_known chunks.InvalidRequest other = λ e. cc
chunks_known chunks.SignatureDiffers other = λ e. cc
chunks_known chunks.Memory other = absurd (other refl)

pub chunks_proper : (fault : ChunkedFault) → IsProperMeant (refused_by_chunks fault)
chunks_proper chunks.IncompleteBody = refl
chunks_proper chunks.InvalidRequest = refl
chunks_proper chunks.SignatureDiffers = refl
chunks_proper chunks.Memory = tt
