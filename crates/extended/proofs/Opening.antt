-- What is given where a message is refused.
use Rattle.std.proofs.Common.{◌≡◌, ◌≢◌, ℕ, Option, Result, Err, refl, ap}
use Rattle.gate_base.specs.declared.caller.Caller.{Caller}
use Rattle.http_wire.specs.declared.message.Message.{Message}
use Rattle.s3_requests.specs.declared.meant.Meant.TheVariants as meant
use Rattle.sigv4.specs.declared.pieces.Seal.{Seal}
use Rattle.sigv4.specs.declared.refusal.Refusal.{Refusal}
use Rattle.sigv4.specs.Chunked.{GivesSeal}
use Rattle.chunked.specs.declared.body.Decoded.{Decoded}
use Rattle.chunked.specs.declared.fault.ChunkedFault.{ChunkedFault}
use Rattle.chunked.specs.declared.fault.ChunkedFault.TheVariants as chunks
use Rattle.chunked.specs.declared.form.ChunkedForm.{ChunkedForm}
use Rattle.chunked.specs.Reading.{Fails}
use Rattle.extended.specs.Opened.{Opens, opened_by, opened_for}
use Rattle.extended.specs.Refused.{refused_by, refused_by_chunks}
use Rattle.extended.proofs.lemmas.Refused.{gives_seal_refusal}

-- a head that is refused
pub head_refused : (largest : ℕ) (form : ChunkedForm) (message left : Message) (refusal : Refusal) (due : Result (Option Seal) Refusal)
    → GivesSeal (Err refusal) due → Opens (opened_for largest form message due) (Err (refused_by refusal)) left
head_refused largest form message left refusal due gives = λ known. ap (opened_for largest form message) (gives_seal_refusal refusal due gives known)

chunks_gives : (fault : ChunkedFault) (due : Result Decoded ChunkedFault) → Fails fault due → refused_by_chunks fault ≢ meant.Memory → due ≡ Err fault
chunks_gives chunks.IncompleteBody due fails known = fails
chunks_gives chunks.InvalidRequest due fails known = fails
chunks_gives chunks.SignatureDiffers due fails known = fails
chunks_gives chunks.Memory due fails known = absurd (known refl)

-- a body that is
pub body_refused : (caller : Caller) (message left : Message) (fault : ChunkedFault) (due : Result Decoded ChunkedFault)
    → Fails fault due → Opens (opened_by caller message due) (Err (refused_by_chunks fault)) left
body_refused caller message left fault due fails = λ known. ap (opened_by caller message) (chunks_gives fault due fails known)
