use Rattle.std.proofs.Common.{sym, ◌∙◌, ap, subst, List}
use Rattle.std.proofs.lemmas.Result.{err_from_is_err_and}
use Rattle.gate_base.specs.declared.page.Pair.{Pair}
use Rattle.chunked.specs.Forms.{is_signed}
use Rattle.chunked.specs.Reading.{Gives, chunk_at}
use Rattle.chunked.specs.Signatures.{has_signature_due}
use Rattle.chunked.specs.Views.{chunk_of}
use Rattle.chunked.proofs.Loops.{fails, chunk_shorter, going_fails, going_differs, going_on, going_ends}
use Rattle.chunked.proofs.trailers.chunked_trailers.Goals as goal

pub returns-in_err-chunk : goal.returns-in_err-chunk
returns-in_err-chunk c =
    let p = err_from_is_err_and c.from_residual.result c.from_residual.ensures.1 in
    rw (p.1, p.2)
    (fails _ _ (going_fails c.args.form c.args.seal.now c.args.bytes.now c.chunks.previous.now c.chunks.rest.now _ c.chunks.invariant
    (ap (λ s. chunk_at s c.chunks.rest.now) (sym c.is_signed.ensures) ∙ c.in_err-chunk.ensures)))

pub returns-then-not-branch : goal.returns-then-not-branch
returns-then-not-branch c =
    going_differs c.args.form c.args.seal.now c.args.bytes.now c.chunks.previous.now c.chunks.rest.now (chunk_of c.in_ok-chunk.chunk) c.in_ok-chunk.behind.now c.chunks.invariant
    (ap (λ s. chunk_at s c.chunks.rest.now) (sym c.is_signed.ensures) ∙ c.in_ok-chunk.ensures)
    (ap (λ s. has_signature_due s c.args.seal.now c.chunks.previous.now (chunk_of c.in_ok-chunk.chunk)) (sym c.is_signed-in-chunks.ensures) ∙ sym c.in_ok-has_chunk_signature.ensures
    ∙ c.if-not-branch.true)

pub returns-then-chunk-eq0 : goal.returns-then-chunk-eq0
returns-then-chunk-eq0 c =
    subst (Gives (λ (trailers : List Pair). trailers) c.chunked_tail.result)
    (going_ends c.args.form c.args.seal.now c.args.bytes.now c.chunks.previous.now c.chunks.rest.now (chunk_of c.in_ok-chunk.chunk) c.in_ok-chunk.behind.now c.chunks.invariant
    (ap (λ s. chunk_at s c.chunks.rest.now) (sym c.is_signed.ensures) ∙ c.in_ok-chunk.ensures)
    (ap (λ s. has_signature_due s c.args.seal.now c.chunks.previous.now (chunk_of c.in_ok-chunk.chunk)) (sym c.is_signed-in-chunks.ensures)
    ∙ sym c.in_ok-has_chunk_signature.ensures ∙ c.if-not-branch.false)
    c.if-chunk-eq0.true)
    c.chunked_tail.ensures

pub chunks-smaller : goal.chunks-smaller
chunks-smaller c =
    chunk_shorter (is_signed c.args.form) c.chunks.rest.now (chunk_of c.in_ok-chunk.chunk) c.in_ok-chunk.behind.now
    (ap (λ s. chunk_at s c.chunks.rest.now) (sym c.is_signed.ensures) ∙ c.in_ok-chunk.ensures)

pub chunks-preserved : goal.chunks-preserved
chunks-preserved c =
    going_on c.args.form c.args.seal.now c.args.bytes.now c.chunks.previous.now c.chunks.rest.now (chunk_of c.in_ok-chunk.chunk) c.in_ok-chunk.behind.now c.chunks.invariant
    (ap (λ s. chunk_at s c.chunks.rest.now) (sym c.is_signed.ensures) ∙ c.in_ok-chunk.ensures)
    (ap (λ s. has_signature_due s c.args.seal.now c.chunks.previous.now (chunk_of c.in_ok-chunk.chunk)) (sym c.is_signed-in-chunks.ensures) ∙ sym c.in_ok-has_chunk_signature.ensures
    ∙ c.if-not-branch.false)
    c.if-chunk-eq0.false
