-- What a body says is never a lack of memory.
use Rattle.std.proofs.Common.{◌≡◌, ◌≢◌, ℕ, zero, suc, inl, inr, Bool, true, false, cond, List, [], ◌∷◌, length, nat_eq, Result, Ok, Err, ap}
use Rattle.gate_base.specs.declared.page.Pair.{Pair}
use Rattle.chunked.specs.declared.body.Decoded.{Decoded}
use Rattle.chunked.specs.declared.fault.ChunkedFault.{ChunkedFault}
use Rattle.chunked.specs.declared.fault.ChunkedFault.TheVariants.{IncompleteBody, InvalidRequest, SignatureDiffers, Memory}
use Rattle.chunked.specs.declared.form.ChunkedForm.{ChunkedForm}
use Rattle.sigv4.specs.declared.pieces.Seal.{Seal}
use Rattle.chunked.specs.Forms.{is_signed, most_lines}
use Rattle.chunked.specs.Sent.{Chunk}
use Rattle.chunked.specs.Signatures.{has_signature_due, has_signature_line, has_trailer_signature_due, trailers_in}
use Rattle.chunked.specs.Reading.{◌>>=◌, Tail, chunk_at, lines_at, behind_chunk, tail_at, sealed_by, ended_by, finished, trailers_of, gathered_at, decoded_of}
use Rattle.chunked.proofs.Steady.{IsPlain}
use Rattle.chunked.proofs.Pieces.{chunk_steady}
use Rattle.chunked.proofs.Rows.{lines_steady}

abbrev Known : {Y : Type 0} → Result Y ChunkedFault → Type 0
Known read = read ≢ Err Memory

not_plain : IsPlain Memory → ⊥
not_plain (inl e) = cc
not_plain (inr e) = cc

bind_known : {A B : Type 0} (read : Result A ChunkedFault) (next : A → Result B ChunkedFault) → Known read → ((found : A) → Known (next found)) → Known (read >>= next)
bind_known (Ok found) next one others = others found
bind_known (Err fault) next one others = λ e. one (ap Err (let same : fault ≡ Memory = cc in same))

if_known : {A : Type 0} (b : Bool) (x y : Result A ChunkedFault) → Known x → Known y → Known (cond b x y)
if_known true x y one other = one
if_known false x y one other = other

chunk_known : (signed : Bool) (bytes : List ℕ) → Known (chunk_at signed bytes)
chunk_known signed bytes = λ e. not_plain ((chunk_steady signed).plain bytes Memory e)

lines_known : (most : ℕ) (bytes : List ℕ) → Known (lines_at most bytes)
lines_known most bytes = λ e. not_plain ((lines_steady most).plain bytes Memory e)

behind_known : (form : ChunkedForm) (seal : Seal) (previous : List ℕ) (more : List ℕ → List ℕ → Result (Tail × List ℕ) ChunkedFault) (chunk : Chunk × List ℕ)
    → ((signature rest : List ℕ) → Known (more signature rest)) → Known (behind_chunk form seal previous more chunk)
behind_known form seal previous more chunk others =
    if_known (has_signature_due (is_signed form) seal previous chunk.0)
    (cond (nat_eq (length chunk.0.bytes) 0) (lines_at (most_lines form) chunk.1 >>= λ lines. Ok ((chunk.0.signature, lines.0), lines.1)) (more chunk.0.signature chunk.1))
    (Err SignatureDiffers)
    (if_known (nat_eq (length chunk.0.bytes) 0) (lines_at (most_lines form) chunk.1 >>= λ lines. Ok ((chunk.0.signature, lines.0), lines.1)) (more chunk.0.signature chunk.1)
    (bind_known (lines_at (most_lines form) chunk.1) (λ lines. Ok ((chunk.0.signature, lines.0), lines.1)) (lines_known (most_lines form) chunk.1) (λ lines e. cc))
    (others chunk.0.signature chunk.1))
    (λ e. cc)

tail_known : (most : ℕ) (form : ChunkedForm) (seal : Seal) (previous bytes : List ℕ) → Known (tail_at most form seal previous bytes)
unfolding tail_at
tail_known zero form seal previous bytes = λ e. cc
tail_known (suc most) form seal previous bytes =
    bind_known (chunk_at (is_signed form) bytes) (λ chunk. behind_chunk form seal previous (λ signature rest. tail_at most form seal signature rest) chunk) (chunk_known (is_signed form) bytes)
    (λ chunk. behind_known form seal previous (λ signature rest. tail_at most form seal signature rest) chunk (λ signature rest. tail_known most form seal signature rest))

sealed_known : (form : ChunkedForm) (seal : Seal) (previous : List ℕ) (lines : List Pair) → Known (sealed_by form seal previous lines)
unfolding sealed_by
sealed_known form seal previous lines =
    if_known (has_signature_line form lines) (cond (has_trailer_signature_due form seal previous lines) (Ok (trailers_in form lines)) (Err SignatureDiffers)) (Err InvalidRequest)
    (if_known (has_trailer_signature_due form seal previous lines) (Ok (trailers_in form lines)) (Err SignatureDiffers) (λ e. cc) (λ e. cc))
    (λ e. cc)

ended_known : (trailers : List Pair) (rest : List ℕ) → Known (ended_by trailers rest)
ended_known trailers [] = λ e. cc
ended_known trailers (byte ∷ rest) = λ e. cc

finished_known : (form : ChunkedForm) (seal : Seal) (found : Tail × List ℕ) → Known (finished form seal found)
finished_known form seal found =
    bind_known (sealed_by form seal found.0.0 found.0.1) (λ trailers. ended_by trailers found.1) (sealed_known form seal found.0.0 found.0.1) (λ trailers. ended_known trailers found.1)

trailers_known : (form : ChunkedForm) (seal : Seal) (bytes : List ℕ) → Known (trailers_of form seal bytes)
unfolding trailers_of
trailers_known form seal bytes =
    bind_known (tail_at (length bytes) form seal seal.signature bytes) (λ found. finished form seal found) (tail_known (length bytes) form seal seal.signature bytes) (λ found. finished_known form seal found)

counted_known : (b : Bool) (decoded : Decoded) → Known (cond b (Ok decoded) (Err IncompleteBody))
counted_known true decoded = λ e. cc
counted_known false decoded = λ e. cc

pub decoded_known : (form : ChunkedForm) (seal : Seal) (count : ℕ) (bytes : List ℕ) → decoded_of form seal count bytes ≢ Err Memory
unfolding decoded_of
decoded_known form seal count bytes =
    let gathered = gathered_at (length bytes) (is_signed form) bytes in
    bind_known (trailers_of form seal bytes) (λ trailers. cond (nat_eq (length gathered) count) (Ok (record { «data» = gathered; trailers = trailers })) (Err IncompleteBody)) (trailers_known form seal bytes)
    (λ trailers. counted_known (nat_eq (length gathered) count) (record { «data» = gathered; trailers = trailers }))
