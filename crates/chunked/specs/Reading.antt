-- How a body is read, from the left: what each reader of the code gives, and `decoded_of`, what they give together. What that means is
-- said in `Chunked`.
use Rattle.std.specs.Prelude.{◌≡◌, ⊤, ℕ, zero, suc, Bool, true, false, ◌==◌, nat_eq, nat_lt, if◌then◌else◌, List, [], ◌∷◌, ◌++◌}
use Rattle.std.specs.Prelude.{length, take, drop, slice_index, codes, Result, Ok, Err}
use Rattle.std.specs.List.{prefix_len}
use Rattle.std.specs.Str.Parse.{digits_value}
use Rattle.gate_base.specs.Ascii.{is_lower_hex}
use Rattle.gate_base.specs.declared.page.Pair.{Pair}
use Rattle.chunked.specs.declared.body.Decoded.{Decoded}
use Rattle.chunked.specs.declared.fault.ChunkedFault.{ChunkedFault}
use Rattle.chunked.specs.declared.fault.ChunkedFault.TheVariants.{IncompleteBody, InvalidRequest, SignatureDiffers, Memory}
use Rattle.chunked.specs.declared.form.ChunkedForm.{ChunkedForm}
use Rattle.sigv4.specs.declared.pieces.Seal.{Seal}
use Rattle.chunked.specs.Forms.{is_signed, most_lines}
use Rattle.chunked.specs.Sent.{Chunk, Line, crlf, is_hex_digit, is_name_byte, is_text_byte, is_feed, pair_of}
use Rattle.chunked.specs.Signatures.{has_signature_due, has_signature_line, has_trailer_signature_due, trailers_in}

infixl 10 ◌>>=◌
abbrev pub ◌>>=◌ : {A B : Type 0} → Result A ChunkedFault → (A → Result B ChunkedFault) → Result B ChunkedFault
(Ok found) >>= next = next found
(Err fault) >>= next = Err fault

-- what a function gave, seen by view, is that, unless memory ran out
abbrev pub Fails : {Y : Type 0} → ChunkedFault → Result Y ChunkedFault → Type 0
Fails IncompleteBody due = due ≡ Err IncompleteBody
Fails InvalidRequest due = due ≡ Err InvalidRequest
Fails SignatureDiffers due = due ≡ Err SignatureDiffers
Fails Memory due = ⊤

abbrev pub Gives : {X Y : Type 0} → (X → Y) → Result X ChunkedFault → Result Y ChunkedFault → Type 0
Gives view (Ok found) due = due ≡ Ok (view found)
Gives view (Err fault) due = Fails fault due

-- what a function that takes no memory gave, seen by view, is that
abbrev pub Reads : {X Y : Type 0} → (X → Y) → Result X ChunkedFault → Result Y ChunkedFault → Type 0
Reads view (Ok found) due = due ≡ Ok (view found)
Reads view (Err fault) due = due ≡ Err fault

-- a word, and the bytes behind it
unfoldable pub word_at : List ℕ → List ℕ → Result (Unit {0} × List ℕ) ChunkedFault
word_at [] bytes = Ok (tt, bytes)
word_at (w ∷ word) [] = Err IncompleteBody
word_at (w ∷ word) (byte ∷ bytes) = if byte == w then word_at word bytes else Err InvalidRequest

-- all bytes at the front that pass a test, as many as are allowed, where another byte follows
unfoldable pub run_at : (ℕ → Bool) → ℕ → ℕ → List ℕ → Result (List ℕ × List ℕ) ChunkedFault
run_at test least most bytes =
    if nat_lt most (prefix_len test bytes) then Err InvalidRequest
    else (if nat_eq (prefix_len test bytes) (length bytes) then Err IncompleteBody
    else (if nat_lt (prefix_len test bytes) least then Err InvalidRequest
    else Ok (take (prefix_len test bytes) bytes, drop (prefix_len test bytes) bytes)))

-- so many bytes
unfoldable pub block_at : ℕ → List ℕ → Result (List ℕ × List ℕ) ChunkedFault
block_at count bytes = if nat_lt (length bytes) count then Err IncompleteBody else Ok (take count bytes, drop count bytes)

-- the rest of a chunk's first line
unfoldable pub signature_at : Bool → List ℕ → Result (List ℕ × List ℕ) ChunkedFault
signature_at false bytes = word_at crlf bytes >>= λ end. Ok ([], end.1)
signature_at true bytes =
    word_at (codes ";chunk-signature=") bytes >>= λ behind. run_at is_lower_hex 64 64 behind.1
    >>= λ signature. word_at crlf signature.1 >>= λ end. Ok (signature.0, end.1)

unfoldable pub payload_at : ℕ → List ℕ → Result (List ℕ × List ℕ) ChunkedFault
payload_at zero bytes = Ok ([], bytes)
payload_at (suc count) bytes = block_at (suc count) bytes >>= λ block. word_at crlf block.1 >>= λ end. Ok (block.0, end.1)

unfoldable pub chunk_at : Bool → List ℕ → Result (Chunk × List ℕ) ChunkedFault
chunk_at signed bytes =
    run_at is_hex_digit 1 16 bytes >>= λ digits. signature_at signed digits.1
    >>= λ signature. payload_at (digits_value 16 digits.0) signature.1
    >>= λ payload. Ok (record { digits = digits.0; signature = signature.0; bytes = payload.0 }, payload.1)

unfoldable pub line_at : List ℕ → Result (Line × List ℕ) ChunkedFault
line_at bytes =
    run_at is_name_byte 1 128 bytes >>= λ name. word_at (58 ∷ []) name.1
    >>= λ colon. run_at is_text_byte 0 1024 colon.1 >>= λ text. run_at is_feed 0 1 text.1
    >>= λ feed. word_at crlf feed.1 >>= λ end. Ok (record { name = name.0; text = text.0; feed = feed.0 }, end.1)

-- the empty line
unfoldable pub end_at : List ℕ → Result (List Pair × List ℕ) ChunkedFault
end_at bytes = word_at crlf bytes >>= λ end. Ok ([], end.1)

-- lines up to an empty one, as names and values, and no more than so many
unfoldable pub lines_at : ℕ → List ℕ → Result (List Pair × List ℕ) ChunkedFault
lines_at zero bytes = end_at bytes
lines_at (suc most) bytes =
    if slice_index bytes 0 == 13 then end_at bytes
    else (line_at bytes >>= λ line. lines_at most line.1 >>= λ lines. Ok (pair_of line.0 ∷ lines.0, lines.1))

-- lines before those that are read
abbrev pub with_front : List Pair → Result (List Pair × List ℕ) ChunkedFault → Result (List Pair × List ℕ) ChunkedFault
with_front front read = read >>= λ lines. Ok (front ++ lines.0, lines.1)

-- the last signature, and the lines behind the last chunk
abbrev pub Tail : Type 0
Tail = List ℕ × List Pair

-- a chunk that was read, and what is behind it: lines behind an empty one, and else more
abbrev pub behind_chunk : ChunkedForm → Seal → List ℕ → (List ℕ → List ℕ → Result (Tail × List ℕ) ChunkedFault) → Chunk × List ℕ → Result (Tail × List ℕ) ChunkedFault
behind_chunk form seal previous more chunk =
    if has_signature_due (is_signed form) seal previous chunk.0
    then (if nat_eq (length chunk.0.bytes) 0
    then (lines_at (most_lines form) chunk.1 >>= λ lines. Ok ((chunk.0.signature, lines.0), lines.1))
    else more chunk.0.signature chunk.1)
    else Err SignatureDiffers

-- at most so many chunks, from a signature on, and the lines
unfoldable pub tail_at : ℕ → ChunkedForm → Seal → List ℕ → List ℕ → Result (Tail × List ℕ) ChunkedFault
tail_at zero form seal previous bytes = Err IncompleteBody
tail_at (suc most) form seal previous bytes =
    chunk_at (is_signed form) bytes >>= λ chunk. behind_chunk form seal previous (λ signature rest. tail_at most form seal signature rest) chunk

-- what the lines say
unfoldable pub sealed_by : ChunkedForm → Seal → List ℕ → List Pair → Result (List Pair) ChunkedFault
sealed_by form seal previous lines =
    if has_signature_line form lines
    then (if has_trailer_signature_due form seal previous lines then Ok (trailers_in form lines) else Err SignatureDiffers)
    else Err InvalidRequest

-- nothing may follow
abbrev pub ended_by : List Pair → List ℕ → Result (List Pair) ChunkedFault
ended_by trailers [] = Ok trailers
ended_by trailers (byte ∷ rest) = Err InvalidRequest

-- what the end of a body says
abbrev pub finished : ChunkedForm → Seal → Tail × List ℕ → Result (List Pair) ChunkedFault
finished form seal found = sealed_by form seal found.0.0 found.0.1 >>= λ trailers. ended_by trailers found.1

-- what the lines at the front say, behind the last signature
unfoldable pub end_of : ChunkedForm → Seal → List ℕ → List ℕ → Result (List Pair) ChunkedFault
end_of form seal previous bytes = lines_at (most_lines form) bytes >>= λ lines. finished form seal ((previous, lines.0), lines.1)

-- the trailers of a body
unfoldable pub trailers_of : ChunkedForm → Seal → List ℕ → Result (List Pair) ChunkedFault
trailers_of form seal bytes = tail_at (length bytes) form seal seal.signature bytes >>= λ found. finished form seal found

-- how many bytes the chunk has that was read, and how many are behind it
abbrev pub sizes_of : Result (Chunk × List ℕ) ChunkedFault → ℕ × ℕ
sizes_of (Ok chunk) = (length chunk.0.bytes, length chunk.1)
sizes_of (Err fault) = (0, 0)

-- the bytes of the chunks at the front, up to an empty one or to what is no chunk
abbrev pub gathered_with : (List ℕ → List ℕ) → Result (Chunk × List ℕ) ChunkedFault → List ℕ
gathered_with more (Err fault) = []
gathered_with more (Ok chunk) = if nat_eq (length chunk.0.bytes) 0 then [] else chunk.0.bytes ++ more chunk.1

unfoldable pub gathered_at : ℕ → Bool → List ℕ → List ℕ
gathered_at zero signed bytes = []
gathered_at (suc most) signed bytes = gathered_with (λ rest. gathered_at most signed rest) (chunk_at signed bytes)

-- what a body says of which `count` bytes are announced
unfoldable pub decoded_of : ChunkedForm → Seal → ℕ → List ℕ → Result Decoded ChunkedFault
decoded_of form seal count bytes =
    trailers_of form seal bytes >>= λ trailers.
    if nat_eq (length (gathered_at (length bytes) (is_signed form) bytes)) count
    then Ok (record { «data» = gathered_at (length bytes) (is_signed form) bytes; trailers = trailers })
    else Err IncompleteBody
