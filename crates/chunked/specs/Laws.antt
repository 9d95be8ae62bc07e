-- What the laws of this crate say.
use Rattle.std.specs.Prelude.{◌≡◌, ℕ, List, length, map, Result, Ok, Err}
use Rattle.gate_base.specs.declared.page.Pair.{Pair}
use Rattle.chunked.specs.declared.body.Decoded.{Decoded}
use Rattle.chunked.specs.declared.fault.ChunkedFault.{ChunkedFault}
use Rattle.chunked.specs.declared.fault.ChunkedFault.TheVariants.{Memory}
use Rattle.chunked.specs.declared.form.ChunkedForm.{ChunkedForm}
use Rattle.sigv4.specs.declared.pieces.Seal.{Seal}
use Rattle.chunked.specs.Chunked.{Chunked, Decodes}
use Rattle.chunked.specs.Print.{signed_sent, IsPrintable}
use Rattle.chunked.specs.Reading.{decoded_of}
use Rattle.chunked.specs.Sent.{Sent, sent_text, bytes_of, pair_of}

-- what the function that reads a body gives means what the relation says
abbrev pub DecodedMeans : Type 0
DecodedMeans = (form : ChunkedForm) (seal : Seal) (count : ℕ) (bytes : List ℕ) → Decodes form seal count bytes (decoded_of form seal count bytes)

-- the relation has one answer, but for want of memory
abbrev pub OneAnswer : Type 0
OneAnswer =
    (form : ChunkedForm) (seal : Seal) (count : ℕ) (bytes : List ℕ) (one other : Result Decoded ChunkedFault) → Decodes form seal count bytes one → Decodes form seal count bytes other
    → (one ≡ Err Memory → ⊥) → (other ≡ Err Memory → ⊥) → one ≡ other

-- a body that says data and trailers is read as these, and so says no others
abbrev pub ChunkedRead : Type 0
ChunkedRead =
    (form : ChunkedForm) (seal : Seal) (bytes «data» : List ℕ) (trailers : List Pair) → Chunked form seal bytes «data» trailers
    → decoded_of form seal (length «data») bytes ≡ Ok (record { «data» = «data»; trailers = trailers })

-- a body that is printed with the signatures that are due is read back
abbrev pub PrintedRead : Type 0
PrintedRead =
    (form : ChunkedForm) (seal : Seal) (sent : Sent) → IsPrintable form sent
    → decoded_of form seal (length (bytes_of sent.chunks)) (sent_text form (signed_sent form seal sent))
    ≡ Ok (record { «data» = bytes_of sent.chunks; trailers = map pair_of sent.lines })
