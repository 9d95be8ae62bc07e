-- The signatures of chunks and of a trailer. Source: Amazon S3 API Reference, as in `Forms`.
use Rattle.std.specs.Prelude.{ℕ, ◌-◌, Bool, true, false, ◌&&◌, List, [], ◌∷◌, ◌++◌, length, take, slice_get, flat_map, codes, bytes_eq}
use Rattle.std.specs.List.{join_with_byte}
use Rattle.std.specs.Option.{option_map_or}
use Rattle.hex.specs.Hex.{encode_lower}
use Rattle.sha2.specs.Sha256.{sha256}
use Rattle.gate_base.specs.declared.page.Pair.{Pair}
use Rattle.sigv4.specs.Hmac.{hmac}
use Rattle.chunked.specs.declared.form.ChunkedForm.{ChunkedForm}
use Rattle.chunked.specs.declared.form.ChunkedForm.TheVariants.{UnsignedTrailer, Signed, SignedTrailer}
use Rattle.sigv4.specs.declared.pieces.Seal.{Seal}
use Rattle.chunked.specs.Sent.{Chunk}

abbrev pub hash_text : List ℕ → List ℕ
hash_text bytes = encode_lower (sha256 bytes)

-- what the signature of a chunk of these bytes is made of, behind the signature before it
abbrev pub chunk_to_sign : Seal → List ℕ → List ℕ → List ℕ
chunk_to_sign seal previous bytes =
    join_with_byte 10 (codes "AWS4-HMAC-SHA256-PAYLOAD" ∷ seal.date_time ∷ seal.scope ∷ previous ∷ hash_text [] ∷ hash_text bytes ∷ [])

unfoldable pub chunk_signature : Seal → List ℕ → List ℕ → List ℕ
chunk_signature seal previous bytes = encode_lower (hmac seal.key (chunk_to_sign seal previous bytes))

-- name ":" value LF
abbrev pub trailer_line : Pair → List ℕ
trailer_line trailer = trailer.name ++ 58 ∷ [] ++ trailer.value ++ 10 ∷ []

abbrev pub trailer_to_sign : Seal → List ℕ → List Pair → List ℕ
trailer_to_sign seal previous trailers =
    join_with_byte 10 (codes "AWS4-HMAC-SHA256-TRAILER" ∷ seal.date_time ∷ seal.scope ∷ previous ∷ hash_text (flat_map trailer_line trailers) ∷ [])

unfoldable pub trailer_signature : Seal → List ℕ → List Pair → List ℕ
trailer_signature seal previous trailers = encode_lower (hmac seal.key (trailer_to_sign seal previous trailers))

-- a chunk has the signature that is due, or needs none
abbrev pub has_signature_due : Bool → Seal → List ℕ → Chunk → Bool
has_signature_due false seal previous chunk = true
has_signature_due true seal previous chunk = bytes_eq chunk.signature (chunk_signature seal previous chunk.bytes)

-- each chunk has it, from the signature before the first of them on
unfoldable pub have_signatures_due : Bool → Seal → List ℕ → List Chunk → Bool
have_signatures_due signed seal previous [] = true
have_signatures_due signed seal previous (chunk ∷ chunks) =
    has_signature_due signed seal previous chunk && have_signatures_due signed seal chunk.signature chunks

-- ---- the lines behind the last chunk, as names and values

abbrev pub is_signature_line : Pair → Bool
is_signature_line line = bytes_eq line.name (codes "x-amz-trailer-signature")

-- the trailers among them: all, or all but the last, which is their signature
abbrev pub trailers_in : ChunkedForm → List Pair → List Pair
trailers_in UnsignedTrailer lines = lines
trailers_in Signed lines = lines
trailers_in SignedTrailer lines = take (length lines - 1) lines

-- where trailers are signed, the last line has the name of their signature
abbrev pub has_signature_line : ChunkedForm → List Pair → Bool
has_signature_line UnsignedTrailer lines = true
has_signature_line Signed lines = true
has_signature_line SignedTrailer lines = option_map_or is_signature_line (slice_get lines (length lines - 1)) false

-- and the value that is due
abbrev pub has_trailer_signature_due : ChunkedForm → Seal → List ℕ → List Pair → Bool
has_trailer_signature_due UnsignedTrailer seal previous lines = true
has_trailer_signature_due Signed seal previous lines = true
has_trailer_signature_due SignedTrailer seal previous lines =
    option_map_or (λ line. bytes_eq line.value (trailer_signature seal previous (trailers_in SignedTrailer lines)))
    (slice_get lines (length lines - 1)) false
