-- How a body in chunks is printed: the bytes, cut into chunks anyhow, with the signatures that are due.
use Rattle.std.specs.Prelude.{◌≡◌, ℕ, ◌≤◌, ◌<◌, Bool, true, false, List, [], ◌∷◌, ◌++◌, length, map, codes}
use Rattle.std.specs.List.{AllByRecursion, list_all}
use Rattle.std.specs.Str.Parse.{digits_value}
use Rattle.chunked.specs.declared.form.ChunkedForm.{ChunkedForm}
use Rattle.chunked.specs.declared.form.ChunkedForm.TheVariants.{UnsignedTrailer, Signed, SignedTrailer}
use Rattle.sigv4.specs.declared.pieces.Seal.{Seal}
use Rattle.chunked.specs.Forms.{is_signed}
use Rattle.chunked.specs.Sent.{Chunk, Line, Sent, IsLine, is_hex_digit, pair_of}
use Rattle.chunked.specs.Signatures.{chunk_signature, trailer_signature}

-- the signature that a chunk of these bytes gets
abbrev pub signature_for : Bool → Seal → List ℕ → List ℕ → List ℕ
signature_for false seal previous bytes = []
signature_for true seal previous bytes = chunk_signature seal previous bytes

abbrev pub signed_chunk : Bool → Seal → List ℕ → Chunk → Chunk
signed_chunk signed seal previous chunk = record { digits = chunk.digits; signature = signature_for signed seal previous chunk.bytes; bytes = chunk.bytes }

-- chunks, each with its signature behind the one before it
unfoldable pub signed_chunks : Bool → Seal → List ℕ → List Chunk → List Chunk
signed_chunks signed seal previous [] = []
signed_chunks signed seal previous (chunk ∷ chunks) = signed_chunk signed seal previous chunk ∷ signed_chunks signed seal (signature_for signed seal previous chunk.bytes) chunks

-- the signature of the last of them, or the one before them
unfoldable pub signature_behind : Bool → Seal → List ℕ → List Chunk → List ℕ
signature_behind signed seal previous [] = previous
signature_behind signed seal previous (chunk ∷ chunks) = signature_behind signed seal (signature_for signed seal previous chunk.bytes) chunks

-- the lines of trailers, and of their signature where the form has one
abbrev pub signed_lines : ChunkedForm → Seal → List ℕ → List Line → List Line
signed_lines UnsignedTrailer seal previous lines = lines
signed_lines Signed seal previous lines = lines
signed_lines SignedTrailer seal previous lines =
    lines ++ record { name = codes "x-amz-trailer-signature"; text = trailer_signature seal previous (map pair_of lines); feed = [] } ∷ []

-- the last chunk, with its signature
abbrev pub signed_last : ChunkedForm → Seal → Sent → Chunk
signed_last form seal sent = signed_chunk (is_signed form) seal (signature_behind (is_signed form) seal seal.signature sent.chunks) sent.last

-- a body with all signatures that are due, whatever signatures were there
abbrev pub signed_sent : ChunkedForm → Seal → Sent → Sent
signed_sent form seal sent = record {
  chunks = signed_chunks (is_signed form) seal seal.signature sent.chunks;
  last = signed_last form seal sent;
  lines = signed_lines form seal (signed_last form seal sent).signature sent.lines;
}

-- how many trailers may be printed
abbrev pub most_trailers : ChunkedForm → ℕ
most_trailers UnsignedTrailer = 8
most_trailers Signed = 0
most_trailers SignedTrailer = 8

-- the digits of a chunk write its length
pub record IsCounted (chunk : Chunk) : Type 0 where
  pub filled : 1 ≤ length chunk.digits
  pub short : length chunk.digits ≤ 16
  pub hex : list_all is_hex_digit chunk.digits ≡ true
  pub counts : digits_value 16 chunk.digits ≡ length chunk.bytes

pub record IsPiece (chunk : Chunk) : Type 0 where
  pub counted : IsCounted chunk
  pub filled : 0 < length chunk.bytes

-- what can be printed: chunks of at least one byte, an empty one, and at most so many trailers
pub record IsPrintable (form : ChunkedForm) (sent : Sent) : Type 0 where
  pub chunks : AllByRecursion IsPiece sent.chunks
  pub last : IsCounted sent.last
  pub empty : sent.last.bytes ≡ []
  pub lines : AllByRecursion IsLine sent.lines
  pub few : length sent.lines ≤ most_trailers form
