-- What a body in chunks says, or why it says nothing. Sources as in `Forms`; which fault goes before which is this profile's: the
-- one that shows first in the bytes, where a chunk's signature shows at the end of the chunk, and the trailers' at the end of
-- the lines.
use Rattle.std.specs.Prelude.{◌≡◌, ⊤, ℕ, ◌⊎◌, true, false, List, [], ◌∷◌, ◌++◌, length, map, flat_map, Result, Ok, Err}
use Rattle.std.specs.List.{AllByRecursion}
use Rattle.gate_base.specs.declared.page.Pair.{Pair}
use Rattle.chunked.specs.declared.body.Decoded.{Decoded}
use Rattle.chunked.specs.declared.fault.ChunkedFault.{ChunkedFault}
use Rattle.chunked.specs.declared.fault.ChunkedFault.TheVariants.{IncompleteBody, InvalidRequest, SignatureDiffers, Memory}
use Rattle.chunked.specs.declared.form.ChunkedForm.{ChunkedForm}
use Rattle.sigv4.specs.declared.pieces.Seal.{Seal}
use Rattle.chunked.specs.Forms.{is_signed}
use Rattle.chunked.specs.Sent.{Chunk, Sent, IsChunk, IsFull, IsSent, chunk_text, sent_text, bytes_of, pair_of}
use Rattle.chunked.specs.Signatures.{have_signatures_due, has_signature_line, has_trailer_signature_due, trailers_in}

-- each chunk and the last one have the signature that is due
abbrev pub HasSignatures : ChunkedForm → Seal → Sent → Type 0
HasSignatures form seal sent = have_signatures_due (is_signed form) seal seal.signature (sent.chunks ++ sent.last ∷ []) ≡ true

-- bytes are a body of this form whose signatures are due, and say these data and trailers
pub record Chunked (form : ChunkedForm) (seal : Seal) (bytes «data» : List ℕ) (trailers : List Pair) : Type 0 where
  pub sent : Sent
  pub formed : IsSent form sent
  pub at : bytes ≡ sent_text form sent
  pub signed : HasSignatures form seal sent
  pub sealed : has_signature_line form (map pair_of sent.lines) ≡ true
  pub due : has_trailer_signature_due form seal sent.last.signature (map pair_of sent.lines) ≡ true
  pub joined : «data» ≡ bytes_of sent.chunks
  pub trails : trailers ≡ trailers_in form (map pair_of sent.lines)

-- whole chunks stand at the front of the bytes, and one of them has another signature than is due
pub record HasWrongChunk (form : ChunkedForm) (seal : Seal) (bytes : List ℕ) : Type 0 where
  pub chunks : List Chunk
  pub last : Chunk
  pub rest : List ℕ
  pub full : AllByRecursion (IsFull (is_signed form)) chunks
  pub formed : IsChunk (is_signed form) last
  pub at : bytes ≡ flat_map (chunk_text (is_signed form)) chunks ++ (chunk_text (is_signed form) last ++ rest)
  pub wrong : have_signatures_due (is_signed form) seal seal.signature (chunks ++ last ∷ []) ≡ false

-- a whole body stands at the front of the bytes, and its trailers have another signature than is due
pub record HasWrongTrailer (form : ChunkedForm) (seal : Seal) (bytes : List ℕ) : Type 0 where
  pub sent : Sent
  pub rest : List ℕ
  pub formed : IsSent form sent
  pub at : bytes ≡ sent_text form sent ++ rest
  pub sealed : has_signature_line form (map pair_of sent.lines) ≡ true
  pub wrong : has_trailer_signature_due form seal sent.last.signature (map pair_of sent.lines) ≡ false

abbrev pub HasWrongSignature : ChunkedForm → Seal → List ℕ → Type 0
HasWrongSignature form seal bytes = HasWrongChunk form seal bytes ⊎ HasWrongTrailer form seal bytes

-- bytes are the front of a body of this form, or all of one, whatever its signatures are
pub record IsFront (form : ChunkedForm) (bytes : List ℕ) : Type 0 where
  pub sent : Sent
  pub more : List ℕ
  pub formed : IsSent form sent
  pub at : bytes ++ more ≡ sent_text form sent

-- a whole body whose trailers should be signed, and aren't
pub record LacksSignatureLine (form : ChunkedForm) (bytes : List ℕ) : Type 0 where
  pub sent : Sent
  pub formed : IsSent form sent
  pub at : bytes ≡ sent_text form sent
  pub lacks : has_signature_line form (map pair_of sent.lines) ≡ false

-- bytes are a body that says so many bytes of data
pub record SaysBytes (form : ChunkedForm) (seal : Seal) (bytes : List ℕ) (count : ℕ) : Type 0 where
  pub «data» : List ℕ
  pub trailers : List Pair
  pub chunked : Chunked form seal bytes «data» trailers
  pub counts : length «data» ≡ count

-- no signature is wrong, and the bytes aren't the front of a body, or end one that lacks the signature of its trailers
pub record IsInvalid (form : ChunkedForm) (seal : Seal) (bytes : List ℕ) : Type 0 where
  pub right : HasWrongSignature form seal bytes → ⊥
  pub broken : (IsFront form bytes → ⊥) ⊎ LacksSignatureLine form bytes

-- no signature is wrong, and the bytes are the front of a body, but no body that says so many bytes
pub record IsIncomplete (form : ChunkedForm) (seal : Seal) (count : ℕ) (bytes : List ℕ) : Type 0 where
  pub right : HasWrongSignature form seal bytes → ⊥
  pub front : IsFront form bytes
  pub closed : LacksSignatureLine form bytes → ⊥
  pub short : SaysBytes form seal bytes count → ⊥

-- what bytes say of which `count` bytes of data are announced; memory may run out for any bytes
abbrev pub Decodes : ChunkedForm → Seal → ℕ → List ℕ → Result Decoded ChunkedFault → Type 0
Decodes form seal count bytes (Ok decoded) = Chunked form seal bytes decoded.«data» decoded.trailers × (length decoded.«data» ≡ count)
Decodes form seal count bytes (Err IncompleteBody) = IsIncomplete form seal count bytes
Decodes form seal count bytes (Err InvalidRequest) = IsInvalid form seal bytes
Decodes form seal count bytes (Err SignatureDiffers) = HasWrongSignature form seal bytes
Decodes form seal count bytes (Err Memory) = ⊤
