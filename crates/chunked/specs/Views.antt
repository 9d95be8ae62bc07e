-- What readers give, as lists.
use Rattle.std.specs.Prelude.{ℕ, List}
use Rattle.std.specs.Borrow.{Bor}
use Rattle.gate_base.specs.declared.page.Pair.{Pair}
use Rattle.chunked.specs.Sent.{Chunk, Line}
use Rattle.chunked.specs.declared.chunk.ChunkParts.{ChunkParts}
use Rattle.chunked.specs.declared.line.LineParts.{LineParts}

-- the bytes behind a word
abbrev pub behind : Bor (List ℕ) → Unit {0} × List ℕ
behind rest = (tt, rest.now)

-- a text and the bytes behind it
abbrev pub texts : Bor (List ℕ) × Bor (List ℕ) → List ℕ × List ℕ
texts found = (found.0.now, found.1.now)

-- a chunk without where it lies
abbrev pub chunk_of : ChunkParts → Chunk
chunk_of parts = record { digits = parts.digits.now; signature = parts.signature.now; bytes = parts.bytes.now }

abbrev pub chunks : ChunkParts × Bor (List ℕ) → Chunk × List ℕ
chunks found = (chunk_of found.0, found.1.now)

-- a line without where it lies
abbrev pub line_of : LineParts → Line
line_of parts = record { name = parts.name.now; text = parts.text.now; feed = parts.feed.now }

abbrev pub lines : LineParts × Bor (List ℕ) → Line × List ℕ
lines found = (line_of found.0, found.1.now)

-- lines and the bytes behind them
abbrev pub trailing : List Pair × Bor (List ℕ) → List Pair × List ℕ
trailing found = (found.0, found.1.now)
