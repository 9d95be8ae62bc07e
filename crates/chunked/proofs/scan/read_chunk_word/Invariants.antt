use Rattle.std.proofs.Common.{◌≡◌, drop}
use Rattle.chunked.specs.Reading.{word_at}
use Rattle.chunked.proofs.scan.read_chunk_word.Given as goal

abbrev pub invariant-bytes : goal.invariant-bytes
invariant-bytes l = word_at (drop l.expected-index l.word) l.rest ≡ word_at l.word l.bytes
