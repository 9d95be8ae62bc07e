use Rattle.chunked.proofs.Digits.{digits_short, digits_hex}
use Rattle.chunked.proofs.chunk.read_chunk_digits.Goals as goal

pub returns-clause-short : goal.returns-clause-short
returns-clause-short c = digits_short _ _ c.read_chunk_run.ensures

pub returns-clause-hex : goal.returns-clause-hex
returns-clause-hex c = digits_hex _ _ c.read_chunk_run.ensures
