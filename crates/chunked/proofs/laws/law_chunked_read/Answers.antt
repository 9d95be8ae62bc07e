use Rattle.chunked.proofs.Law.{chunked_reads}
use Rattle.chunked.proofs.laws.law_chunked_read.Goals as goal

pub returns : goal.returns
returns c = chunked_reads
