use Rattle.chunked.specs.Print.{signed_sent}
use Rattle.chunked.specs.Sent.{sent_text, bytes_of, pair_of}
use Rattle.std.proofs.Common.{map}
use Rattle.chunked.proofs.Law.{chunked_reads}
use Rattle.chunked.proofs.Prints.{printed_says}
use Rattle.chunked.proofs.laws.law_printed_read.Goals as goal

pub returns : goal.returns
returns c = λ form seal sent h. chunked_reads form seal (sent_text form (signed_sent form seal sent)) (bytes_of sent.chunks) (map pair_of sent.lines) (printed_says form seal sent h)
