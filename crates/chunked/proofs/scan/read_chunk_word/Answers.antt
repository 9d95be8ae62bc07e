use Rattle.std.proofs.Common.{sym, ◌∙◌}
use Rattle.chunked.proofs.Loops.{word_missing}
use Rattle.chunked.proofs.scan.read_chunk_word.Goals as goal

pub returns-in_default : goal.returns-in_default
returns-in_default c =
    sym c.bytes.invariant ∙ word_missing c.args.word.now c.bytes.rest.now c.bytes.expected-index c.bytes-test.true c.in_default.len_below
