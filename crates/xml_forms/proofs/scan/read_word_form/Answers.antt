use Rattle.std.proofs.Common.{arith}
use Rattle.xml_forms.proofs.lemmas.Words.{word_short, word_differs}
use Rattle.xml_forms.proofs.scan.read_word_form.Goals as goal

pub returns-then-i-bytes : goal.returns-then-i-bytes
returns-then-i-bytes c = word_short c.args.word.now c.args.bytes.now c.bytes.i c.bytes.invariant.1 (omega arith) (omega arith)

pub returns-then-bytes-i : goal.returns-then-bytes-i
returns-then-bytes-i c = word_differs c.args.word.now c.args.bytes.now c.bytes.i c.bytes.invariant.1 (omega arith) (omega arith) c.if-bytes-i.true
