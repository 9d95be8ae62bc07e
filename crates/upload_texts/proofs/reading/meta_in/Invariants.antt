use Rattle.upload_texts.proofs.Lists.{ReadsPairs}
use Rattle.upload_texts.proofs.reading.meta_in.Given as goal

abbrev pub invariant-loop-value : goal.invariant-loop-value
invariant-loop-value l = ReadsPairs l.values l.value-index l.meta
