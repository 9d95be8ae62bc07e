use Rattle.upload_texts.specs.Places.{listed_in}
use Rattle.upload_texts.specs.Records.{part_fits_record_text}
use Rattle.upload_texts.proofs.Lists.{ReadsEach}
use Rattle.upload_texts.proofs.reading.listed_in.Given as goal

abbrev pub invariant-loop-value : goal.invariant-loop-value
invariant-loop-value l = ReadsEach part_fits_record_text listed_in l.values l.value-index l.list
