use Rattle.upload_texts.specs.Sealed.{part_fits_sealed_text, part_in}
use Rattle.upload_texts.proofs.Lists.{ReadsEach}
use Rattle.upload_texts.proofs.reading.sealed_parts_in_json.Given as goal

abbrev pub invariant-loop-value : goal.invariant-loop-value
invariant-loop-value l = ReadsEach part_fits_sealed_text part_in l.values l.value-index l.list
