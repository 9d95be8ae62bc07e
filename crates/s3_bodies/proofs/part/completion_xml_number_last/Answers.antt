use Rattle.xml_forms.proofs.lemmas.Readers.{nearer_than}
use Rattle.s3_bodies.specs.Completion.{Checksums, NumberThen}
use Rattle.s3_bodies.specs.PartReaders.{part_of}
use Rattle.s3_bodies.proofs.PartLemmas.{number_last_reads}
use Rattle.s3_bodies.proofs.part.completion_xml_number_last.Goals as goal

pub returns : goal.returns
returns c = nearer_than part_of (Checksums (NumberThen c.args.etag.now)) c.args.bytes.now _ _ _ c.nearer.ensures (number_last_reads c.args.etag.now c.args.bytes.now _ _ c.checksums-left.ensures _ c.completion_xml_number_then.ensures)
