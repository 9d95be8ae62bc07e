use Rattle.xml_forms.proofs.lemmas.Readers.{nearer_than}
use Rattle.s3_bodies.specs.Completion.{PartLast}
use Rattle.s3_bodies.specs.PartReaders.{part_of}
use Rattle.s3_bodies.proofs.PartLemmas.{last_reads}
use Rattle.s3_bodies.proofs.part.completion_xml_part_last.Goals as goal

pub returns : goal.returns
returns c = nearer_than part_of (PartLast (c.args.number, c.args.etag.now)) c.args.bytes.now _ _ _ c.nearer.ensures (last_reads (c.args.number, c.args.etag.now) c.args.bytes.now _ _ c.checksums-left.ensures _ c.completion_xml_part_end.ensures)
