use Rattle.xml_forms.proofs.lemmas.Readers.{nearer_than}
use Rattle.s3_bodies.specs.Completion.{Checksums, EtagThen}
use Rattle.s3_bodies.specs.PartReaders.{part_of}
use Rattle.s3_bodies.proofs.PartLemmas.{etag_last_reads}
use Rattle.s3_bodies.proofs.part.completion_xml_etag_last.Goals as goal

pub returns : goal.returns
returns c = nearer_than part_of (Checksums (EtagThen c.args.number)) c.args.bytes.now _ _ _ c.nearer.ensures (etag_last_reads c.args.number c.args.bytes.now _ _ c.checksums-left.ensures _ c.completion_xml_etag_then.ensures)
