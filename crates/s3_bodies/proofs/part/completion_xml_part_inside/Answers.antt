use Rattle.xml_forms.proofs.lemmas.Readers.{nearer_by, nearer_than}
use Rattle.s3_bodies.specs.Completion.{EtagFirst, NumberFirst, PartInside}
use Rattle.s3_bodies.specs.PartReaders.{part_of}
use Rattle.s3_bodies.proofs.PartLemmas.{inside_reads}
use Rattle.s3_bodies.proofs.part.completion_xml_part_inside.Goals as goal

pub returns : goal.returns
returns c =
    nearer_than part_of PartInside c.args.bytes.now _ _ _ c.nearer.ensures
    (inside_reads c.args.bytes.now _ _ c.checksums-left.ensures _ (nearer_by part_of NumberFirst EtagFirst _ _ _ _ c.nearer-either.ensures c.completion_xml_number_first.ensures c.completion_xml_etag_first.ensures))
