use Rattle.xml_forms.proofs.lemmas.Readers.{spaced_reads}
use Rattle.s3_bodies.specs.Completion.{Checksum}
use Rattle.s3_bodies.proofs.Checksums.{checksum_opens}
use Rattle.s3_bodies.proofs.elements.completion_xml_checksum.Goals as goal

pub returns : goal.returns
returns c = spaced_reads Checksum checksum_opens c.args.bytes.now _ _ c.skip_space.ensures.1 _ c.completion_xml_checksum_element.ensures
