use Rattle.xml_forms.proofs.lemmas.Readers.{spaced_reads}
use Rattle.s3_bodies.specs.Completion.{Etag}
use Rattle.s3_bodies.proofs.ElementLemmas.{etag_opens}
use Rattle.s3_bodies.proofs.elements.completion_xml_etag.Goals as goal

pub returns : goal.returns
returns c = spaced_reads Etag etag_opens c.args.bytes.now _ _ c.skip_space.ensures.1 _ c.completion_xml_etag_element.ensures
