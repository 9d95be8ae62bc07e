use Rattle.xml_forms.proofs.lemmas.Readers.{spaced_reads}
use Rattle.s3_bodies.specs.Completion.{Number}
use Rattle.s3_bodies.proofs.ElementLemmas.{number_opens}
use Rattle.s3_bodies.proofs.elements.completion_xml_number.Goals as goal

pub returns : goal.returns
returns c = spaced_reads Number number_opens c.args.bytes.now _ _ c.skip_space.ensures.1 _ c.completion_xml_bare_number.ensures
