use Rattle.s3_bodies.proofs.PartLemmas.{start_reads}
use Rattle.s3_bodies.proofs.part.completion_xml_part_start.Goals as goal

pub returns : goal.returns
returns c = start_reads c.args.bytes.now _ _ c.skip_space.ensures.1 _ c.read_word_form.ensures
