use Rattle.s3_bodies.proofs.RootEnds.{word_reads}
use Rattle.s3_bodies.proofs.objects.delete_xml_start.Goals as goal

pub returns : goal.returns
returns c = word_reads c.args.tag.now c.requires c.args.bytes.now _ _ c.skip_space.ensures.1 _ c.read_word_form.ensures
