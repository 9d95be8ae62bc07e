use Rattle.xml_forms.proofs.lemmas.Readers.{spaced_reads}
use Rattle.s3_bodies.specs.Delete.{Key}
use Rattle.s3_bodies.proofs.ObjectLemmas.{key_opens}
use Rattle.s3_bodies.proofs.objects.delete_xml_spaced_key.Goals as goal

pub returns : goal.returns
returns c = spaced_reads Key key_opens c.args.bytes.now _ _ c.skip_space.ensures.1 _ c.delete_xml_key.ensures
