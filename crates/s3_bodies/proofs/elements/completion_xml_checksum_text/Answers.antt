use Rattle.s3_bodies.proofs.Checksums.{text_reads}
use Rattle.s3_bodies.proofs.elements.completion_xml_checksum_text.Goals as goal

pub returns : goal.returns
returns c = text_reads c.args.name.now c.args.bytes.now _ _ c.read_run_form.ensures _ c.completion_xml_checksum_end.ensures
