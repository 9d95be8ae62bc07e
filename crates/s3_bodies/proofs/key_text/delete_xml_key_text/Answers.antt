use Rattle.s3_bodies.proofs.KeyTexts.{key_text_begins, key_text_stops}
use Rattle.s3_bodies.proofs.key_text.delete_xml_key_text.Goals as goal

pub returns-in-Ok : goal.returns-in-Ok
returns-in-Ok c = key_text_begins c.args.bytes.now _ _ _ c.pieces-left.ensures c.in-Ok.ensures

pub returns-in-Err : goal.returns-in-Err
returns-in-Err c = rw c.min.ensures (key_text_stops c.args.bytes.now _ _ _ c.pieces-left.ensures c.in-Err.ensures)
