use Rattle.s3_bodies.specs.DeleteReaders.{texts_of}
use Rattle.s3_bodies.proofs.CompletionLemmas.{none_is}
use Rattle.s3_bodies.proofs.DeleteLemmas.{closed_at, delete_breaks, deleted}
use Rattle.s3_bodies.proofs.delete.key_texts_in_delete_xml.Goals as goal

pub returns-in-Err : goal.returns-in-Err
returns-in-Err c = rw c.request_xml_fault.ensures (delete_breaks c.args.bytes.now _ c.in-Err.ensures).1

pub returns-in-Ok-request_xml_closing : goal.returns-in-Ok-request_xml_closing
returns-in-Ok-request_xml_closing c = deleted c.args.bytes.now _ _ c.in-Ok.ensures c.is_empty.result (texts_of c.in_ok-texts.texts, c.in_ok-texts.quiet) _ _
    (none_is (λ text. text.now) _ _ c.is_empty.ensures) c.in_ok-texts.ensures c.in-Ok-request_xml_closing.ensures

pub request_xml_fault-requires-in-Err-request_xml_closing : goal.request_xml_fault-requires-in-Err-request_xml_closing
request_xml_fault-requires-in-Err-request_xml_closing c = (closed_at c.args.bytes.now _ _ c.in-Ok.ensures c.is_empty.result (texts_of c.in_ok-texts.texts, c.in_ok-texts.quiet) _ _
    (none_is (λ text. text.now) _ _ c.is_empty.ensures) c.in_ok-texts.ensures _ c.in-Err-request_xml_closing.ensures).0

pub returns : goal.returns
returns c = rw c.request_xml_fault-in-Err-request_xml_closing.ensures (closed_at c.args.bytes.now _ _ c.in-Ok.ensures c.is_empty.result (texts_of c.in_ok-texts.texts, c.in_ok-texts.quiet) _ _
    (none_is (λ text. text.now) _ _ c.is_empty.ensures) c.in_ok-texts.ensures _ c.in-Err-request_xml_closing.ensures).1
