use Rattle.std.proofs.Common.{map}
use Rattle.s3_bodies.specs.PartReaders.{part_of}
use Rattle.s3_bodies.proofs.CompletionLemmas.{closed_at, completed, completion_breaks, none_is}
use Rattle.s3_bodies.proofs.completion.completion_xml_parts.Goals as goal

pub returns-in-Err : goal.returns-in-Err
returns-in-Err c = rw c.request_xml_fault.ensures (completion_breaks c.args.bytes.now _ c.in-Err.ensures).1

pub returns-in-Ok-request_xml_closing : goal.returns-in-Ok-request_xml_closing
returns-in-Ok-request_xml_closing c =
    completed c.args.bytes.now _ _ c.in-Ok.ensures c.is_empty.result (map part_of c.in_ok-parts.parts) _ _ (none_is part_of _ _ c.is_empty.ensures) c.in_ok-parts.ensures c.in-Ok-request_xml_closing.ensures

pub request_xml_fault-requires-in-Err-request_xml_closing : goal.request_xml_fault-requires-in-Err-request_xml_closing
request_xml_fault-requires-in-Err-request_xml_closing c =
    (closed_at c.args.bytes.now _ _ c.in-Ok.ensures c.is_empty.result (map part_of c.in_ok-parts.parts) _ _ (none_is part_of _ _ c.is_empty.ensures) c.in_ok-parts.ensures _ c.in-Err-request_xml_closing.ensures).0

pub returns : goal.returns
returns c =
    rw c.request_xml_fault-in-Err-request_xml_closing.ensures
    (closed_at c.args.bytes.now _ _ c.in-Ok.ensures c.is_empty.result (map part_of c.in_ok-parts.parts) _ _ (none_is part_of _ _ c.is_empty.ensures) c.in_ok-parts.ensures _ c.in-Err-request_xml_closing.ensures).1
