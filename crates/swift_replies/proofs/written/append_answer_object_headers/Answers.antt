use Rattle.std.proofs.Common.{codes, ◌∙◌}
use Rattle.swift_replies.proofs.SentLemmas.{object_is, same_header, same_meta}
use Rattle.swift_replies.proofs.written.append_answer_object_headers.Goals as goal

pub returns : goal.returns
returns c =
    object_is c.args.text.now c.append_swift_header.new.text c.append_swift_header-2.new.text c.append_answer_manifest_flag.new.text c.append_swift_meta.new.text c.args.head.now
    (c.in_ok-append_swift_header.ensures ∙ same_header c.args.text.now (codes "Content-Type") _ _ c.as_slice.ensures)
    (c.in_ok-append_swift_header-2.ensures ∙ same_header c.append_swift_header.new.text (codes "Etag") _ _ c.as_slice-2.ensures)
    c.in_ok-append_answer_manifest_flag.ensures
    (c.in_ok-append_swift_meta.ensures ∙ same_meta c.append_answer_manifest_flag.new.text _ _ c.as_slice-3.ensures)
