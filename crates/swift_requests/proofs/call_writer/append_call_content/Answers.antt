use Rattle.std.proofs.Common.{◌++◌, ap, ◌∙◌}
use Rattle.std.specs.Prelude.{codes}
use Rattle.http1.specs.Head.{print_header, print_headers}
use Rattle.swift_replies.specs.AnswerText.{meta_fields}
use Rattle.swift_requests.proofs.TextLemmas.{on_ok, two_parts}
use Rattle.swift_requests.proofs.call_writer.append_call_content.Goals as goal

pub returns : goal.returns
returns c =
    on_ok c.append_swift_meta.result _ _
    (λ e. two_parts c.args.text.now c.append_swift_header.new.text c.append_swift_meta.new.text (print_header (codes "Content-Type", c.args.content_type.now))
    (print_headers (meta_fields 0 c.args.meta.now))
    (c.in_ok-append_swift_header.ensures ∙ ap (λ value. c.args.text.now ++ print_header (codes "Content-Type", value)) c.as_slice.ensures)
    (e ∙ ap (λ pieces. c.append_swift_header.new.text ++ print_headers (meta_fields 0 pieces)) c.as_slice-2.ensures))
    c.append_swift_meta.ensures
