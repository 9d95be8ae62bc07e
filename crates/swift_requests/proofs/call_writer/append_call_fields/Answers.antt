use Rattle.std.proofs.Common.{◌++◌, length, ap, ◌∙◌}
use Rattle.std.specs.Prelude.{codes, decimal}
use Rattle.http1.specs.Head.{print_header, print_headers}
use Rattle.swift_requests.specs.CallText.{newest_fields, own_fields, body_of}
use Rattle.swift_requests.proofs.TextLemmas.{on_ok, four_parts, last_header}
use Rattle.swift_requests.proofs.call_writer.append_call_fields.Goals as goal

pub returns : goal.returns
returns c =
    on_ok c.append_swift_number_header.result _ _
    (λ e. four_parts c.args.text.now c.append_swift_header.new.text c.append_swift_header-2.new.text c.append_asked_call_fields.new.text c.append_swift_number_header.new.text
    (print_header (codes "Host", c.args.place.now.host)) (print_header (codes "X-Auth-Token", c.args.place.now.token))
    (print_headers (newest_fields c.args.newest ++ own_fields c.args.call.now)) (print_header (codes "Content-Length", decimal (length (body_of c.args.call.now)))) _
    (c.in_ok-append_swift_header.ensures ∙ ap (λ value. c.args.text.now ++ print_header (codes "Host", value)) c.as_slice.ensures)
    (c.in_ok-append_swift_header-2.ensures ∙ ap (λ value. c.append_swift_header.new.text ++ print_header (codes "X-Auth-Token", value)) c.as_slice-2.ensures)
    c.in_ok-append_asked_call_fields.ensures
    (e ∙ ap (λ size. c.append_asked_call_fields.new.text ++ print_header (codes "Content-Length", decimal size)) c.requires)
    (last_header (newest_fields c.args.newest ++ own_fields c.args.call.now) (codes "Content-Length", decimal (length (body_of c.args.call.now)))))
    c.append_swift_number_header.ensures
