use Rattle.std.proofs.Common.{◌++◌, ap, sym, ◌∙◌}
use Rattle.http1.specs.Head.{print_headers}
use Rattle.swift_requests.specs.CallText.{content_fields, fresh_fields}
use Rattle.swift_requests.proofs.TextLemmas.{on_ok, print_headers-append, two_parts}
use Rattle.swift_requests.proofs.call_writer.append_put_object_fields.Goals as goal

pub returns : goal.returns
returns c =
    let content = content_fields c.args.put.now.content_type c.args.put.now.meta in
    let fresh = fresh_fields c.args.put.now.fresh in
    on_ok c.append_fresh_field.result _ _
    (λ e. two_parts c.args.text.now c.append_call_content.new.text c.append_fresh_field.new.text (print_headers content) (print_headers fresh)
    c.in_ok-append_call_content.ensures e
    ∙ ap (λ t. c.args.text.now ++ t) (sym (print_headers-append content fresh)))
    c.append_fresh_field.ensures
