use Rattle.std.proofs.Common.{◌++◌, ap, sym, ◌∙◌}
use Rattle.http1.specs.Head.{print_headers}
use Rattle.swift_requests.specs.CallText.{newest_fields, own_fields}
use Rattle.swift_requests.proofs.TextLemmas.{on_ok, print_headers-append, two_parts}
use Rattle.swift_requests.proofs.call_writer.append_asked_call_fields.Goals as goal

pub returns : goal.returns
returns c =
    on_ok c.append_own_call_fields.result _ _
    (λ e. two_parts c.args.text.now c.append_newest_field.new.text c.append_own_call_fields.new.text (print_headers (newest_fields c.args.newest))
    (print_headers (own_fields c.args.call.now)) c.in_ok-append_newest_field.ensures e
    ∙ ap (λ t. c.args.text.now ++ t) (sym (print_headers-append (newest_fields c.args.newest) (own_fields c.args.call.now))))
    c.append_own_call_fields.ensures
