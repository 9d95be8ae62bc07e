use Rattle.std.proofs.Common.{◌++◌, ap, sym, ◌∙◌}
use Rattle.http1.specs.Head.{print_header, print_headers}
use Rattle.swift_replies.specs.AnswerText.{created_fields}
use Rattle.swift_requests.specs.CallText.{own_fields, readers_field}
use Rattle.swift_requests.proofs.TextLemmas.{on_ok, two_parts}
use Rattle.swift_requests.proofs.call_writer.append_own_call_fields.Goals as goal

pub returns-in_ok-append_call_readers-in-PutContainer : goal.returns-in_ok-append_call_readers-in-PutContainer
returns-in_ok-append_call_readers-in-PutContainer c =
    on_ok c.append_swift_created.result _ _
    (λ e. two_parts c.args.text.now c.append_call_readers.new.text c.append_swift_created.new.text (print_header (readers_field c.in-PutContainer.readers))
    (print_headers (created_fields c.in-PutContainer.created)) c.in_ok-append_call_readers-in-PutContainer.ensures e
    ∙ ap (λ call. c.args.text.now ++ print_headers (own_fields call)) (sym c.in-PutContainer.is))
    c.append_swift_created.ensures
