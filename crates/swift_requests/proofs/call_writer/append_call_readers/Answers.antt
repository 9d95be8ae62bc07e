use Rattle.std.proofs.Common.{◌++◌, ap, ◌∙◌}
use Rattle.std.specs.Prelude.{codes}
use Rattle.http1.specs.Head.{print_header}
use Rattle.swift_requests.proofs.TextLemmas.{on_ok}
use Rattle.swift_requests.proofs.call_writer.append_call_readers.Goals as goal

pub returns : goal.returns
returns c =
    on_ok c.append_swift_header.result _ _
    (λ e. e ∙ ap (λ value. c.args.text.now ++ print_header (codes "X-Container-Read", value)) c.readers_text.ensures) c.append_swift_header.ensures
