use Rattle.std.proofs.Common.{◌++◌, ap, codes, sym, ◌∙◌}
use Rattle.std.specs.Prelude.{decimal}
use Rattle.http1.specs.Head.{print_headers}
use Rattle.swift_replies.specs.AnswerText.{Field, created_fields}
use Rattle.swift_replies.proofs.SentLemmas.{one_header}
use Rattle.swift_replies.proofs.header_text.append_swift_created.Goals as goal

pub returns-in_ok-append_swift_number_header-in-Some : goal.returns-in_ok-append_swift_number_header-in-Some
returns-in_ok-append_swift_number_header-in-Some c =
    let field : Field = (codes "X-Container-Meta-S3-Created", decimal c.in-Some.moment) in
    c.in_ok-append_swift_number_header-in-Some.ensures ∙ one_header c.args.text.now field ∙ ap (λ v. c.args.text.now ++ print_headers (created_fields v)) (sym c.in-Some.is)
