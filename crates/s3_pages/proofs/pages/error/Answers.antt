use Rattle.std.proofs.Common.{codes, ◌++◌, ◌∙◌}
use Rattle.s3_pages.specs.Xml.{declaration, element, error_body, error_details}
use Rattle.s3_pages.proofs.Pieces.{eight_pieces}
use Rattle.s3_pages.proofs.pages.error.Goals as goal

pub returns : goal.returns
unfolding error_body
returns c =
    let details = error_details c.args.context.now.extended c.args.code in
    eight_pieces declaration (codes "<Error>") (element (codes "Code") c.name.result.now) (element (codes "Message") c.message.result.now) details
    (element (codes "Resource") c.as_slice.result.now) (element (codes "RequestId") c.id_digits.result) (codes "</Error>") _ _ _ _ _ _ _ _
    c.in_ok-xml.ensures c.in_ok-tags.ensures c.in_ok-element.ensures c.in_ok-element-2.ensures c.in_ok-error_details.ensures c.in_ok-element-3.ensures c.in_ok-element-4.ensures c.in_ok-tags-2.ensures
    ∙ (λ i. declaration ++ codes "<Error>" ++ element (codes "Code") (c.name.ensures i) ++ element (codes "Message") (c.message.ensures i) ++ details
    ++ element (codes "Resource") (c.as_slice.ensures i) ++ element (codes "RequestId") (c.id_digits.ensures i) ++ codes "</Error>")
