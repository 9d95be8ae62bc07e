use Rattle.std.proofs.Common.{codes}
use Rattle.s3_pages.specs.Bodies.{common_prefix, text_element}
use Rattle.s3_pages.proofs.Pieces.{on_ok, three_pieces}
use Rattle.s3_pages.proofs.xml.Xml.common_prefix.Goals as goal

pub returns : goal.returns
unfolding common_prefix
returns c =
    on_ok c.tags-2.result
    (λ e. three_pieces c.args.self.now.text (codes "<CommonPrefixes>") (text_element c.args.asked.now.url (codes "Prefix") c.args.text.now) (codes "</CommonPrefixes>") _ _ _
    c.in_ok-tags.ensures c.in_ok-shown.ensures e)
    c.tags-2.ensures
