use Rattle.std.proofs.Common.{codes}
use Rattle.s3_pages.specs.Bodies.{next_part_element_number, number_element, parts_asked, truth_element, where_true}
use Rattle.s3_pages.proofs.Pieces.{on_ok, four_pieces}
use Rattle.s3_pages.proofs.xml.Xml.parts_asked.Goals as goal

pub returns : goal.returns
unfolding parts_asked
returns c =
    let next = where_true c.args.truncated (number_element (codes "NextPartNumberMarker") (next_part_element_number c.args.items.now)) in
    on_ok c.truth.result
    (λ e. four_pieces c.args.self.now.text (number_element (codes "PartNumberMarker") c.args.marker) next (number_element (codes "MaxParts") c.args.max)
    (truth_element (codes "IsTruncated") c.args.truncated) _ _ _ _ c.in_ok-count.ensures c.in_ok-next_part_element_number.ensures c.in_ok-count-2.ensures e)
    c.truth.ensures
