use Rattle.std.proofs.Common.{codes}
use Rattle.s3_pages.specs.Bodies.{number_element, truth_element, uploads_limits, where_true}
use Rattle.s3_pages.proofs.Pieces.{on_ok, three_pieces}
use Rattle.s3_pages.proofs.xml.Xml.uploads_limits.Goals as goal

pub returns : goal.returns
unfolding uploads_limits
returns c =
    on_ok c.truth.result
    (λ e. three_pieces c.args.self.now.text (number_element (codes "MaxUploads") c.args.max) (where_true c.args.url (codes "<EncodingType>url</EncodingType>"))
    (truth_element (codes "IsTruncated") c.args.truncated) _ _ _ c.in_ok-count.ensures c.in_ok-tags_if.ensures e)
    c.truth.ensures
