use Rattle.std.proofs.Common.{◌∙◌}
use Rattle.s3_pages.proofs.Headers.{range_added}
use Rattle.s3_pages.proofs.object.add_range_page_header.Goals as goal

pub returns : goal.returns
returns c = range_added c.args.partial _ _ _ _ _ _ c.if-not-partial.false (c.as_slice.ensures ∙ c.in_ok-range.ensures) c.in_ok-add_header.ensures
