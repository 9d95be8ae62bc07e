use Rattle.std.proofs.Common.{ap, ◌∙◌}
use Rattle.s3_pages.specs.Texts.{quoted}
use Rattle.s3_pages.proofs.Headers.{head_added}
use Rattle.s3_pages.proofs.object.add_object_page_headers.Goals as goal

pub returns : goal.returns
returns c =
    head_added c.args.head.now _ _ _ _ _ _ _ _ c.page_header_date-date.ensures (c.as_slice-2.ensures ∙ c.in_ok-etag.ensures ∙ ap quoted c.as_slice.ensures) c.as_slice-3.ensures
    c.in_ok-add_header.ensures c.in_ok-add_header-2.ensures c.in_ok-add_header-3.ensures c.in_ok-add_header-4.ensures
