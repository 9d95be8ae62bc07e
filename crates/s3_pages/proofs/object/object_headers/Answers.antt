use Rattle.std.proofs.Common.{[], ◌∷◌, ◌++◌, codes, ◌∙◌}
use Rattle.s3_pages.specs.Pages.{header, parts_headers, range_headers}
use Rattle.s3_pages.proofs.Headers.{object_added}
use Rattle.s3_pages.proofs.object.object_headers.Goals as goal

pub returns : goal.returns
returns c =
    let object = c.args.object.now in
    let range = range_headers object.partial object.from object.length object.head.size in
    let parts = parts_headers object.parts in
    object_added c.in_ok-first.first c.in_ok-own.own range parts (header (codes "Content-Length") c.as_slice.result.now ∷ []) _ _ _ _
    c.in_ok-headers.ensures c.in_ok-add_range_page_header.ensures c.in_ok-add_parts_header.ensures c.in_ok-add_header.ensures
    ∙ (λ i. c.in_ok-first.ensures i ++ c.in_ok-own.ensures i ++ range ++ parts ++ header (codes "Content-Length") ((c.as_slice.ensures ∙ c.in_ok-number.ensures) i) ∷ [])
