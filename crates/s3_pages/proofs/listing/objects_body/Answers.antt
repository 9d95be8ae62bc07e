use Rattle.std.proofs.Common.{ℕ, List, codes, ap, ◌∙◌}
use Rattle.std.specs.List.{flat_map}
use Rattle.s3_machine.specs.declared.items.Item.{Item}
use Rattle.s3_pages.specs.Bodies.{by_version, contents_of, is_version_2_page, objects_body, prefix_of}
use Rattle.s3_pages.specs.Xml.{declaration, element, end_of, root}
use Rattle.s3_pages.proofs.Pieces.{seven_pieces}
use Rattle.s3_pages.proofs.listing.objects_body.Goals as goal

pub returns : goal.returns
unfolding objects_body
returns c =
    let listed = c.args.listed.now in
    let name = c.as_slice.result.now in
    let items = c.as_slice-items.result.now in
    seven_pieces declaration (root (codes "ListBucketResult")) (element (codes "Name") name) (by_version (is_version_2_page listed.asked) listed.asked items listed.truncated)
    (flat_map (contents_of listed.asked) items) (flat_map (prefix_of listed.asked) items) (end_of (codes "ListBucketResult")) _ _ _ _ _ _ _
    c.in_ok-xml.ensures c.in_ok-root.ensures c.in_ok-element.ensures c.in_ok-asked.ensures c.in_ok-contents.ensures c.in_ok-prefixes.ensures c.in_ok-end.ensures
    ∙ ap (λ (bucket : List ℕ). objects_body bucket listed.asked items listed.truncated) c.as_slice.ensures
    ∙ ap (λ (list : List Item). objects_body listed.bucket listed.asked list listed.truncated) c.as_slice-items.ensures
