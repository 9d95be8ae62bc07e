use Rattle.std.proofs.Common.{ℕ, List, codes, ap, ◌∙◌}
use Rattle.std.specs.List.{flat_map}
use Rattle.s3_machine.specs.declared.items.BucketItem.{BucketItem}
use Rattle.s3_pages.specs.Bodies.{bucket_element, buckets_body, buckets_prefix, next_buckets, owner}
use Rattle.s3_pages.specs.Xml.{declaration, end_of, root}
use Rattle.s3_pages.proofs.Pieces.{nine_pieces}
use Rattle.s3_pages.proofs.buckets.buckets_body.Goals as goal

pub returns : goal.returns
unfolding buckets_body
returns c =
    let listed = c.args.listed.now in
    let items = c.as_slice-items.result.now in
    let prefix = c.as_slice.result.now in
    nine_pieces declaration (root (codes "ListAllMyBucketsResult")) owner (codes "<Buckets>") (flat_map bucket_element items) (codes "</Buckets>") (next_buckets listed.truncated items)
    (buckets_prefix prefix) (end_of (codes "ListAllMyBucketsResult")) _ _ _ _ _ _ _ _ _
    c.in_ok-xml.ensures c.in_ok-root.ensures c.in_ok-owner.ensures c.in_ok-tags.ensures c.in_ok-buckets.ensures c.in_ok-tags-2.ensures c.in_ok-next_buckets.ensures
    c.in_ok-buckets_prefix.ensures c.in_ok-end.ensures
    ∙ ap (λ (list : List BucketItem). buckets_body (record listed { items = list; asked = record (listed.asked) { prefix = prefix } })) c.as_slice-items.ensures
    ∙ ap (λ (text : List ℕ). buckets_body (record listed { asked = record (listed.asked) { prefix = text } })) c.as_slice.ensures
