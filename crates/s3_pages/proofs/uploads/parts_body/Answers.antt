use Rattle.std.proofs.Common.{ℕ, List, codes, ap, ◌∙◌}
use Rattle.std.specs.List.{flat_map}
use Rattle.s3_machine.specs.declared.items.PartItem.{PartItem}
use Rattle.s3_pages.specs.Bodies.{initiator, owner, part_element, parts_asked, parts_body, storage_class, upload_place}
use Rattle.s3_pages.specs.Xml.{declaration, end_of, root}
use Rattle.s3_pages.proofs.Pieces.{nine_pieces}
use Rattle.s3_pages.proofs.uploads.parts_body.Goals as goal

pub returns : goal.returns
unfolding parts_body
returns c =
    let listed = c.args.listed.now in
    let asked = listed.asked in
    let name = c.as_slice.result.now in
    let key = c.as_slice-2.result.now in
    let items = c.as_slice-items.result.now in
    nine_pieces declaration (root (codes "ListPartsResult")) (upload_place name key listed.id) initiator owner storage_class (parts_asked asked.marker asked.max items listed.truncated)
    (flat_map part_element items) (end_of (codes "ListPartsResult")) _ _ _ _ _ _ _ _ _
    c.in_ok-xml.ensures c.in_ok-root.ensures c.in_ok-upload_place.ensures c.in_ok-initiator.ensures c.in_ok-owner.ensures c.in_ok-storage_class.ensures c.in_ok-parts_asked.ensures
    c.in_ok-parts.ensures c.in_ok-end.ensures
    ∙ ap (λ (bucket : List ℕ). parts_body bucket key listed.id asked.marker asked.max items listed.truncated) c.as_slice.ensures
    ∙ ap (λ (text : List ℕ). parts_body listed.bucket text listed.id asked.marker asked.max items listed.truncated) c.as_slice-2.ensures
    ∙ ap (λ (list : List PartItem). parts_body listed.bucket listed.key listed.id asked.marker asked.max list listed.truncated) c.as_slice-items.ensures
