use Rattle.std.proofs.Common.{ℕ, List, codes, ap, ◌∙◌}
use Rattle.std.specs.List.{flat_map}
use Rattle.s3_machine.specs.declared.items.UploadItem.{UploadItem}
use Rattle.s3_pages.specs.Bodies.{next_upload, upload_element, uploads_asked, uploads_body, uploads_limits, where_true}
use Rattle.s3_pages.specs.Xml.{declaration, end_of, root}
use Rattle.s3_pages.proofs.Pieces.{seven_pieces}
use Rattle.s3_pages.proofs.uploads.uploads_body.Goals as goal

pub returns : goal.returns
unfolding uploads_body
returns c =
    let listed = c.args.listed.now in
    let asked = listed.asked in
    let name = c.as_slice.result.now in
    let items = c.as_slice-items.result.now in
    seven_pieces declaration (root (codes "ListMultipartUploadsResult")) (uploads_asked name asked.prefix asked.key_marker asked.id_marker asked.url)
    (where_true listed.truncated (next_upload asked.url items)) (uploads_limits asked.max asked.url listed.truncated) (flat_map (upload_element asked.url) items)
    (end_of (codes "ListMultipartUploadsResult")) _ _ _ _ _ _ _
    c.in_ok-xml.ensures c.in_ok-root.ensures c.in_ok-uploads_asked.ensures c.in_ok-next_upload_markers.ensures c.in_ok-uploads_limits.ensures c.in_ok-uploads.ensures c.in_ok-end.ensures
    ∙ ap (λ (bucket : List ℕ). uploads_body bucket asked.prefix asked.key_marker asked.id_marker asked.max asked.url items listed.truncated) c.as_slice.ensures
    ∙ ap (λ (list : List UploadItem). uploads_body listed.bucket asked.prefix asked.key_marker asked.id_marker asked.max asked.url list listed.truncated) c.as_slice-items.ensures
