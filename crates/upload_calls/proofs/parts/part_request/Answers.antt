use Rattle.std.proofs.Common.{◌<◌, ◌^◌, ap, sym, subst, ◌∙◌}
use Rattle.s3_names.specs.Id.{id_digits}
use Rattle.swift_calls.specs.Step.{Fit}
use Rattle.swift_calls.specs.Files.{PutObject}
use Rattle.swift_marks.specs.Tag.{tag_text}
use Rattle.upload_records.specs.Layout.{segment_name, segments_name}
use Rattle.upload_calls.specs.Interpret.{part_tag}
use Rattle.upload_calls.proofs.PartCalls.{part_fits, part_has_text}
use Rattle.upload_calls.proofs.parts.part_request.Goals as goal

pub part_tag_text-requires : goal.part_tag_text-requires
part_tag_text-requires c =
    part_has_text c.args.etag.now c.args.body c.args.place.now.label.moment c.args.place.now.id c.requires.etag c.args.place.now.label.timed (subst (λ n. n < 2 ^ 128) c.upload_id.ensures c.upload_id.type_inv)

pub returns-clause-fits : goal.returns-clause-fits
returns-clause-fits c =
    let contained = c.in_ok-container.ensures ∙ ap segments_name c.bytes.ensures.value in
    let named = c.in_ok-name.ensures ∙ ap (segment_name (id_digits c.args.place.now.id)) c.get.ensures.value in
    let typed = c.in_ok-content_type.ensures ∙ ap (λ etag. tag_text (part_tag etag c.args.place.now.label.moment c.args.place.now.id)) c.requires.etag in
    subst Fit (λ i. PutObject (sym contained i) (sym named i) (sym typed i) (sym c.new.ensures i) c.args.body)
    (part_fits c.args.place.now.bucket c.args.place.now.id c.args.place.now.number c.args.body c.args.place.now.label.moment c.bytes.ensures.fit c.get.ensures.fit c.requires.sized c.args.place.now.label.timed (subst (λ n. n < 2 ^ 128) c.upload_id.ensures c.upload_id.type_inv))
