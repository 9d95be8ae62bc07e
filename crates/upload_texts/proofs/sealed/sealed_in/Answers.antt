use Rattle.std.proofs.Common.{◌≡◌, true, List, map, ap, subst, ◌∙◌}
use Rattle.std.specs.List.{list_all}
use Rattle.serde_json.specs.Data.{Data}
use Rattle.serde_json.specs.View.{view}
use Rattle.s3_names.specs.Meta.{names_ascend}
use Rattle.s3_machine.specs.Uploads.{id_value}
use Rattle.upload_texts.specs.Places.{pair_in}
use Rattle.upload_texts.specs.Sealed.{part_fits_sealed_text, part_in, sealed_in}
use Rattle.upload_texts.proofs.Limits.{sealed_meta, sealed_parts}
use Rattle.upload_texts.proofs.sealed.sealed_in.Goals as goal

pub returns : goal.returns
returns c = λ has.
    let s = sealed_in (view c.args.value.now) in
    let id = c.sealed_id_or_zero-id.ensures ∙ ap id_value (c.as_bytes.ensures.value ∙ c.record_field_text-digits.ensures) in
    let meta = subst (λ (ds : List Data). names_ascend (map pair_in ds) ≡ true → c.in_ok-meta.meta ≡ map pair_in ds) c.record_field_list-pairs.ensures c.in_ok-meta.ensures (sealed_meta s has) in
    let list = subst (λ (ds : List Data). list_all part_fits_sealed_text (map part_in ds) ≡ true → c.in_ok-list.list ≡ map part_in ds) c.record_field_list-parts.ensures c.in_ok-list.ensures (sealed_parts s has) in
    λ i. record {
      bucket = c.in_ok-bucket.ensures i;
      key = c.in_ok-key.ensures i;
      id = id i;
      content_type = c.in_ok-content_type.ensures i;
      meta = meta i;
      list = list i;
      etag = c.in_ok-etag.ensures i;
      started = c.record_field_number-started.ensures i;
      moment = c.record_field_number-moment.ensures i;
    }
