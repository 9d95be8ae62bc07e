use Rattle.std.proofs.Common.{ℕ, ◌<◌, ◌^◌, sym, subst, ◌∙◌}
use Rattle.serde_json.specs.View.{view}
use Rattle.upload_texts.specs.Sealed.{part_in}
use Rattle.upload_texts.proofs.Lists.{sealed_number}
use Rattle.upload_texts.proofs.reading.sealed_part_in_json.Goals as goal

pub returns : goal.returns
returns c = λ kept.
    let fits = subst (λ (n : ℕ). n < 2 ^ 32) (sym c.record_item_number.ensures) (sealed_number (part_in (view c.args.value.now)) kept) in
    let number = c.record_number_or_zero.ensures fits ∙ c.record_item_number.ensures in
    let etag = c.in_ok-from_slice.ensures ∙ c.as_bytes.ensures.value ∙ c.record_item_text.ensures in
    λ i. record { number = number i; etag = etag i; size = c.record_item_number-2.ensures i }
