use Rattle.std.proofs.Common.{◌∙◌}
use Rattle.upload_texts.specs.Sealed.{part_fits_sealed_text, part_in}
use Rattle.upload_texts.proofs.Lists.{each_more, each_read}
use Rattle.upload_texts.proofs.reading.sealed_parts_in_json.Goals as goal

pub loop-value-preserved : goal.loop-value-preserved
loop-value-preserved c = λ all.
    c.in_ok-push.ensures.ok
    ∙ each_more part_fits_sealed_text part_in c.args.values.now c.loop-value.value-index c.value-item.result c.loop-value.list c.in_ok-sealed_part_in_json.field-0 c.loop-value.invariant c.loop-value-test.true c.value-item.is c.in_ok-sealed_part_in_json.ensures all

pub returns : goal.returns
returns c = each_read part_fits_sealed_text part_in c.args.values.now c.loop-value.list c.loop-value.value-index c.loop-value-test.false c.loop-value.invariant
