use Rattle.std.proofs.Common.{◌∙◌}
use Rattle.upload_texts.proofs.Lists.{meta_more}
use Rattle.upload_texts.proofs.reading.meta_in.Goals as goal

pub loop-value-preserved : goal.loop-value-preserved
loop-value-preserved c =
    meta_more c.args.values.now c.loop-value.value-index c.value-item.result c.loop-value.meta c.add.new.self c.in_ok-add.field-0 _ _ c.loop-value.invariant c.loop-value-test.true c.value-item.is
    (c.as_bytes.ensures.value ∙ c.record_item_text-name.ensures) (c.as_bytes-in-loop-value.ensures.value ∙ c.record_item_text-text.ensures) c.in_ok-add.ensures.answer c.in_ok-add.ensures.ok
