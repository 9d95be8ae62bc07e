use Rattle.std.proofs.Common.{sym, ap, ◌∙◌}
use Rattle.s3_names.specs.Id.{id_of}
use Rattle.upload_calls.specs.Listing.{id_due}
use Rattle.upload_calls.proofs.lemmas.Taking.{added_more}
use Rattle.upload_calls.proofs.listed_ids.add_ids.Goals as goal

pub loop-item-preserved : goal.loop-item-preserved
loop-item-preserved c = added_more id_due c.args.page.now c.loop-item.item-index c.item-item.result c.in-Some.id c.args.ids.now c.loop-item.ids c.push.new.self c.loop-item.invariant c.in_ok-push.ensures.ok c.loop-item-test.true c.item-item.is (ap id_of (sym c.as_slice.ensures) ∙ sym c.read_id_digits.ensures ∙ c.in-Some.is)
