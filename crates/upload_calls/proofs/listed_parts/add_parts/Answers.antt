use Rattle.std.proofs.lemmas.List.Elements.{All-push}
use Rattle.std.proofs.Common.{sym, subst}
use Rattle.std.specs.List.{All}
use Rattle.s3_machine.specs.Shown.{IsShownPart}
use Rattle.upload_calls.specs.Listing.{part_due}
use Rattle.upload_calls.proofs.lemmas.Taking.{added_more}
use Rattle.upload_calls.proofs.listed_parts.add_parts.Goals as goal

pub loop-item-preserved : goal.loop-item-preserved
loop-item-preserved c = record {
  due = added_more (part_due c.args.prefix.now) c.args.page.now c.loop-item.item-index c.item-item.result c.in_ok-part_in.field-0 c.args.parts.now c.loop-item.parts c.push.new.self c.loop-item.invariant.due
      c.in_ok-push.ensures.ok c.loop-item-test.true c.item-item.is c.in_ok-part_in.ensures.due;
  dated = λ dated. subst (All IsShownPart) (sym c.in_ok-push.ensures.ok)
      (All-push IsShownPart c.loop-item.parts c.in_ok-part_in.field-0 (c.loop-item.invariant.dated dated) c.in_ok-part_in.ensures.dated);
}
