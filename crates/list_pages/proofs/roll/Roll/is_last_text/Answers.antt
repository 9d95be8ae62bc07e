use Rattle.std.proofs.Common.{ap, sym, ◌∙◌}
use Rattle.s3_machine.specs.declared.items.Item.{Item}
use Rattle.list_pages.specs.Rolls.{Rolls}
use Rattle.list_pages.proofs.Ends.{last_is}
use Rattle.list_pages.proofs.roll.Roll.is_last_text.Goals as goal

pub returns : goal.returns
returns c = c.eq.ensures ∙ last_is c.args.text.now c.as_slice.result.now c.as_slice-items.result.now c.args.self.now.items c.index-items-items.result (c.as_slice-items.ensures ∙ ap (λ (s : Rolls). s.items) c.self.view_is) (c.as_slice.ensures ∙ ap (λ (i : Item). i.text) (sym c.index-items-items.is)) (sym c.is_empty.ensures ∙ c.if-is_empty.false) c.index-items-items.is
