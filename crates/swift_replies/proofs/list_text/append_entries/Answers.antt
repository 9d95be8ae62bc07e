use Rattle.std.proofs.Common.{map, ap, arith, ◌∙◌}
use Rattle.std.proofs.lemmas.List.{take_all}
use Rattle.serde_json.specs.View.{view}
use Rattle.swift_replies.proofs.list_text.append_entries.Goals as goal

pub loop-item-init : goal.loop-item-init
loop-item-init g c = ap (map view) c.requires.empty

pub returns : goal.returns
returns g c =
    c.loop-item.invariant ∙ ap (map g.T.Listed.written) (take_all c.loop-item.item-index c.args.items.now (omega (arith, c.loop-item-test.false)))
