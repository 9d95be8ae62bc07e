use Rattle.std.proofs.Common.{rules}
use Rattle.swift_replies.proofs.PartedLemmas.{spells_none, spells_none_by_size}
use Rattle.swift_replies.proofs.parted.read_answer_behind_head.Goals as goal

pub returns-then-not-is_body_of_size : goal.returns-then-not-is_body_of_size
returns-then-not-is_body_of_size c =
    spells_none_by_size c.args.call.now c.args.head.now c.args.body c.args.found.now c.requires (search rules) (search rules)

pub returns-in-None : goal.returns-in-None
returns-in-None c =
    spells_none c.args.call.now c.args.head.now c.args.body c.args.found.now c.requires (search rules) (search rules) (search rules)
