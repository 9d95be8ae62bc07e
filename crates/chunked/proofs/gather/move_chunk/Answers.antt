use Rattle.chunked.proofs.Moves.{moved_front, moved_behind}
use Rattle.chunked.proofs.gather.move_chunk.Goals as goal

pub returns-clause-front : goal.returns-clause-front
returns-clause-front c = moved_front _ _ c.args.from c.args.count c.args.to c.requires.within c.requires.left c.copy_within.ensures.items

pub returns-clause-behind : goal.returns-clause-behind
returns-clause-behind c = moved_behind _ _ c.args.from c.args.count c.args.to c.requires.within c.requires.left c.copy_within.ensures.items
