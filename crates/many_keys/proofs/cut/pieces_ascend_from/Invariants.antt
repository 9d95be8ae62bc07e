use Rattle.std.proofs.Common.{◌≡◌, drop}
use Rattle.many_keys.specs.CopiedLists.{pieces_ascend_from}
use Rattle.many_keys.proofs.cut.pieces_ascend_from.Given as goal

abbrev pub invariant-loop-piece : goal.invariant-loop-piece
invariant-loop-piece l = pieces_ascend_from l.above l.cut ≡ pieces_ascend_from l.last (drop l.piece-index l.cut)
