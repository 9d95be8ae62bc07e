use Rattle.std.proofs.Common.{◌≡◌, drop}
use Rattle.std.specs.Prelude.{◌==◌}
use Rattle.many_keys.specs.CopiedLists.{size_of_cut}
use Rattle.many_keys.proofs.cut.is_size_of_copied_pieces.Given as goal

abbrev pub invariant-loop-piece : goal.invariant-loop-piece
invariant-loop-piece l = (size_of_cut l.cut == l.size) ≡ (size_of_cut (drop l.piece-index l.cut) == l.left)
