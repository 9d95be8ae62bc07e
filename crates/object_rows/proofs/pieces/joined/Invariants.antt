use Rattle.std.proofs.Common.{◌≡◌, take}
use Rattle.std.specs.Prelude.{flat_map}
use Rattle.object_rows.specs.Pieces.{piece_text}
use Rattle.object_rows.proofs.pieces.joined.Given as goal

abbrev pub invariant-loop-piece : goal.invariant-loop-piece
invariant-loop-piece l = l.text ≡ flat_map piece_text (take l.piece-index l.pieces)
