use Rattle.std.proofs.Common.{◌≡◌, take}
use Rattle.std.specs.Prelude.{flat_map}
use Rattle.swift_marks.specs.Pack.{inside}
use Rattle.swift_marks.proofs.packs.pack_piece_insides.Given as goal

abbrev pub invariant-loop-piece : goal.invariant-loop-piece
invariant-loop-piece l = l.text ≡ flat_map inside (take l.piece-index l.pieces)
