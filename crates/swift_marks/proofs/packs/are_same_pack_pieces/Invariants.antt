use Rattle.std.proofs.Common.{◌≡◌, length, drop}
use Rattle.std.specs.Cmp.Lexicographic.{pointwise}
use Rattle.std.specs.Str.{bytes_eq}
use Rattle.swift_marks.proofs.packs.are_same_pack_pieces.Given as goal

abbrev pub invariant-loop-at : goal.invariant-loop-at
invariant-loop-at l = (length l.pieces ≡ length l.others) × (pointwise bytes_eq l.pieces l.others ≡ pointwise bytes_eq (drop l.at l.pieces) (drop l.at l.others))
