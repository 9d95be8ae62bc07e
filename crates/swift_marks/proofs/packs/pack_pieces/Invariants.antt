use Rattle.std.proofs.Common.{◌≡◌, ◌++◌, length}
use Rattle.swift_marks.specs.Pack.{pieces_of}
use Rattle.swift_marks.proofs.packs.pack_pieces.Given as goal

abbrev pub invariant-cut : goal.invariant-cut
invariant-cut l = pieces_of l.text ≡ l.pieces ++ pieces_of l.rest

abbrev pub decreases-cut : goal.decreases-cut
decreases-cut l = length l.rest
