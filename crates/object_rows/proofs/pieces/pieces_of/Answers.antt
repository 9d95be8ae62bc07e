use Rattle.std.proofs.Common.{◌∙◌}
use Rattle.object_rows.proofs.PieceLemmas.{pieces_more, pieces_all, others_are_shorter, filled_where}
use Rattle.object_rows.proofs.pieces.pieces_of.Goals as goal

pub pieces-smaller : goal.pieces-smaller
pieces-smaller c = rw c.first_piece.ensures.behind (others_are_shorter _ (filled_where _ c.pieces-test.true))

pub pieces-preserved : goal.pieces-preserved
pieces-preserved c =
    pieces_more _ _ _ _ _ _ c.pieces.invariant (filled_where _ c.pieces-test.true) (c.in_ok-from_slice.ensures ∙ c.first_piece.ensures.piece) c.first_piece.ensures.behind c.in_ok-push.ensures.ok

pub returns : goal.returns
returns c = pieces_all _ _ _ c.pieces.invariant c.pieces-test.false
