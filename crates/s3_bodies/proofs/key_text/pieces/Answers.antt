use Rattle.s3_bodies.proofs.Pieces.{piece_shorter}
use Rattle.s3_bodies.proofs.KeyTexts.{pieces_more, pieces_none}
use Rattle.s3_bodies.proofs.key_text.pieces.Goals as goal

pub pieces-preserved : goal.pieces-preserved
pieces-preserved c = λ last left s. c.pieces.invariant last left (pieces_more _ _ last _ left c.in-Ok.ensures s)

pub pieces-smaller : goal.pieces-smaller
pieces-smaller c = piece_shorter _ _ _ c.in-Ok.ensures

pub returns-in-Err : goal.returns-in-Err
returns-in-Err c = c.pieces.invariant _ _ (pieces_none _ _ c.in-Err.ensures)
