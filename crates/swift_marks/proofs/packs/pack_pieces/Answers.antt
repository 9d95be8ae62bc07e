use Rattle.std.proofs.Common.{◌∙◌, ap}
use Rattle.swift_marks.specs.Pack.{bracketed}
use Rattle.swift_marks.proofs.PackLemmas.{pieces_more, pieces_all, behind_is_shorter, filled_where}
use Rattle.swift_marks.proofs.packs.pack_pieces.Goals as goal

pub cut-smaller : goal.cut-smaller
cut-smaller c = rw c.cut_pack_text.ensures.behind (behind_is_shorter _ (filled_where _ c.cut-test.true))

pub cut-preserved : goal.cut-preserved
cut-preserved c =
    pieces_more _ _ _ _ _ _ c.cut.invariant (filled_where _ c.cut-test.true) (c.in_ok-bracketed.ensures ∙ ap bracketed c.cut_pack_text.ensures.front) c.cut_pack_text.ensures.behind c.in_ok-push.ensures.ok

pub returns : goal.returns
returns c = pieces_all _ _ _ c.cut.invariant c.cut-test.false
