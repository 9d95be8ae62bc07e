use Rattle.std.proofs.Common.{sym, ◌∙◌, ap, ◌++◌}
use Rattle.std.specs.Prelude.{flat_map}
use Rattle.std.specs.List.{slice_split, before_first}
use Rattle.chunked.specs.Encoding.{is_comma, kept_piece}
use Rattle.chunked.proofs.Commas.{pieces_more, pieces_last}
use Rattle.chunked.proofs.encoding.kept_encodings.Goals as goal

pub pieces-preserved : goal.pieces-preserved
pieces-preserved c =
    ap (λ k. k ++ flat_map kept_piece (slice_split is_comma c.cut.result.1.now)) (c.in_ok-keep_encoding.ensures ∙ ap (λ p. c.pieces.kept ++ kept_piece p) c.cut.ensures.before)
    ∙ ap (λ r. (c.pieces.kept ++ kept_piece (before_first is_comma c.pieces.rest.now)) ++ flat_map kept_piece (slice_split is_comma r)) c.cut.ensures.behind
    ∙ pieces_more c.pieces.kept c.pieces.rest.now (sym c.has_encoding_comma.ensures ∙ c.pieces-test.true)
    ∙ c.pieces.invariant

pub returns : goal.returns
returns c =
    c.in_ok-keep_encoding-2.ensures ∙ pieces_last c.pieces.kept c.pieces.rest.now (sym c.has_encoding_comma.ensures ∙ c.pieces-test.false) ∙ c.pieces.invariant
