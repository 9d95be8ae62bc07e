use Rattle.std.proofs.Common.{◌++◌, ap, arith, ◌∙◌}
use Rattle.std.proofs.lemmas.List.{take_all}
use Rattle.http1.specs.Head.{print_header, print_headers}
use Rattle.swift_replies.specs.AnswerText.{meta_fields}
use Rattle.swift_replies.proofs.SentLemmas.{meta_more, piece_field}
use Rattle.swift_replies.proofs.header_text.append_swift_meta.Goals as goal

pub loop-index-preserved : goal.loop-index-preserved
loop-index-preserved c =
    c.in_ok-append_swift_meta_header.ensures ∙ ap (λ p. c.loop-index.text ++ print_header (piece_field c.loop-index.index p)) c.as_slice.ensures
    ∙ meta_more c.args.text.now c.loop-index.text c.args.pieces.now c.loop-index.index c.index-pieces-index.result c.loop-index-test.true c.index-pieces-index.is c.loop-index.invariant

pub returns : goal.returns
returns c =
    c.loop-index.invariant
    ∙ ap (λ v. c.args.text.now ++ print_headers (meta_fields 0 v)) (take_all c.loop-index.index c.args.pieces.now (omega (arith, c.loop-index-test.false)))
