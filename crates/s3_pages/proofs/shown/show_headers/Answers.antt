use Rattle.std.proofs.Common.{sym, ◌∙◌, arith}
use Rattle.s3_pages.proofs.Overlaid.{overlaid_all, overlaid_more}
use Rattle.s3_pages.proofs.shown.show_headers.Goals as goal

pub loop-pair-preserved : goal.loop-pair-preserved
loop-pair-preserved c =
    c.loop-pair.invariant
    ∙ overlaid_more c.args.shown.now c.loop-pair.headers c.show_header.new.headers c.loop-pair.pair-index c.pair-item.result (omega arith) c.pair-item.is c.in_ok-show_header.ensures

pub returns : goal.returns
returns c = sym (c.loop-pair.invariant ∙ overlaid_all c.args.shown.now c.loop-pair.headers c.loop-pair.pair-index (omega arith))
