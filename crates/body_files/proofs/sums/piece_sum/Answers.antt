use Rattle.std.proofs.Common.{◌∙◌, ◌++◌}
use Rattle.md5.specs.Md5.{md5}
use Rattle.body_files.specs.Sums.{piece_sum}
use Rattle.body_files.proofs.sums.piece_sum.Goals as goal

pub returns : goal.returns
unfolding piece_sum
returns c =
    c.finalize.ensures _ (c.update-3.ensures _ (c.update-2.ensures _ (c.update.ensures _ c.new-hasher.ensures)))
    ∙ (λ i. md5 ((c.to_be_bytes.ensures i ++ c.to_be_bytes-2.ensures i) ++ c.args.piece.now))
