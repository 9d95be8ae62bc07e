use Rattle.std.proofs.Common.{sym, ◌∙◌}
use Rattle.swift_calls.specs.Account.{find_object}
use Rattle.swift_store.proofs.Calls.{reads_ok, reads_then}
use Rattle.swift_store.proofs.Replying.{lost_part, there_part}
use Rattle.swift_store.proofs.replies.segment_bytes_on_shelf.Goals as goal

pub returns-then-not-branch : goal.returns-then-not-branch
returns-then-not-branch g c = record {
  reads = reads_ok c.in_ok-are_outer_segments_on_shelf.ensures.reads (λ account are. lost_part (find_object account) c.args.range c.args.size c.args.segments.now (sym c.if-not-branch.true ∙ are));
}

pub returns : goal.returns
returns g c = record {
  reads = reads_then c.in_ok-are_outer_segments_on_shelf.ensures.reads c.in_ok-part.ensures.reads
      (λ account are part. there_part (find_object account) c.args.range c.args.size c.args.segments.now c.in_ok-part.part (sym c.if-not-branch.false ∙ are) part);
}
