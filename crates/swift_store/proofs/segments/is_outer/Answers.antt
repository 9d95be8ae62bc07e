use Rattle.std.proofs.Common.{Some, sym, ap, ◌∙◌}
use Rattle.swift_calls.specs.Account.{find_object}
use Rattle.swift_store.proofs.Calls.{reads_on}
use Rattle.swift_store.proofs.Listed.{outer_listed}
use Rattle.swift_store.proofs.segments.is_outer.Goals as goal

pub returns-in-Some-true : goal.returns-in-Some-true
returns-in-Some-true g c = record {
  reads = reads_on c.lists_inner_segments_on_shelf.result c.in_ok-is_segment_list_on_shelf.ensures.reads c.lists_inner_segments_on_shelf.ensures.reads
      (λ account is found listed. listed ∙ outer_listed (find_object account) c.args.segment.now (sym (c.in-Some-true.is ∙ ap Some c.in-Some-true.field-0-test) ∙ found));
}
