use Rattle.swift_calls.specs.Account.{find_object}
use Rattle.swift_store.proofs.Calls.{reads_none}
use Rattle.swift_store.proofs.Joining.{untouched_inner}
use Rattle.swift_store.proofs.joined.read_inner_segment_from_shelf.Goals as goal

pub returns-else-skip-segment : goal.returns-else-skip-segment
returns-else-skip-segment g c = record {
  reads = reads_none (λ account bytes e. untouched_inner (find_object account) c.args.segment.now c.args.skip c.args.count c.args.out.now bytes c.else-skip-segment.either e);
}
