use Rattle.std.specs.Prelude.{◌+◌, min}
use Rattle.std.proofs.Common.{ap, ◌∙◌}
use Rattle.swift_calls.specs.Account.{find_object}
use Rattle.swift_store.proofs.Calls.{reads_as}
use Rattle.swift_store.proofs.Joining.{own_read}
use Rattle.swift_store.proofs.joined.read_own_bytes_from_shelf.Goals as goal

pub returns : goal.returns
returns g c =
    let end = ap (λ n. c.args.skip + n) (c.min.ensures ∙ ap (min c.args.count) c.saturating_sub-room.ensures) in
    record {
      reads = reads_as c.read.result
          (λ account done is bytes e. own_read (find_object account) c.args.segment.now c.args.skip c.args.count (c.args.skip + c.min.result) c.args.out.now c.read.new.out bytes end (rw (c.as_slice.ensures, c.as_slice-2.ensures) at is) e)
          c.read.ensures.reads;
    }
