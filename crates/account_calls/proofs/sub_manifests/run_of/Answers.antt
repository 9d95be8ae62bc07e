use Rattle.std.proofs.Common.{ap, ◌∙◌, ◌*◌, ◌-◌, take, drop}
use Rattle.account_calls.proofs.SubLists.{run_slice}
use Rattle.account_calls.proofs.sub_manifests.run_of.Goals as goal

pub returns : goal.returns
returns c = ap (λ to. take (to - c.args.n * 1000) (drop (c.args.n * 1000) c.args.segments.now)) c.min-to.ensures ∙ run_slice c.args.segments.now c.args.n
