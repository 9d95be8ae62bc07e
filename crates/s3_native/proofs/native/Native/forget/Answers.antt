use Rattle.std.proofs.Common.{ap, ◌∙◌}
use Rattle.s3_machine.specs.State.{Machine}
use Rattle.s3_native.specs.Forgetting.{newer_in_each}
use Rattle.s3_native.proofs.Forgotten.{state_forgets}
use Rattle.s3_native.proofs.native.Native.forget.Goals as goal

pub returns-clause-forgets : goal.returns-clause-forgets
returns-clause-forgets c =
    state_forgets c.args.before c.args.self.now.state _
    (c.drop_older_in_each.ensures ∙ ap (λ (m : Machine). newer_in_each c.args.before m.state) c.self.view_is)
