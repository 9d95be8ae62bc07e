use Rattle.std.proofs.Common.{arith, ◌+◌}
use Rattle.upload_records.specs.Native.{sealed_sub_manifests}
use Rattle.plan_uploads.proofs.CompletionCalls.{goes_on_sound, lacks_memory}
use Rattle.plan_uploads.proofs.Unfinished.{not_begun}
use Rattle.plan_uploads.proofs.complete.complete_sealed.Goals as goal

pub returns-in_err-reply-clause-plans : goal.returns-in_err-reply-clause-plans
returns-in_err-reply-clause-plans g c = λ text list label. lacks_memory _ _ c.from_residual.ensures.1

pub returns-clause-plans : goal.returns-clause-plans
returns-clause-plans g c = λ text list label.
    goes_on_sound {n = 4 + sealed_sub_manifests c.args.sealed.now} (omega arith) (λ tree sound has. has.completes) (c.seal_and_finish.ensures.plans text list label)

pub returns-in_err-reply-clause-unsure : goal.returns-in_err-reply-clause-unsure
returns-in_err-reply-clause-unsure g c = not_begun _ _ c.from_residual.ensures.1

pub returns-clause-unsure : goal.returns-clause-unsure
returns-clause-unsure g c = c.seal_and_finish.ensures.unsure
