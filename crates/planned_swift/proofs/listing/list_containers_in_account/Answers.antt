use Rattle.std.proofs.Common.{sym, ap, subst, ◌∙◌, [], ◌∷◌, ◌++◌, ◌+◌}
use Rattle.swift_calls.specs.Step.{is_listed}
use Rattle.planned_swift.specs.Lists.{name_of}
use Rattle.planned_swift.proofs.Paging.{Paged, paged_more, paged_left}
use Rattle.planned_swift.proofs.listing.list_containers_in_account.Goals as goal
use Rattle.planned_swift.proofs.listing.list_containers_in_account.Goals.{then-is_listed+in_ok-copy+in_ok-push, else-is_listed}

pub loop-container-preserved : goal.loop-container-preserved
loop-container-preserved c =
    let step = c.loop-container in
    let asks = is_listed [] c.args.marker.now in
    elim c.if-is_listed.branch [
      | then-is_listed+in_ok-copy+in_ok-push w ↦
          subst (Paged name_of (λ k. is_listed [] c.args.marker.now k.name) c.args.limit c.args.containers.now (step.container-index + 1)) (sym (w.names-is ∙ w.in_ok-push.ensures.ok ∙ ap (λ n. step.names ++ n ∷ []) w.in_ok-copy.ensures))
          (paged_more name_of (λ k. is_listed [] c.args.marker.now k.name) c.args.limit c.args.containers.now step.container-index step.names c.container-item.result step.invariant (λ e. c.if-len-limit.false (c.len.ensures ∙ e)) c.loop-container-test.true c.container-item.is (sym (w.if-is_listed.ensures ∙ ap asks c.as_slice.ensures)))
      | else-is_listed w ↦
          subst (Paged name_of (λ k. is_listed [] c.args.marker.now k.name) c.args.limit c.args.containers.now (step.container-index + 1)) (sym w.names-is)
          (paged_left name_of (λ k. is_listed [] c.args.marker.now k.name) c.args.limit c.args.containers.now step.container-index step.names c.container-item.result step.invariant c.loop-container-test.true c.container-item.is (sym (w.if-is_listed.ensures ∙ ap asks c.as_slice.ensures)))
    ]
