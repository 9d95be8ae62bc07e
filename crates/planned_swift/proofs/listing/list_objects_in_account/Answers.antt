use Rattle.std.proofs.Common.{sym, ap, subst, ◌∙◌, [], ◌∷◌, ◌++◌, ◌+◌}
use Rattle.swift_calls.specs.Step.{is_listed}
use Rattle.planned_swift.specs.Lists.{stored_item}
use Rattle.planned_swift.proofs.Paging.{Paged, paged_more, paged_left}
use Rattle.planned_swift.proofs.listing.list_objects_in_account.Goals as goal
use Rattle.planned_swift.proofs.listing.list_objects_in_account.Goals.{then-is_listed+in_ok-item_of+in_ok-push, else-is_listed}

pub loop-object-preserved : goal.loop-object-preserved
loop-object-preserved c =
    let step = c.loop-object in
    let asks = is_listed c.args.prefix.now c.args.marker.now in
    elim c.if-is_listed.branch [
      | then-is_listed+in_ok-item_of+in_ok-push w ↦
          subst (Paged stored_item (λ k. is_listed c.args.prefix.now c.args.marker.now k.name) c.args.limit c.args.objects.now (step.object-index + 1)) (sym (w.items-is ∙ w.in_ok-push.ensures.ok ∙ ap (λ n. step.items ++ n ∷ []) w.in_ok-item_of.ensures))
          (paged_more stored_item (λ k. is_listed c.args.prefix.now c.args.marker.now k.name) c.args.limit c.args.objects.now step.object-index step.items c.object-item.result step.invariant (λ e. c.if-len-limit.false (c.len.ensures ∙ e)) c.loop-object-test.true c.object-item.is (sym (w.if-is_listed.ensures ∙ ap asks c.as_slice.ensures)))
      | else-is_listed w ↦
          subst (Paged stored_item (λ k. is_listed c.args.prefix.now c.args.marker.now k.name) c.args.limit c.args.objects.now (step.object-index + 1)) (sym w.items-is)
          (paged_left stored_item (λ k. is_listed c.args.prefix.now c.args.marker.now k.name) c.args.limit c.args.objects.now step.object-index step.items c.object-item.result step.invariant c.loop-object-test.true c.object-item.is (sym (w.if-is_listed.ensures ∙ ap asks c.as_slice.ensures)))
    ]
