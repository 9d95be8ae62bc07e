use Rattle.std.proofs.Common.{rules, sym, ◌∙◌, ap, Some, subst}
use Rattle.std.proofs.lemmas.List.Sorted.{answers_always}
use Rattle.plan_uploads.proofs.Searched.{Finds, searched}
use Rattle.plan_uploads.proofs.chosen.part_of.Goals as goal

pub returns-in-Ok : goal.returns-in-Ok
returns-in-Ok c = λ ascend.
    let facts = c.binary_search_by_key.ensures in
    let finds = searched c.args.parts.now ascend c.args.number c.binary_search_by_key.result facts.bound (facts.position (λ part. part.number) (answers_always _ _ _ (λ f a r g called. search rules))) in
    let at = (subst (Finds c.args.parts.now c.args.number) c.in-Ok.is finds).found in
    ap Some c.index-parts-at.is ∙ sym (at c.index-parts-at.result)

pub returns-in-Err : goal.returns-in-Err
returns-in-Err c = λ ascend.
    let facts = c.binary_search_by_key.ensures in
    let finds = searched c.args.parts.now ascend c.args.number c.binary_search_by_key.result facts.bound (facts.position (λ part. part.number) (answers_always _ _ _ (λ f a r g called. search rules))) in
    sym (subst (Finds c.args.parts.now c.args.number) c.in-Err.is finds).absent
