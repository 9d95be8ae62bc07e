use Rattle.std.proofs.Common.{sym, ◌∙◌, ◌++◌, ◌∷◌, [], arith, ap, length}
use Rattle.std.proofs.lemmas.List.{length-append}
use Rattle.plan_uploads.specs.Completing.{by_number}
use Rattle.plan_uploads.proofs.PartsListed.{chosen_all, chosen_lost, chosen_more}
use Rattle.plan_uploads.proofs.chosen.chosen_parts.Goals as goal

pub returns-in_default-clause-listed : goal.returns-in_default-clause-listed
returns-in_default-clause-listed c = λ ascend.
    chosen_lost (by_number c.args.parts.now) c.args.list.now c.loop-listed.listed-index c.listed-item.result (omega arith) c.listed-item.is c.loop-listed.chosen (c.loop-listed.invariant.are ascend)
    (sym (c.size_of_chosen_part.ensures ascend) ∙ c.in_default.is)

pub loop-listed-preserved : goal.loop-listed-preserved
loop-listed-preserved c = record {
  are = λ ascend.
      chosen_more (by_number c.args.parts.now) c.args.list.now c.loop-listed.listed-index c.listed-item.result (omega arith) c.listed-item.is c.loop-listed.chosen c.push.new.self c.in-Some.size (c.loop-listed.invariant.are ascend)
      (sym (c.size_of_chosen_part.ensures ascend) ∙ c.in-Some.is) (c.in_ok-push.ensures.ok ∙ ap (λ p. c.loop-listed.chosen ++ p ∷ []) c.in_ok-chosen_part_with_size.ensures);
  many = let long = length-append c.loop-listed.chosen (c.in_ok-chosen_part_with_size.field-0 ∷ []) in omega (arith, long, ap length c.in_ok-push.ensures.ok, c.loop-listed.invariant.many);
}

pub returns-clause-listed : goal.returns-clause-listed
returns-clause-listed c = λ ascend.
    chosen_all (by_number c.args.parts.now) c.args.list.now c.loop-listed.listed-index c.loop-listed.chosen (omega arith) (c.loop-listed.invariant.are ascend)

pub returns-clause-many : goal.returns-clause-many
returns-clause-many c = omega (arith, c.loop-listed.invariant.many)
