use Rattle.std.proofs.Common.{ap}
use Rattle.gateway.specs.Reading.{Readied}
use Rattle.gateway.proofs.Operating.{readied_at_once, readied_by, settled_now, operated_or_reads, operated_unsettled, unsettled_leaves}
use Rattle.gateway.proofs.reply.settle_and_perform.Goals.{in-Settled, in-Unsure+in-Ok}
use Rattle.gateway.proofs.reply.settle_and_perform.Goals as goal

pub returns-in-Err-clause-operated : goal.returns-in-Err-clause-operated
returns-in-Err-clause-operated g c = operated_unsettled c.in-Err.fault c.in-Unsure.is c.unsettled.ensures c.in-Err.ensures

pub perform_on_settled_store-answer-requires : goal.perform_on_settled_store-answer-requires
perform_on_settled_store-answer-requires g c =
    let old = g.W.Swift.history c.args.store.now in
    let middle = g.W.Swift.history c.match-known.store in
    let readied : Readied old middle c.args.known.now = elim c.match-known.branch as (λ _. Readied old middle c.args.known.now) [
      | in-Settled w ↦ readied_at_once w.in-Settled.is (ap g.W.Swift.history w.store-is)
      | in-Unsure+in-Ok w ↦ readied_by w.in-Unsure.is (ap g.W.Swift.history w.store-is) w.in-Ok.ensures
    ] in
    record { planned = c.requires.planned; settled = settled_now readied c.requires.knows }

pub returns-clause-operated : goal.returns-clause-operated
returns-clause-operated g c =
    let old = g.W.Swift.history c.args.store.now in
    let middle = g.W.Swift.history c.match-known.store in
    let readied : Readied old middle c.args.known.now = elim c.match-known.branch as (λ _. Readied old middle c.args.known.now) [
      | in-Settled w ↦ readied_at_once w.in-Settled.is (ap g.W.Swift.history w.store-is)
      | in-Unsure+in-Ok w ↦ readied_by w.in-Unsure.is (ap g.W.Swift.history w.store-is) w.in-Ok.ensures
    ] in
    operated_or_reads c.args.settings.now c.args.op c.args.label.now old middle (g.W.Swift.history c.perform_on_settled_store-answer.new.store) c.args.known.now c.perform_on_settled_store-answer.result.known c.perform_on_settled_store-answer.result.reading readied c.perform_on_settled_store-answer.ensures.performs c.perform_on_settled_store-answer.ensures.bodiless

pub returns-in-Err-clause-leaves : goal.returns-in-Err-clause-leaves
returns-in-Err-clause-leaves g c = λ reads. rw c.unsettled.ensures (unsettled_leaves c.in-Err.fault)
