use Rattle.std.proofs.Common.{subst, refl}
use Rattle.account_calls.proofs.lemmas.Idle.{goes_none}
use Rattle.gateway.specs.ResolvedRequest.{Understands}
use Rattle.gateway.proofs.Operating.{ready_of, asks_reads}
use Rattle.gateway.proofs.Replying.{code_meant, replied_by, replied_refused, replied_memory, stands_still}
use Rattle.s3_requests.specs.Proper.{IsProperMeant}
use Rattle.gateway.proofs.reply.reply_to.Goals as goal

pub settle_and_perform-requires-clause-planned : goal.settle_and_perform-requires-clause-planned
settle_and_perform-requires-clause-planned g c = subst IsProperMeant c.in-Op.is c.requires.proper

pub returns-in-Op-clause-ready : goal.returns-in-Op-clause-ready
returns-in-Op-clause-ready g c = ready_of c.args.settings.now c.in-Op.op c.args.label.now (g.W.Swift.history c.args.store.now) (g.W.Swift.history c.settle_and_perform.new.store) c.args.known.now c.settle_and_perform.new.known c.settle_and_perform.result c.requires.knows c.settle_and_perform.ensures.operated

pub returns-in-Op-clause-replied : goal.returns-in-Op-clause-replied
returns-in-Op-clause-replied g c = replied_by c.args.settings.now c.args.label.now (g.W.Swift.history c.args.store.now) (g.W.Swift.history c.settle_and_perform.new.store) c.args.known.now c.settle_and_perform.new.known c.args.means c.in-Op.op c.in-Op.is c.settle_and_perform.result c.settle_and_perform.ensures.operated

pub returns-in-Refused-clause-replied : goal.returns-in-Refused-clause-replied
returns-in-Refused-clause-replied g c = record {
  showable = tt;
  on = goes_none _;
  knows = λ known. known;
  out_of_memory = λ is. (let same = c.in-Refused.is in cc);
  stands = stands_still c.args.settings.now c.args.known.now (g.W.Swift.history c.args.store.now);
  effect = λ all met request understands from.
      rw c.into_value.ensures.value
      (replied_refused _ _ _ request _ all c.in-Refused.code (code_meant request _ c.in-Refused.code c.in-Refused.is understands) c.into_value.ensures.fit met);
}

pub returns-in-Memory-clause-replied : goal.returns-in-Memory-clause-replied
returns-in-Memory-clause-replied g c = record {
  showable = tt;
  on = goes_none _;
  knows = λ known. known;
  out_of_memory = λ is. refl;
  stands = stands_still c.args.settings.now c.args.known.now (g.W.Swift.history c.args.store.now);
  effect = λ all met request understands from. replied_memory _ _ _ request _ all (subst (λ means. Understands means request) c.in-Memory.is understands) met;
}

pub returns-in-Op-clause-leaves : goal.returns-in-Op-clause-leaves
returns-in-Op-clause-leaves g c = λ asks. c.settle_and_perform.ensures.leaves (asks_reads c.args.means c.in-Op.op c.in-Op.is asks)

pub returns-in-Refused-clause-leaves : goal.returns-in-Refused-clause-leaves
returns-in-Refused-clause-leaves g c = λ asks. refl

pub returns-in-Memory-clause-leaves : goal.returns-in-Memory-clause-leaves
returns-in-Memory-clause-leaves g c = λ asks. refl
