use Rattle.std.proofs.Common.{◌+◌, arith}
use Rattle.std.proofs.lemmas.Grind.{common_steps}
use Rattle.planned_swift.specs.MemSwift.{calls_of, history_of, planned}
use Rattle.planned_swift.proofs.Telling.{called_by, sure_kept, never_failed}
use Rattle.planned_swift.proofs.replay.MemSwiftSwift.call_newest.Goals as goal

pub returns : goal.returns
returns c =
    let old = c.args.self.now in
    let new = c.make.new.self in
    record {
      counts = grind (arith, common_steps);
      faults = grind (arith, common_steps);
      observable = λ observable. observable;
      told = λ observable. observable;
      sure = sure_kept old new c.make.ensures.plan;
      never = λ observable sure left. never_failed old (calls_of old + 1) c.args.request.now c.make.result old.log.items new.log.items c.make.ensures.logs sure;
      kept = λ observable. grind (arith, common_steps);
      effect = λ observable. called_by (history_of new).sure old.first new.first c.make.ensures.plan.first c.args.request.now (planned old (calls_of old + 1)) c.make.result old.log.items new.log.items old.present c.make.ensures.logs old.replays c.make.ensures.reply;
    }
