use Rattle.std.proofs.Common.{IsTrue, sym, subst}
use Rattle.planned_swift.specs.Replay.{all_small}
use Rattle.planned_swift.proofs.Replaying.{small_take, sized_at_take}
use Rattle.planned_swift.proofs.memory.MemSwift.account_at.Goals as goal

pub make_call_unanswered-requires-clause-sized : goal.make_call_unanswered-requires-clause-sized
make_call_unanswered-requires-clause-sized c =
    let small = subst (λ l. IsTrue (all_small l)) (sym c.deref.ensures.value) c.args.self.now.small in
    sized_at_take _ _ _ _ c.loop-entry.invariant c.args.self.now.sized (small_take c.args.k c.deref.result.now small)

pub returns-clause-sized : goal.returns-clause-sized
returns-clause-sized c =
    let small = subst (λ l. IsTrue (all_small l)) (sym c.deref.ensures.value) c.args.self.now.small in
    sized_at_take _ _ _ _ c.loop-entry.invariant c.args.self.now.sized (small_take c.args.k c.deref.result.now small)
