use Rattle.std.proofs.Common.{inl, lit≤}
use Rattle.account_calls.proofs.lemmas.Quiet.{asks_failed, asks_then}
use Rattle.recovery.proofs.RollStands.{held_then}
use Rattle.recovery.proofs.settling.roll_forward_object.Goals as goal

pub returns-in_err-put_rolled_forward_object-clause-asks : goal.returns-in_err-put_rolled_forward_object-clause-asks
returns-in_err-put_rolled_forward_object-clause-asks g c = asks_failed (lit≤ tt) c.in_err-put_rolled_forward_object.ensures.asks _ c.from_residual.ensures.1

pub returns-clause-asks : goal.returns-clause-asks
returns-clause-asks g c = asks_then (lit≤ tt) c.in_ok-put_rolled_forward_object.ensures.asks c.finish_roll_forward.ensures.asks (λ old new sound same given left. left) (λ old new last done sound given left clear. clear)

pub returns-in_err-put_rolled_forward_object-clause-rolls : goal.returns-in_err-put_rolled_forward_object-clause-rolls
returns-in_err-put_rolled_forward_object-clause-rolls g c = λ observable. inl (c.in_err-put_rolled_forward_object.ensures.holds observable)

pub returns-clause-rolls : goal.returns-clause-rolls
returns-clause-rolls g c = λ observable.
    let put = c.in_ok-put_rolled_forward_object.ensures in
    let middle = put.asks.grows.on.observable observable in
    held_then (put.holds observable) (c.finish_roll_forward.ensures.rolls (put.stands.so middle) middle)

pub returns-clause-finishes : goal.returns-clause-finishes
returns-clause-finishes g c = record {
  so = λ observable.
      let middle = c.finish_roll_forward.ensures.asks.grows.on.told observable in
      let done = c.finish_roll_forward.ensures.finishes (c.in_ok-put_rolled_forward_object.ensures.stands.so middle) in
      done.so observable;
}
