use Rattle.std.proofs.Common.{inl, arith}
use Rattle.account_calls.proofs.lemmas.Quiet.{asks_failed, asks_then}
use Rattle.recovery.proofs.RollStands.{held_then}
use Rattle.recovery.proofs.settling.roll_forward.Goals as goal

pub returns-in_err-put_sub_manifests-clause-asks : goal.returns-in_err-put_sub_manifests-clause-asks
returns-in_err-put_sub_manifests-clause-asks g c = asks_failed (omega arith) c.in_err-put_sub_manifests.ensures.asks _ c.from_residual.ensures.1

pub returns-clause-asks : goal.returns-clause-asks
returns-clause-asks g c = asks_then (omega arith) c.in_ok-put_sub_manifests.ensures.asks c.roll_forward_object.ensures.asks (λ old new sound same given left. left) (λ old new last done sound given left clear. clear)

pub returns-in_err-put_sub_manifests-clause-rolls : goal.returns-in_err-put_sub_manifests-clause-rolls
returns-in_err-put_sub_manifests-clause-rolls g c = λ observable. inl (c.in_err-put_sub_manifests.ensures.holds observable)

pub returns-clause-rolls : goal.returns-clause-rolls
returns-clause-rolls g c = λ observable.
    held_then (c.in_ok-put_sub_manifests.ensures.holds observable) (c.roll_forward_object.ensures.rolls (c.in_ok-put_sub_manifests.ensures.asks.grows.on.observable observable))
