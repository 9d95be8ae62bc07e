use Rattle.std.proofs.Common.{inl, inr, lit≤}
use Rattle.account_calls.proofs.lemmas.Quiet.{asks_failed, asks_then}
use Rattle.recovery.proofs.RollStands.{ensures_so}
use Rattle.recovery.proofs.settling.finish_roll_forward.Goals as goal

pub returns-in_err-put_rolled_forward_record-clause-asks : goal.returns-in_err-put_rolled_forward_record-clause-asks
returns-in_err-put_rolled_forward_record-clause-asks g c = asks_failed (lit≤ tt) c.in_err-put_rolled_forward_record.ensures.asks _ c.from_residual.ensures.1

pub returns-clause-asks : goal.returns-clause-asks
returns-clause-asks g c = asks_then (lit≤ tt) c.in_ok-put_rolled_forward_record.ensures.asks (c.delete_rolled_forward_seal.ensures.asks c.args.sealed.now) (λ old new sound same given left. left) (λ old new last done sound given left clear. clear)

pub returns-in_err-put_rolled_forward_record-clause-rolls : goal.returns-in_err-put_rolled_forward_record-clause-rolls
returns-in_err-put_rolled_forward_record-clause-rolls g c = λ stands observable. inl (c.in_err-put_rolled_forward_record.ensures.holds observable)

pub returns-clause-rolls : goal.returns-clause-rolls
returns-clause-rolls g c = λ stands observable.
    let put = c.in_ok-put_rolled_forward_record.ensures in
    let on = put.asks.grows.on in
    let middle = on.observable observable in
    inr (record { object = c.delete_rolled_forward_seal.ensures.object c.args.sealed.now c.requires middle (put.object observable stands); kept = c.delete_rolled_forward_seal.ensures.kept c.args.sealed.now c.requires middle (put.stands.so middle) })

pub returns-clause-finishes : goal.returns-clause-finishes
returns-clause-finishes g c = λ stands. ensures_so _ (λ observable.
    let put = c.in_ok-put_rolled_forward_record.ensures in
    let middle = (c.delete_rolled_forward_seal.ensures.asks c.args.sealed.now).grows.on.told observable in
    let first = put.asks.grows.on.told middle in
    record { object = c.delete_rolled_forward_seal.ensures.object c.args.sealed.now c.requires middle (put.object first stands); kept = c.delete_rolled_forward_seal.ensures.kept c.args.sealed.now c.requires middle (put.stands.so middle) })
