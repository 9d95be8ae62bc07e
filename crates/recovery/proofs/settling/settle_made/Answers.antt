use Rattle.std.proofs.Common.{◌≡◌, lit≤, arith, subst, true}
use Rattle.std.specs.Prelude.{IfSome}
use Rattle.upload_texts.specs.Sealed.{has_sealed_text}
use Rattle.account_calls.proofs.lemmas.SubParts.{few_sub_manifests}
use Rattle.account_calls.proofs.lemmas.Quiet.{asks_failed, asks_left, asks_then}
use Rattle.recovery.proofs.RollCalls.{found_none, found_sealed}
use Rattle.recovery.proofs.SubCalls.{counted_few, counted_rolled}
use Rattle.recovery.proofs.SettleStands.{held_in_vain, none_to_finish, rolled_forward}
use Rattle.recovery.proofs.settling.settle_made.Goals as goal

pub returns-in_err-sealed-clause-asks : goal.returns-in_err-sealed-clause-asks
returns-in_err-sealed-clause-asks g c = asks_failed (lit≤ tt) c.in_err-sealed.ensures.asks _ c.from_residual.ensures.1

pub returns-in_err-sealed-clause-counted : goal.returns-in_err-sealed-clause-counted
returns-in_err-sealed-clause-counted g c = counted_few (lit≤ tt) c.in_err-sealed.ensures.asks

pub returns-in-Some-clause-asks : goal.returns-in-Some-clause-asks
returns-in-Some-clause-asks g c =
    let has = subst (λ o. IfSome o (λ s. has_sealed_text s ≡ true)) c.in-Some.is c.in_ok-sealed.ensures.has in
    let few = few_sub_manifests c.in-Some.sealed has in
    asks_then (omega (arith, few)) c.in_ok-sealed.ensures.asks c.roll_forward.ensures.asks (λ old new sound same has tells. found_sealed old new _ c.in-Some.sealed c.in-Some.is has tells)
    (λ old new last done sound has tells clear. clear)

pub returns-in-Some-clause-counted : goal.returns-in-Some-clause-counted
returns-in-Some-clause-counted g c = counted_rolled c.in_ok-sealed.ensures.asks c.in-Some.is c.roll_forward.ensures.asks

pub returns-in-None-clause-asks : goal.returns-in-None-clause-asks
returns-in-None-clause-asks g c = asks_left tt (lit≤ tt) c.in_ok-sealed.ensures.asks (λ old new sound same has tells. found_none old new _ c.in-None.is has tells)

pub returns-in-None-clause-counted : goal.returns-in-None-clause-counted
returns-in-None-clause-counted g c = counted_few (lit≤ tt) c.in_ok-sealed.ensures.asks

pub returns-in_err-sealed-clause-finishes : goal.returns-in_err-sealed-clause-finishes
returns-in_err-sealed-clause-finishes g c = held_in_vain _ _ c.from_residual.ensures.1 c.in_err-sealed.ensures.holds

pub returns-in-Some-clause-finishes : goal.returns-in-Some-clause-finishes
returns-in-Some-clause-finishes g c =
    rolled_forward c.in_ok-sealed.ensures.asks c.in-Some.is c.in_ok-sealed.ensures.says c.in_ok-sealed.ensures.holds c.roll_forward.ensures.asks.grows.on.observable _ c.roll_forward.ensures.rolls c.roll_forward.ensures.finishes

pub returns-in-None-clause-finishes : goal.returns-in-None-clause-finishes
returns-in-None-clause-finishes g c = none_to_finish c.in-None.is c.in_ok-sealed.ensures.says c.in_ok-sealed.ensures.holds
