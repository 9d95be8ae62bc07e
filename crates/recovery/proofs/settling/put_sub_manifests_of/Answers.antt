use Rattle.std.proofs.Common.{refl, ap, subst, sym, ◌∙◌, arith}
use Rattle.account_calls.proofs.lemmas.SubParts.{within_parts}
use Rattle.recovery.proofs.SubCalls.{as_counted, subs_all, subs_failed, subs_next, subs_none}
use Rattle.recovery.proofs.settling.put_sub_manifests_of.Goals as goal

pub sub_manifest_count-count-requires : goal.sub_manifest_count-count-requires
sub_manifest_count-count-requires g c = within_parts c.args.sealed.now c.args.segments.now c.requires.has c.requires.are

pub loop-n-init : goal.loop-n-init
loop-n-init g c = record { within = omega arith; asks = subs_none c.args.sealed.now _; keeps = λ observable there. there; holds = λ observable. refl }

pub put_sub_manifest-requires-clause-below : goal.put_sub_manifest-requires-clause-below
put_sub_manifest-requires-clause-below g c =
    let counted = as_counted c.args.sealed.now c.args.segments.now c.sub_manifest_count-count.result c.sub_manifest_count-count.ensures c.requires.are in
    omega (arith, counted, c.loop-n-test.true)

pub returns-in_err-put_sub_manifest-clause-asks : goal.returns-in_err-put_sub_manifest-clause-asks
returns-in_err-put_sub_manifest-clause-asks g c =
    let counted = as_counted c.args.sealed.now c.args.segments.now c.sub_manifest_count-count.result c.sub_manifest_count-count.ensures c.requires.are in
    subs_failed (omega (arith, counted, c.loop-n-test.true)) c.loop-n.invariant.asks c.in_err-put_sub_manifest.ensures.asks _ c.from_residual.ensures.1

pub loop-n-preserved : goal.loop-n-preserved
loop-n-preserved g c = record {
  within = omega (arith, c.loop-n-test.true);
  asks = subs_next c.loop-n.invariant.asks c.in_ok-put_sub_manifest.ensures.asks;
  keeps = λ observable there. c.in_ok-put_sub_manifest.ensures.keeps (c.loop-n.invariant.asks.grows.on.observable observable) (c.loop-n.invariant.keeps observable there);
  holds = λ observable. c.in_ok-put_sub_manifest.ensures.holds (c.loop-n.invariant.asks.grows.on.observable observable) ∙ c.loop-n.invariant.holds observable;
}

pub returns-clause-asks : goal.returns-clause-asks
returns-clause-asks g c =
    let counted = as_counted c.args.sealed.now c.args.segments.now c.sub_manifest_count-count.result c.sub_manifest_count-count.ensures c.requires.are in
    subs_all (omega (arith, counted, c.loop-n.invariant.within, c.loop-n-test.false)) c.loop-n.invariant.asks

pub returns-in_err-put_sub_manifest-clause-holds : goal.returns-in_err-put_sub_manifest-clause-holds
returns-in_err-put_sub_manifest-clause-holds g c = λ observable. c.in_err-put_sub_manifest.ensures.holds (c.loop-n.invariant.asks.grows.on.observable observable) ∙ c.loop-n.invariant.holds observable

pub returns-clause-holds : goal.returns-clause-holds
returns-clause-holds g c = c.loop-n.invariant.holds
