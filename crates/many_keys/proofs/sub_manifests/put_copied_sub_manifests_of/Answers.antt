use Rattle.std.proofs.Common.{refl, ◌∙◌, arith}
use Rattle.account_calls.proofs.lemmas.SubParts.{within_parts}
use Rattle.many_keys.proofs.CopiedSubs.{as_counted, subs_all, subs_failed, subs_next, subs_none}
use Rattle.many_keys.proofs.OwnSegments.{subs_own_all, subs_own_failed, subs_own_next, subs_own_none}
use Rattle.many_keys.proofs.sub_manifests.put_copied_sub_manifests_of.Goals as goal

pub sub_manifest_count-count-requires : goal.sub_manifest_count-count-requires
sub_manifest_count-count-requires g c = within_parts c.args.sealed.now c.args.segments.now c.requires.has c.requires.are

pub loop-n-init : goal.loop-n-init
loop-n-init g c = record { within = omega arith; stays = record { store = refl; settings = refl }; asks = subs_none c.args.sealed.now _; own = subs_own_none c.args.sealed.now _ }

pub put_copied_sub_manifest-requires-clause-below : goal.put_copied_sub_manifest-requires-clause-below
put_copied_sub_manifest-requires-clause-below g c =
    let counted = as_counted c.args.sealed.now c.args.segments.now c.sub_manifest_count-count.result c.sub_manifest_count-count.ensures c.requires.are in
    omega (arith, counted, c.loop-n-test.true)

pub returns-in_err-put_copied_sub_manifest-clause-asks : goal.returns-in_err-put_copied_sub_manifest-clause-asks
returns-in_err-put_copied_sub_manifest-clause-asks g c =
    let counted = as_counted c.args.sealed.now c.args.segments.now c.sub_manifest_count-count.result c.sub_manifest_count-count.ensures c.requires.are in
    subs_failed (omega (arith, counted, c.loop-n-test.true)) c.loop-n.invariant.asks c.in_err-put_copied_sub_manifest.ensures.asks _ c.from_residual.ensures.1

pub loop-n-preserved : goal.loop-n-preserved
loop-n-preserved g c = record {
  within = omega (arith, c.loop-n-test.true);
  stays = record {
    store = c.in_ok-put_copied_sub_manifest.ensures.stays.store ∙ c.loop-n.invariant.stays.store;
    settings = c.in_ok-put_copied_sub_manifest.ensures.stays.settings ∙ c.loop-n.invariant.stays.settings;
  };
  asks = subs_next c.loop-n.invariant.asks c.in_ok-put_copied_sub_manifest.ensures.asks;
  own = subs_own_next _ c.loop-n.invariant.asks.grows.on.observable c.in_ok-put_copied_sub_manifest.ensures.asks.grows.on.told c.in_ok-put_copied_sub_manifest.ensures.keeps c.loop-n.invariant.own c.in_ok-put_copied_sub_manifest.ensures.stands;
}

pub returns-clause-asks : goal.returns-clause-asks
returns-clause-asks g c =
    let counted = as_counted c.args.sealed.now c.args.segments.now c.sub_manifest_count-count.result c.sub_manifest_count-count.ensures c.requires.are in
    subs_all (omega (arith, counted, c.loop-n.invariant.within, c.loop-n-test.false)) c.loop-n.invariant.asks

pub returns-in_err-put_copied_sub_manifest-clause-own : goal.returns-in_err-put_copied_sub_manifest-clause-own
returns-in_err-put_copied_sub_manifest-clause-own g c =
    subs_own_failed _ c.loop-n.invariant.asks.grows.on.observable c.in_err-put_copied_sub_manifest.ensures.asks.grows.on.told c.in_err-put_copied_sub_manifest.ensures.keeps c.loop-n.invariant.own _ _ c.from_residual.ensures.1

pub returns-clause-own : goal.returns-clause-own
returns-clause-own g c =
    let counted = as_counted c.args.sealed.now c.args.segments.now c.sub_manifest_count-count.result c.sub_manifest_count-count.ensures c.requires.are in
    subs_own_all (omega (arith, counted, c.loop-n.invariant.within, c.loop-n-test.false)) c.loop-n.invariant.own
