use Rattle.std.proofs.Common.{◌++◌, refl, ap, ◌∙◌, arith}
use Rattle.many_keys.specs.CopiedLists.{cut_of}
use Rattle.many_keys.proofs.CutCalls.{runs_fault, runs_more, runs_none, runs_read_all, runs_unkept}
use Rattle.many_keys.proofs.manifests.get_sub_manifests.Goals as goal

pub loop-n-init : goal.loop-n-init
loop-n-init g c = record { within = omega arith; stays = record { store = refl; settings = refl }; asks = runs_none c.args.bucket.now c.args.id _ c.args.count _ c.new-pieces.ensures }

pub returns-in_err-listed-clause-asks : goal.returns-in_err-listed-clause-asks
returns-in_err-listed-clause-asks g c = runs_fault c.args.bucket.now c.args.id c.loop-n-test.true c.loop-n.invariant.asks c.in_err-listed.ensures.asks _ c.from_residual.ensures.1

pub returns-in_err-add_pieces-clause-asks : goal.returns-in_err-add_pieces-clause-asks
returns-in_err-add_pieces-clause-asks g c = runs_unkept c.args.bucket.now c.args.id c.loop-n-test.true c.loop-n.invariant.asks c.in_ok-listed.ensures.asks _ c.from_residual-in_err-add_pieces.ensures.1

pub loop-n-preserved : goal.loop-n-preserved
loop-n-preserved g c = record {
  within = omega (arith, c.loop-n-test.true);
  stays = record {
    store = c.in_ok-listed.ensures.stays.store ∙ c.loop-n.invariant.stays.store;
    settings = c.in_ok-listed.ensures.stays.settings ∙ c.loop-n.invariant.stays.settings;
  };
  asks = runs_more c.args.bucket.now c.args.id c.loop-n-test.true c.loop-n.invariant.asks _ c.in_ok-listed.ensures.asks (c.in_ok-add_pieces.ensures ∙ ap (λ list. c.loop-n.pieces ++ cut_of list) c.as_slice.ensures);
}

pub returns-clause-asks : goal.returns-clause-asks
returns-clause-asks g c = runs_read_all c.args.bucket.now c.args.id (omega (arith, c.loop-n.invariant.within, c.loop-n-test.false)) c.loop-n.invariant.asks
