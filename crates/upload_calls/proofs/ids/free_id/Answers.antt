use Rattle.std.proofs.Common.{◌+◌, ◌%◌, ◌^◌, refl, ap, ◌∙◌, arith}
use Rattle.upload_calls.proofs.FreeSearch.{tried_none, tried_more, tried_end, tried_fault, tried_out}
use Rattle.upload_calls.proofs.ids.free_id.Goals as goal

pub tries-init : goal.tries-init
tries-init g c = record {
  stays = record { store = refl; settings = refl };
  tried = tried_none _ _ _;
}

pub returns-in_err-is_taken-clause-asks : goal.returns-in_err-is_taken-clause-asks
returns-in_err-is_taken-clause-asks g c = tried_fault c.tries.invariant.tried c.ranges.draw.fits _ c.in_err-is_taken.ensures.asks _ c.from_residual.ensures.1

pub returns-then-not-branch-clause-asks : goal.returns-then-not-branch-clause-asks
returns-then-not-branch-clause-asks g c =
    tried_end c.tries.invariant.tried c.ranges.draw.fits _ (ap (λ n. (c.args.draw + n) % 2 ^ 128) c.from.ensures) c.in_ok-is_taken.ensures.asks c.if-not-branch.true

pub tries-preserved : goal.tries-preserved
tries-preserved g c = record {
  stays = record {
    store = c.in_ok-is_taken.ensures.stays.store ∙ c.tries.invariant.stays.store;
    settings = c.in_ok-is_taken.ensures.stays.settings ∙ c.tries.invariant.stays.settings;
  };
  tried = tried_more c.tries.invariant.tried (let near = c.tries-test.true in omega (arith, near)) _ (ap (λ n. (c.args.draw + n) % 2 ^ 128) c.from.ensures) c.in_ok-is_taken.ensures.asks c.if-not-branch.false;
}

pub returns-clause-asks : goal.returns-clause-asks
returns-clause-asks g c = tried_out c.tries.invariant.tried c.ranges.draw.fits
