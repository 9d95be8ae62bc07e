use Rattle.std.proofs.Common.{refl, ◌∙◌, arith}
use Rattle.planner.proofs.Deleting.{deleting_none, deleting_more, deleting_fault, deleting_all}
use Rattle.planner.proofs.deletions.delete_keys.Goals as goal

pub loop-key-init : goal.loop-key-init
loop-key-init g c = record { stays = record { store = refl; settings = refl }; deleting = deleting_none _ _ _ _ }

pub returns-in_err-delete_key-clause-deletes : goal.returns-in_err-delete_key-clause-deletes
returns-in_err-delete_key-clause-deletes g c = deleting_fault c.loop-key.invariant.deleting c.key-item.result c.loop-key-test.true c.key-item.is c.in_err-delete_key.ensures.changes _ c.from_residual.ensures.1

pub loop-key-preserved : goal.loop-key-preserved
loop-key-preserved g c = record {
  stays = record {
    store = c.delete_key.ensures.stays.store ∙ c.loop-key.invariant.stays.store;
    settings = c.delete_key.ensures.stays.settings ∙ c.loop-key.invariant.stays.settings;
  };
  deleting = deleting_more c.loop-key.invariant.deleting c.key-item.result c.loop-key-test.true c.key-item.is c.in_ok-delete_key.ensures.changes;
}

pub returns-clause-deletes : goal.returns-clause-deletes
returns-clause-deletes g c = deleting_all c.loop-key.invariant.deleting (omega (arith, c.loop-key-test.false))
