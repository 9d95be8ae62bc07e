use Rattle.std.proofs.Common.{refl, ◌∙◌, arith}
use Rattle.s3_names.specs.Key.{is_key}
use Rattle.account_calls.proofs.Deletes.{at_place, deleting_all, deleting_fault, deleting_more, deleting_none}
use Rattle.account_calls.proofs.beside.delete_names.Goals as goal

pub loop-item-init : goal.loop-item-init
loop-item-init g c = record { stays = record { store = refl; settings = refl }; deleting = deleting_none _ _ c.args.items.now }

pub delete_name-requires-clause-name : goal.delete_name-requires-clause-name
delete_name-requires-clause-name g c = at_place is_key c.args.items.now c.loop-item.item-index c.item-item.result c.loop-item-test.true c.item-item.is c.requires.names

pub returns-in_err-delete_name-clause-asks : goal.returns-in_err-delete_name-clause-asks
returns-in_err-delete_name-clause-asks g c = deleting_fault c.args.items.now c.loop-item.item-index c.loop-item.invariant.deleting c.item-item.result c.loop-item-test.true c.item-item.is c.in_err-delete_name.ensures.asks _ c.from_residual.ensures.1

pub loop-item-preserved : goal.loop-item-preserved
loop-item-preserved g c = record {
  stays = record {
    store = c.delete_name.ensures.stays.store ∙ c.loop-item.invariant.stays.store;
    settings = c.delete_name.ensures.stays.settings ∙ c.loop-item.invariant.stays.settings;
  };
  deleting = deleting_more c.args.items.now c.loop-item.item-index c.loop-item.invariant.deleting c.item-item.result c.loop-item-test.true c.item-item.is c.in_ok-delete_name.ensures.asks;
}

pub returns-clause-asks : goal.returns-clause-asks
returns-clause-asks g c = deleting_all c.args.items.now c.loop-item.item-index c.loop-item.invariant.deleting (omega (arith, c.loop-item-test.false))
