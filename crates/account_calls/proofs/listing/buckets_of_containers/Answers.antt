use Rattle.std.proofs.Common.{◌∙◌, sym, subst, rules, arith}
use Rattle.account_calls.proofs.Made.{Made, made_none, made_more, made_fault, made_all}
use Rattle.account_calls.proofs.listing.buckets_of_containers.Goals as goal

pub returns-in_err-add_bucket_of_container-clause-asks : goal.returns-in_err-add_bucket_of_container-clause-asks
returns-in_err-add_bucket_of_container-clause-asks g c =
    made_fault c.loop-name.invariant.made c.name-item.result c.loop-name-test.true c.name-item.is c.in_err-add_bucket_of_container.ensures.asks _ c.from_residual.ensures.1

pub loop-name-preserved : goal.loop-name-preserved
loop-name-preserved g c = record {
  stays = record {
    store = c.add_bucket_of_container.ensures.stays.store ∙ c.loop-name.invariant.stays.store;
    settings = c.add_bucket_of_container.ensures.stays.settings ∙ c.loop-name.invariant.stays.settings;
  };
  dated = c.in_ok-add_bucket_of_container.ensures.dated c.loop-name.invariant.dated;
  made = made_more c.loop-name.invariant.made c.name-item.result c.loop-name-test.true c.name-item.is c.in_ok-add_bucket_of_container.ensures.asks;
}

pub loop-name-init : goal.loop-name-init
loop-name-init g c = record { stays = (search rules); dated = (search rules); made = subst (Made _ _ _ 0) (sym c.new-items.ensures) (made_none _ _) }

pub returns-clause-asks : goal.returns-clause-asks
returns-clause-asks g c = made_all c.loop-name.invariant.made (omega (arith, c.loop-name-test.false))
