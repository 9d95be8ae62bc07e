use Rattle.std.proofs.Common.{refl, sym, subst, ◌∙◌}
use Rattle.std.specs.Prelude.{IfSome}
use Rattle.swift_calls.specs.Limits.{IsMarker}
use Rattle.account_calls.proofs.lemmas.SideNames.{no_marker}
use Rattle.upload_calls.proofs.lemmas.RecordIds.{counting_end, counting_fault, counting_none}
use Rattle.upload_calls.proofs.lemmas.Taking.{taking_more}
use Rattle.upload_calls.proofs.listed_ids.record_ids.Goals as goal

pub pages-init : goal.pages-init
pages-init g c = record {
  stays = record { store = refl; settings = refl };
  is_marker = subst IsMarker (sym c.new-behind.ensures) no_marker;
  walked = counting_none _ c.args.bucket.now c.new-behind.result c.new-ids.result c.new-behind.ensures c.new-ids.ensures;
}

pub returns-in_err-next-clause-asks : goal.returns-in_err-next-clause-asks
returns-in_err-next-clause-asks g c = counting_fault c.args.bucket.now c.pages.invariant.walked c.in_err-next.ensures.asks _ c.from_residual.ensures.1

pub pages-preserved : goal.pages-preserved
pages-preserved g c = record {
  stays = record {
    store = c.next_record_ids.ensures.stays.store ∙ c.pages.invariant.stays.store;
    settings = c.next_record_ids.ensures.stays.settings ∙ c.pages.invariant.stays.settings;
  };
  is_marker = subst (λ o. IfSome o IsMarker) c.in-Some.is c.in_ok-next.ensures.is_marker;
  walked = taking_more c.pages.invariant.walked c.in_ok-next.ensures.asks c.in-Some.next c.in-Some.is;
}

pub returns-in-None-clause-asks : goal.returns-in-None-clause-asks
returns-in-None-clause-asks g c = counting_end c.args.bucket.now c.pages.invariant.walked c.in_ok-next.ensures.asks c.in-None.is
