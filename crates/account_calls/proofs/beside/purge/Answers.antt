use Rattle.std.specs.Prelude.{[], IfSome}
use Rattle.std.proofs.Common.{refl, sym, subst, ◌∙◌, arith}
use Rattle.swift_calls.specs.Limits.{IsMarker}
use Rattle.account_calls.proofs.PurgeWalk.{purging_none, purging_more, purging_end, purging_fault}
use Rattle.account_calls.proofs.lemmas.Markers.{text_is_marker}
use Rattle.account_calls.proofs.beside.purge.Goals as goal

pub pages-init : goal.pages-init
pages-init g c = record {
  stays = record { store = refl; settings = refl };
  is_marker = subst IsMarker (sym c.new-marker.ensures) (text_is_marker [] refl (omega arith));
  purging = λ bucket. rw (c.new-marker.ensures) (purging_none (g.W.Swift.history c.args.state.now.store.now) _ _ _);
}

pub returns-in_err-next-clause-asks : goal.returns-in_err-next-clause-asks
returns-in_err-next-clause-asks g c = λ bucket. purging_fault (c.pages.invariant.purging bucket) (c.in_err-next.ensures.asks bucket) (c.in_err-next.ensures.pays bucket) _ c.from_residual.ensures.1

pub pages-preserved : goal.pages-preserved
pages-preserved g c = record {
  stays = record {
    store = c.purge_page.ensures.stays.store ∙ c.pages.invariant.stays.store;
    settings = c.purge_page.ensures.stays.settings ∙ c.pages.invariant.stays.settings;
  };
  is_marker = subst (λ n. IfSome n IsMarker) c.in-Some.is c.in_ok-next.ensures.is_marker;
  purging = λ bucket. purging_more (c.pages.invariant.purging bucket) (c.in_ok-next.ensures.asks bucket) (c.in_ok-next.ensures.pays bucket) c.in-Some.next c.in-Some.is;
}

pub returns-in-None-clause-asks : goal.returns-in-None-clause-asks
returns-in-None-clause-asks g c = λ bucket. purging_end (c.pages.invariant.purging bucket) (c.in_ok-next.ensures.asks bucket) (c.in_ok-next.ensures.pays bucket) c.in-None.is
