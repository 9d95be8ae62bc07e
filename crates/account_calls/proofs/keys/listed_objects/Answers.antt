use Rattle.std.proofs.Common.{Ok, refl, ap, ◌∙◌}
use Rattle.s3_machine.specs.Limits.{is_listing_text}
use Rattle.list_pages.specs.Rolls.{Rolls}
use Rattle.account_calls.proofs.AskedMarkers.{stands_first}
use Rattle.account_calls.proofs.KeyWalk.{none_wanted, not_truncated, rolling_end, rolling_fault, rolling_more, rolling_none, some_wanted}
use Rattle.account_calls.proofs.lemmas.One.{not_asked}
use Rattle.account_calls.proofs.keys.listed_objects.Goals as goal

pub returns-in_err-roll-clause-asks : goal.returns-in_err-roll-clause-asks
returns-in_err-roll-clause-asks g c = not_asked _ _ _ c.from_residual.ensures.1

pub returns-then-asked-eq0-clause-asks : goal.returns-then-asked-eq0-clause-asks
returns-then-asked-eq0-clause-asks g c =
    none_wanted _ c.args.bucket.now c.args.asked.now _ c.finish.result c.if-asked-eq0.true (c.finish.ensures.items ∙ ap (λ (r : Rolls). r.items) c.in_ok-roll.ensures)
    (not_truncated c.finish.result.1 c.in_ok-roll.roll.more c.in_ok-roll.roll.wanted.max c.finish.ensures.truncated (ap (λ (r : Rolls). r.wanted.max) c.in_ok-roll.ensures ∙ c.if-asked-eq0.true))

pub pages-init : goal.pages-init
pages-init g c = record {
  stays = record { store = refl; settings = refl };
  wants = ap (λ (r : Rolls). r.wanted) c.in_ok-roll.ensures;
  room = ap (λ (r : Rolls). r.more) c.in_ok-roll.ensures;
  stands = stands_first c.args.asked.now c.requires.asked c.in_ok-roll.roll c.in_ok-roll.ensures;
  some = some_wanted c.args.asked.now.max c.if-asked-eq0.false;
  walked = rolling_none (g.W.Swift.history c.args.state.now.store.now) c.args.bucket.now c.args.asked.now c.in_ok-roll.roll c.in_ok-roll.ensures;
}

pub take_page-requires-clause-delimiter : goal.take_page-requires-clause-delimiter
take_page-requires-clause-delimiter g c = ap (λ w. is_listing_text w.delimiter) c.pages.invariant.wants ∙ c.requires.asked.delimiter

pub returns-in_err-take_page-clause-asks : goal.returns-in_err-take_page-clause-asks
returns-in_err-take_page-clause-asks g c = rolling_fault c.pages.invariant.walked c.in_err-take_page.ensures.asks c.fits.ensures c.args.asked.now refl c.pages.invariant.wants _ c.from_residual-in_err-take_page.ensures.1

pub returns-then-not-branch-clause-asks : goal.returns-then-not-branch-clause-asks
returns-then-not-branch-clause-asks g c =
    rolling_end c.pages.invariant.walked c.in_ok-take_page.ensures.asks c.if-not-branch.true c.fits.ensures c.args.asked.now refl (c.in_ok-take_page.ensures.wanted ∙ c.pages.invariant.wants) _ c.pages.invariant.wants
    c.finish-then-not-branch.ensures.listed

pub pages-preserved : goal.pages-preserved
pages-preserved g c = record {
  stays = record {
    store = c.in_ok-take_page.ensures.stays.store ∙ c.pages.invariant.stays.store;
    settings = c.in_ok-take_page.ensures.stays.settings ∙ c.pages.invariant.stays.settings;
  };
  wants = c.in_ok-take_page.ensures.wanted ∙ c.pages.invariant.wants;
  room = c.in_ok-take_page.ensures.room (ap Ok c.if-not-branch.false);
  stands = c.in_ok-take_page.ensures.stands (ap Ok c.if-not-branch.false);
  some = c.pages.invariant.some;
  walked = rolling_more c.pages.invariant.walked c.in_ok-take_page.ensures.asks c.if-not-branch.false;
}
