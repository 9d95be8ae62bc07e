use Rattle.std.proofs.Common.{◌<◌, sym, subst, ◌∙◌}
use Rattle.list_pages.proofs.Paging.{has_room, is_full, paged_end, paged_fits, paged_full, paged_more}
use Rattle.list_pages.proofs.roll.Roll.push_page.Goals as goal

pub push-requires : goal.push-requires
push-requires c = paged_fits c.loop-item.invariant c.item-item.result c.loop-item-test.true c.item-item.is c.requires.names

pub returns-then-not-branch-clause-rolled : goal.returns-then-not-branch-clause-rolled
returns-then-not-branch-clause-rolled c = paged_full c.loop-item.invariant c.item-item.result c.loop-item-test.true c.item-item.is c.push.new.self c.in_ok-push.ensures.wanted c.in_ok-push.ensures.rolled
    (is_full c.in_ok-push.field-0 c.push.new.self.more c.push.new.self.wanted.max (subst (λ w. 0 < w.max) (sym (c.in_ok-push.ensures.wanted ∙ c.loop-item.invariant.wanted)) c.requires.wants) c.in_ok-push.ensures.goes c.if-not-branch.true)

pub loop-item-preserved : goal.loop-item-preserved
loop-item-preserved c = paged_more c.loop-item.invariant c.item-item.result c.loop-item-test.true c.item-item.is c.push.new.self c.in_ok-push.ensures.wanted c.in_ok-push.ensures.rolled
    (has_room c.in_ok-push.field-0 c.push.new.self.more c.push.new.self.wanted.max c.in_ok-push.ensures.goes c.if-not-branch.false) c.in_ok-push.ensures.last

pub returns-clause-rolled : goal.returns-clause-rolled
returns-clause-rolled c = paged_end c.loop-item.invariant c.loop-item-test.false
