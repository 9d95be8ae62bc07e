use Rattle.std.proofs.Common.{sym, ◌∙◌}
use Rattle.list_pages.proofs.Follows.{follow_more_at, follow_full_at, follow_not_at}
use Rattle.list_pages.proofs.page.first_odd_in_names_page.Goals.{then-i-via-then-i, then-i-via-else-i+then-not-follows}
use Rattle.list_pages.proofs.page.first_odd_in_names_page.Goals as goal

pub returns-then-i : goal.returns-then-i
returns-then-i c = elim c.then-i.branch [
  | then-i-via-then-i w ↦ follow_full_at c.loop-i.invariant c.index-items-i.result c.loop-i-test.true c.index-items-i.is w.if-i.true
  | then-i-via-else-i+then-not-follows w ↦ follow_not_at c.loop-i.invariant c.index-items-i.result c.loop-i-test.true c.index-items-i.is c.as_slice-name.ensures (sym w.follows.ensures ∙ w.if-not-follows.true)
]

pub loop-i-preserved : goal.loop-i-preserved
loop-i-preserved c = follow_more_at c.loop-i.invariant c.index-items-i.result c.loop-i-test.true c.index-items-i.is c.as_slice-name.ensures c.if-i.false (sym c.follows.ensures ∙ c.if-not-follows.false)
