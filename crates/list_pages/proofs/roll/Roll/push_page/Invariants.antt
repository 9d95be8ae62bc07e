use Rattle.list_pages.proofs.Paging.{Paged}
use Rattle.list_pages.proofs.roll.Roll.push_page.Given as goal

abbrev pub invariant-loop-item : goal.invariant-loop-item
invariant-loop-item l = Paged l.initial.self l.self l.page l.item-index
