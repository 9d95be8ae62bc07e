use Rattle.list_pages.proofs.Follows.{Follow}
use Rattle.list_pages.proofs.page.first_odd_in_names_page.Given as goal

abbrev pub invariant-loop-i : goal.invariant-loop-i
invariant-loop-i l = Follow l.prefix l.marker l.last l.items l.i
