use Rattle.std.proofs.Common.{◌-◌, length}
use Rattle.list_pages.proofs.lemmas.Greatest.{IsAppended}
use Rattle.list_pages.proofs.text.append_greatest.Given as goal

abbrev pub invariant-characters : goal.invariant-characters
invariant-characters l = IsAppended l.initial.text l.text

abbrev pub decreases-characters : goal.decreases-characters
decreases-characters l = 1025 - length l.text
