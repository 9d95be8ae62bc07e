use Rattle.leftovers.specs.Used.{is_taken}
use Rattle.sweep.proofs.Tallied.{Tallying}
use Rattle.sweep.proofs.file_counts.add_files.Given as goal

abbrev pub invariant-loop-item : goal.invariant-loop-item
invariant-loop-item l = Tallying (is_taken l.used) l.items l.fn.total l.item-index l.sum
