use Rattle.sweep.proofs.NamesSwept.{Sweeping}
use Rattle.sweep.proofs.walk.sweep_listed.Given as goal

abbrev pub invariant-loop-name : goal.invariant-loop-name
invariant-loop-name g l = Sweeping (g.W.Swift.history l.initial.store) (g.W.Swift.history l.store) l.names l.name-index l.swept
