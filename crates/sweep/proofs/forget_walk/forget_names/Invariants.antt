use Rattle.sweep.proofs.AgingNames.{Naming}
use Rattle.sweep.proofs.forget_walk.forget_names.Given as goal

abbrev pub invariant-loop-name : goal.invariant-loop-name
invariant-loop-name g l = Naming (g.W.Swift.history l.initial.store) (g.W.Swift.history l.store) l.before l.names l.name-index l.forgotten l.migrated
