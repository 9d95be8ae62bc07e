use Rattle.account_calls.specs.Told.{LeavesThroughout}
use Rattle.sweep.proofs.NamedShares.{Sharing}
use Rattle.sweep.proofs.counting.survey_names.Given as goal

abbrev pub invariant-loop-name : goal.invariant-loop-name
invariant-loop-name g l = Sharing l.sealed l.names (g.W.Swift.history l.initial.store) (g.W.Swift.history l.store) l.name-index l.total
    × LeavesThroughout (g.W.Swift.history l.initial.store) (g.W.Swift.history l.store)
