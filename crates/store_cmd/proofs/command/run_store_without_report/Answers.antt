use Rattle.store_cmd.proofs.Running.{runs_refused, runs_unread, runs_performed}
use Rattle.store_cmd.specs.Words.{asked_of}
use Rattle.store_cmd.proofs.command.run_store_without_report.Goals as goal

pub returns-in-Ok-clause-runs : goal.returns-in-Ok-clause-runs
returns-in-Ok-clause-runs g c = runs_performed (asked_of c.args.words.now) c.in-Ok.asked c.run_store_as_asked.result (g.N.Line.model c.args.line.now) (g.N.Line.model c.run_store_as_asked.new.line)
    (g.S.Shelf.model c.args.shelf.now)
    (g.S.Shelf.model c.run_store_as_asked.new.shelf) c.in-Ok.ensures.reads c.run_store_as_asked.ensures

pub returns-in-Err-Refused-clause-runs : goal.returns-in-Err-Refused-clause-runs
returns-in-Err-Refused-clause-runs g c = runs_refused (asked_of c.args.words.now) _ _ (rw c.in-Err-Refused.field-0-is at c.in-Err-Refused.ensures.reads)

pub returns-in-Err-Memory-clause-runs : goal.returns-in-Err-Memory-clause-runs
returns-in-Err-Memory-clause-runs g c = runs_unread (asked_of c.args.words.now) _ _
