use Rattle.std.proofs.Common.{rules, subst, List}
use Rattle.http_wire.specs.declared.judge.TheConstants.{MOST_BODY_LIMIT}
use Rattle.http_service.specs.Trace.{RunTrace}
use Rattle.swift_replies.specs.AnswerText.{refusal}
use Rattle.store_cmd.specs.Connection.{StoreAnswers}
use Rattle.store_cmd.specs.Run.{run_cursor}
use Rattle.store_cmd.specs.declared.setup.Setup.{Setup}
use Rattle.store_cmd.proofs.command.serve_lent_store.Goals as goal

pub returns-clause-serves : goal.returns-clause-serves
returns-clause-serves g c = λ told given observable.
    let run = subst (λ (setup : Setup). (notes : List (Unit {0})) × RunTrace (λ state. 0) MOST_BODY_LIMIT (refusal 500) (StoreAnswers told setup.place)
    (run_cursor (g.N.Line.model c.args.line.now) (g.S.Shelf.model c.args.shelf.now)) notes (run_cursor (g.N.Line.model c.serve_all.new.line) (g.S.Shelf.model c.serve_all.new.service.shelf.now)))
    c.serve_all.ensures.goes.setup (c.serve_all.ensures.serves told given observable) in
    search rules
