use Rattle.http_service.specs.declared.run.Stopped.TheVariants.{Done, Line}
use Rattle.store_cmd.proofs.Running.{performs_asked}
use Rattle.store_cmd.proofs.command.serve_with_setup.Goals as goal

pub returns-in-Done : goal.returns-in-Done
returns-in-Done g c = λ asked most place. performs_asked asked Done c.args.most c.args.setup.now.place (g.N.Line.model c.args.line.now) (g.N.Line.model c.serve_lent_store.new.line)
    (g.S.Shelf.model c.args.shelf.now) (g.S.Shelf.model c.serve_lent_store.new.shelf) most place (rw c.in-Done.is at c.serve_lent_store.ensures.line) c.serve_lent_store.ensures.serves

pub returns-in-Line : goal.returns-in-Line
returns-in-Line g c = λ asked most place. performs_asked asked Line c.args.most c.args.setup.now.place (g.N.Line.model c.args.line.now) (g.N.Line.model c.serve_lent_store.new.line)
    (g.S.Shelf.model c.args.shelf.now) (g.S.Shelf.model c.serve_lent_store.new.shelf) most place (rw c.in-Line.is at c.serve_lent_store.ensures.line) c.serve_lent_store.ensures.serves
