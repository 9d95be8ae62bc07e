use Rattle.std.proofs.Common.{refl}
use Rattle.store_cmd.proofs.Running.{performs_nothing}
use Rattle.store_cmd.proofs.command.run_store_as_asked.Goals as goal

pub returns-in-Ok : goal.returns-in-Ok
returns-in-Ok g c = c.serve_with_setup.ensures c.args.asked refl c.in-Ok.ensures

pub returns-in-Err : goal.returns-in-Err
returns-in-Err g c = performs_nothing c.args.asked (g.N.Line.model c.args.line.now) (g.S.Shelf.model c.args.shelf.now)
