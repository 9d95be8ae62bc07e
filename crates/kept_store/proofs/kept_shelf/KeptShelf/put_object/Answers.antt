use Rattle.std.proofs.Common.{subst}
use Rattle.std.proofs.lemmas.Result.{on_ok_weaker}
use Rattle.sqlite.specs.Held.{state}
use Rattle.kept_store.specs.Kept.{Looks}
use Rattle.kept_store.proofs.kept_shelf.KeptShelf.put_object.Goals as goal

pub returns-clause-runs : goal.returns-clause-runs
returns-clause-runs g c =
    on_ok_weaker c.put_over.result
    (λ puts. (
      c.look_for_place.new.self.connection,
      subst (λ name. Looks c.args.container.now name (state g.S.Store c.args.self.now.connection) (state g.S.Store c.look_for_place.new.self.connection))
          c.as_slice.ensures c.in_ok-before.ensures.looks,
      puts,
    ))
    c.put_over.ensures.runs
