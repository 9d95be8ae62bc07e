use Rattle.std.specs.FinMap.{insert}
use Rattle.swift_calls.specs.Account.{on_files}
use Rattle.name_table.proofs.lemmas.Tables.{changed_there, left_there, on_ok, on_err}
use Rattle.swift_store.proofs.folder.put_object_in_map_shelf.Goals as goal

pub returns-in-Some-clause-ok : goal.returns-in-Some-clause-ok
returns-in-Some-clause-ok c =
    on_ok c.put.result (changed_there _ _ c.args.container.now c.get_mut.result c.get_mut.ensures.value (on_files (λ fs. insert fs c.args.name.now c.args.object)) _ c.put.new.self c.in-Some.is (c.get_mut.follows.holds c.put.new.self)) c.put.ensures.ok

pub returns-in-Some-clause-err : goal.returns-in-Some-clause-err
returns-in-Some-clause-err c =
    on_err c.put.result (left_there _ _ c.args.container.now c.get_mut.result c.get_mut.ensures.value _ c.put.new.self c.in-Some.is (c.get_mut.follows.holds c.put.new.self)) c.put.ensures.err
