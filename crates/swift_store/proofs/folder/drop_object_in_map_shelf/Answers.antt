use Rattle.std.specs.FinMap.{remove}
use Rattle.swift_calls.specs.Account.{on_files}
use Rattle.name_table.proofs.lemmas.Tables.{changed_there}
use Rattle.swift_store.proofs.folder.drop_object_in_map_shelf.Goals as goal

pub returns-in-Some : goal.returns-in-Some
returns-in-Some c =
    changed_there _ _ c.args.container.now c.get_mut.result c.get_mut.ensures.value (on_files (λ fs. remove fs c.args.name.now)) _ c.drop_at.new.self c.in-Some.is (c.get_mut.follows.holds c.drop_at.new.self) c.drop_at.ensures
