use Rattle.swift_calls.specs.Account.{with_head}
use Rattle.name_table.proofs.lemmas.Tables.{changed_there}
use Rattle.swift_store.proofs.folder.set_head_in_map_shelf.Goals as goal

pub returns-in-Some : goal.returns-in-Some
returns-in-Some c =
    changed_there _ _ c.args.container.now c.get_mut.result c.get_mut.ensures.value (with_head c.args.readers c.args.created) _ c.set_head.new.self c.in-Some.is (c.get_mut.follows.holds c.set_head.new.self) c.set_head.ensures
