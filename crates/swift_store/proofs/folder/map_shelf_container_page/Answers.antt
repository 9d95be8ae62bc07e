use Rattle.swift_store.proofs.folder.map_shelf_container_page.Goals as goal

pub returns : goal.returns
returns c = rw c.in_ok-after.ensures.items at c.map_shelf_names_behind.ensures
