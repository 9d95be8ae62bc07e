use Rattle.swift_store.proofs.Shelves.{made_less}
use Rattle.swift_store.proofs.map_shelf.MapShelfShelf.remove.Goals as goal

pub invariant_of-self : goal.invariant_of-self
invariant_of-self c = record {
  made = made_less c.args.container.now c.args.self.now.folders c.args.self.now.made c.args.name.now c.drop_object_in_map_shelf.new.folders c.drop_object_in_map_shelf.ensures;
}
