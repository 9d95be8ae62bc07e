use Rattle.swift_store.proofs.Shelves.{made_without}
use Rattle.swift_store.proofs.map_shelf.MapShelfShelf.drop_container.Goals as goal

pub invariant_of-self : goal.invariant_of-self
invariant_of-self c = record {
  made = made_without c.args.name.now c.args.self.now.folders c.args.self.now.made c.drop_at.new.self c.drop_at.ensures;
}
