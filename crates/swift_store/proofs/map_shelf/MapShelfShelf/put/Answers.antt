use Rattle.swift_store.proofs.Shelves.{made_as, made_kept}
use Rattle.swift_store.proofs.map_shelf.MapShelfShelf.put.Goals as goal

pub invariant_of-self : goal.invariant_of-self
invariant_of-self c = record {
  made = made_kept c.args.container.now c.args.self.now.folders c.args.self.now.made c.as_slice.result.now c.new-object.result c.put_object_in_map_shelf.new.folders c.put_object_in_map_shelf.result
      (made_as c.as_slice.result.now c.args.object.name c.new-object.result _ c.requires.made c.as_slice.ensures c.new-object.ensures)
      c.put_object_in_map_shelf.ensures.ok c.put_object_in_map_shelf.ensures.err;
}
