use Rattle.swift_store.proofs.Shelves.{made_with, made_written}
use Rattle.swift_store.proofs.map_shelf.MapShelfShelf.put_container.Goals as goal

pub invariant_of-self : goal.invariant_of-self
invariant_of-self c = record {
  made = made_written c.args.name.now c.args.self.now.folders c.args.self.now.made c.args.readers c.args.created c.set_head_in_map_shelf.new.folders c.requires.moment c.set_head_in_map_shelf.ensures;
}

pub invariant_of-self-else-is_some : goal.invariant_of-self-else-is_some
invariant_of-self-else-is_some c = record {
  made = made_with c.args.name.now c.args.self.now.folders c.args.self.now.made c.args.readers c.args.created c.new.result c.put.new.self c.put.result
      c.requires.name c.requires.moment c.new.ensures c.put.ensures.ok c.put.ensures.err;
}
