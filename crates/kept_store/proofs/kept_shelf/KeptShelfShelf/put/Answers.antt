use Rattle.kept_store.proofs.MadeRows.{made_has_row}
use Rattle.kept_store.proofs.kept_shelf.KeptShelfShelf.put.Goals as goal

pub put_object-requires-clause-row : goal.put_object-requires-clause-row
put_object-requires-clause-row g c = made_has_row c.args.object c.requires.made
