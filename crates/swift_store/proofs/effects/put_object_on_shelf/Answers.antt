use Rattle.std.proofs.Common.{sym, ◌∙◌}
use Rattle.swift_store.proofs.Calls.{keeps_none}
use Rattle.swift_store.proofs.Writing.{not_put, put_by, put_made, tagged}
use Rattle.swift_store.proofs.effects.put_object_on_shelf.Goals as goal

pub put_plain_on_shelf-requires : goal.put_plain_on_shelf-requires
put_plain_on_shelf-requires g c = record {
  etag = tagged c.args.put.body c.args.reply c.in-Some.etag c.requires.tags (sym c.in-Some.is ∙ c.etag_in.ensures);
  made = put_made c.args.put c.requires.fit;
}

pub returns-in-Some : goal.returns-in-Some
returns-in-Some g c =
    let writes = c.put_plain_on_shelf.ensures.writes in
    record {
      keeps = writes.keeps;
      effect = λ told answered. put_by c.args.put (g.S.Shelf.model c.args.shelf.now).account c.args.reply c.in-Some.etag
          (g.S.Shelf.model c.put_plain_on_shelf.new.shelf).account c.put_plain_on_shelf.result (sym c.in-Some.is ∙ c.etag_in.ensures) answered (writes.effect told);
    }

pub returns-in-None : goal.returns-in-None
returns-in-None g c = record {
  keeps = keeps_none;
  effect = λ told answered. not_put c.args.put (g.S.Shelf.model c.args.shelf.now).account c.args.reply (sym c.in-None.is ∙ c.etag_in.ensures) answered;
}
