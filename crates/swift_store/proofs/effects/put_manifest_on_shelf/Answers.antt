use Rattle.std.proofs.Common.{sym, ◌∙◌}
use Rattle.swift_store.proofs.Calls.{keeps_none}
use Rattle.swift_store.proofs.Writing.{list_made, list_tagged, not_put_list, put_list_by}
use Rattle.swift_store.proofs.effects.put_manifest_on_shelf.Goals as goal

pub put_tagged_on_shelf-requires : goal.put_tagged_on_shelf-requires
put_tagged_on_shelf-requires g c = record {
  etag = list_tagged c.args.segments c.args.reply c.in-Some.etag c.requires.tags (sym c.in-Some.is ∙ c.etag_in.ensures);
  made = list_made c.args.container.now c.args.head.name c.args.head.content_type c.args.head.meta c.args.segments c.args.reply c.in-Some.etag c.requires.tags (sym c.in-Some.is ∙ c.etag_in.ensures) c.requires.fit;
}

pub returns-in-Some : goal.returns-in-Some
returns-in-Some g c =
    let writes = c.put_tagged_on_shelf.ensures.writes in
    record {
      keeps = writes.keeps;
      effect = λ told answered. put_list_by c.args.container.now c.args.head.name c.args.head.content_type c.args.head.meta c.args.segments (g.S.Shelf.model c.args.shelf.now).account c.args.reply c.in-Some.etag
          (g.S.Shelf.model c.put_tagged_on_shelf.new.shelf).account c.put_tagged_on_shelf.result (sym c.in-Some.is ∙ c.etag_in.ensures) answered (writes.effect told);
    }

pub returns-in-None : goal.returns-in-None
returns-in-None g c = record {
  keeps = keeps_none;
  effect = λ told answered. not_put_list c.args.container.now c.args.head.name c.args.head.content_type c.args.head.meta c.args.segments (g.S.Shelf.model c.args.shelf.now).account c.args.reply
      (sym c.in-None.is ∙ c.etag_in.ensures) answered;
}
