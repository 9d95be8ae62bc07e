use Rattle.std.proofs.Common.{length, refl, sym, ◌∙◌, arith}
use Rattle.std.proofs.lemmas.Option.{slice_get_read}
use Rattle.sigv4.proofs.IndexLemmas.{found_some, found_none, found_within}
use Rattle.sigv4.proofs.index.Index.find.Goals as goal

pub bounds-keys-at : goal.bounds-keys-at
bounds-keys-at c = found_within c.args.self.now.places c.args.keys.now c.args.id.now c.in-Some.at c.requires (sym c.in-Some.is ∙ c.place.ensures)

pub offset_bounds-keys-at : goal.offset_bounds-keys-at
offset_bounds-keys-at c =
    let within = found_within c.args.self.now.places c.args.keys.now c.args.id.now c.in-Some.at c.requires (sym c.in-Some.is ∙ c.place.ensures) in
    omega arith

pub returns-in-Some : goal.returns-in-Some
returns-in-Some c =
    let place = sym c.in-Some.is ∙ c.place.ensures in
    let within = found_within c.args.self.now.places c.args.keys.now c.args.id.now c.in-Some.at c.requires place in
    sym (slice_get_read c.args.keys.now (length c.args.keys.now) c.in-Some.at c.index-keys-at.result refl within c.index-keys-at.is)
    ∙ found_some c.args.self.now.places c.args.keys.now c.args.id.now c.in-Some.at c.requires place

pub returns-in-None : goal.returns-in-None
returns-in-None c = found_none c.args.self.now.places c.args.keys.now c.args.id.now c.requires (sym c.in-None.is ∙ c.place.ensures)
