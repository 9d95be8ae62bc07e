use Rattle.std.proofs.Common.{◌≡◌, false, List, ℕ, length, refl, sym, ◌∙◌, subst}
use Rattle.std.specs.List.{list_any}
use Rattle.sigv4.specs.Keys.{has_id}
use Rattle.sigv4.proofs.IndexLemmas.{finds_more}
use Rattle.sigv4.proofs.index.Index.add.Goals as goal

pub returns : goal.returns
returns c = λ key is.
    let fresh = subst (λ (id : List ℕ). list_any (has_id id) c.args.keys.now ≡ false) (sym is) c.requires.fresh in
    finds_more c.args.self.now.places c.insert.new.self c.args.keys.now key c.in_ok-key.key (length c.args.keys.now) c.requires.finds fresh
    (c.in_ok-key.ensures.items ∙ sym is) refl c.in_ok-insert.ensures.entries
