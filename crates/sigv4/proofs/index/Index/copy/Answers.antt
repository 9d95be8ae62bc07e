use Rattle.std.proofs.lemmas.List.Elements.{same_from_all_zip}
use Rattle.sigv4.proofs.IndexLemmas.{finds_copied}
use Rattle.sigv4.proofs.index.Index.copy.Goals as goal

pub returns : goal.returns
returns c = λ keys finds.
    finds_copied _ _ (λ x y both. same_from_all_zip _ x.items y.items both.0 (λ a b is. is)) (λ v w is. is) c.args.self.now.places c.in_ok-clone.field-0 keys
    c.in_ok-clone.ensures.cases finds
