use Rattle.std.proofs.Common.{Bor, List, ℕ}
use Rattle.xml_forms.specs.Openings.{Declared, RootTag}
use Rattle.xml_forms.proofs.lemmas.Readers.{nearer_by}
use Rattle.xml_forms.proofs.document.opening.Goals as goal

pub returns : goal.returns
returns c = nearer_by {X = Bor (List ℕ)} {A = List ℕ} (λ text. text.now) (Declared c.args.name.now) (RootTag c.args.name.now) c.args.bytes.now _ _ _ c.nearer.ensures c.opening_with_declaration.ensures c.opening_root_tag.ensures
