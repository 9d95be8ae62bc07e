use Rattle.std.proofs.Common.{[], codes, false, None, Bor, List, ℕ}
use Rattle.xml_forms.specs.Forms.{Either, Exactly}
use Rattle.xml_forms.specs.Runs.{Element}
use Rattle.xml_forms.specs.declared.class.Class.TheVariants.{InDouble, InSingle}
use Rattle.xml_forms.proofs.lemmas.Readers.{nearer_by}
use Rattle.xml_forms.proofs.document.opening_root_end.Goals as goal

pub returns : goal.returns
returns c =
    let double = Element (codes " xmlns=\"") InDouble false None (codes "\">") in
    let single = Element (codes " xmlns='") InSingle false None (codes "'>") in
    nearer_by {X = Bor (List ℕ)} {A = List ℕ} (λ text. text.now) (Exactly [] (codes ">")) (Either double single) c.args.bytes.now _ _ _ c.nearer.ensures c.plain_end.ensures
    (nearer_by {X = Bor (List ℕ)} {A = List ℕ} (λ text. text.now) double single c.args.bytes.now _ _ _ c.nearer-quoted.ensures c.read_element_form.ensures c.read_element_form-2.ensures)
