use Rattle.std.proofs.Common.{codes}
use Rattle.xml_forms.specs.Forms.{Either, Word}
use Rattle.xml_forms.proofs.lemmas.Readers.{nearer_rest}
use Rattle.s3_bodies.proofs.elements.completion_xml_quote.Goals as goal

pub returns : goal.returns
returns c =
    nearer_rest (Word (codes "\"")) (Either (Word (codes "&quot;")) (Word (codes "&#34;"))) c.args.bytes.now _ _ _ c.nearer.ensures c.read_word_form-3.ensures
    (nearer_rest (Word (codes "&quot;")) (Word (codes "&#34;")) c.args.bytes.now _ _ _ c.nearer-escaped.ensures c.read_word_form.ensures c.read_word_form-2.ensures)
