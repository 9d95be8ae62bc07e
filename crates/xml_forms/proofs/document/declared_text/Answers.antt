use Rattle.std.proofs.Common.{arith}
use Rattle.xml_forms.proofs.lemmas.DeclarationTexts.{declaration_text_stops, no_declaration_end_all}
use Rattle.xml_forms.proofs.document.declared_text.Goals as goal

pub returns : goal.returns
returns c = declaration_text_stops c.args.bytes.now (no_declaration_end_all c.args.bytes.now (λ k within. c.bytes.invariant k (omega arith)))
