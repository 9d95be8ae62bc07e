use Rattle.std.proofs.Common.{◌≡◌, ℕ, true, false, List, bytes_eq, Some, sym, ap, subst, ◌∙◌}
use Rattle.std.proofs.lemmas.Slice.Eq.{bytes_eq-Decides}
use Rattle.upload_texts.specs.Sealed.{read_sealed}
use Rattle.upload_texts.proofs.sealed.Sealed.check_text.Goals as goal

pub returns-then-not-has_text : goal.returns-then-not-has_text
returns-then-not-has_text c = λ has. let never : true ≡ false = sym has ∙ sym c.has_text.ensures ∙ c.if-not-has_text.true in cc

pub returns-then-not-is_same_record_text : goal.returns-then-not-is_same_record_text
returns-then-not-is_same_record_text c = λ has.
    ap (λ t. bytes_eq t c.args.bytes.now) (sym c.in_ok-text.ensures.text ∙ sym c.as_slice.ensures) ∙ sym c.is_same_record_text.ensures ∙ c.if-not-is_same_record_text.true

pub returns : goal.returns
returns c =
    let same = (bytes_eq-Decides c.as_slice.result.now c.args.bytes.now).0 (sym c.is_same_record_text.ensures ∙ c.if-not-is_same_record_text.false) in
    subst (λ (t : List ℕ). read_sealed t ≡ Some c.args.self.now) (sym c.as_slice.ensures ∙ same) c.in_ok-text.ensures.reads_back
