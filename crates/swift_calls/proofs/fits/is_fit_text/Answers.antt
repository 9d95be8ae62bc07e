use Rattle.std.proofs.Common.{◌≡◌, ◌≤◌, ◌∙◌, sym, true, false, length, IsTrue, arith}
use Rattle.swift_calls.specs.Limits.{IsText}
use Rattle.swift_calls.proofs.Fitting.{text_is_utf8}
use Rattle.swift_calls.proofs.fits.is_fit_text.Goals as goal
use Rattle.swift_calls.proofs.fits.is_fit_text.Goals.{then-text-most, else-text-most}

-- the text is too long, or it isn't UTF-8
pub returns-else-is_utf8 : goal.returns-else-is_utf8
returns-else-is_utf8 c = (
  λ h. let wrong : true ≡ false = sym h ∙ c.if-is_utf8.false in cc,
  λ is. elim c.if-text-most.branch [
    | then-text-most w ↦ w.value-is ∙ w.is_utf8.ensures ∙ text_is_utf8 c.args.most c.args.text.now is
    | else-text-most w ↦ let short : length c.args.text.now ≤ c.args.most = is.within in absurd (omega arith)
  ],
)
