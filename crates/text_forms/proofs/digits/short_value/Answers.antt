use Rattle.std.proofs.Common.{arith, ◌∙◌, ap, ◌+◌, ◌*◌}
use Rattle.text_forms.proofs.DigitLemmas.{digit_is, next_fits_short, next_value, all_of_it}
use Rattle.text_forms.proofs.digits.short_value.Goals as goal

pub overflow_mul-number : goal.overflow_mul-number
overflow_mul-number c = omega (arith, next_fits_short _ _ _ c.loop-digit.invariant c.requires.short c.requires.digits c.loop-digit-test.true)

pub overflow_sub-digit : goal.overflow_sub-digit
overflow_sub-digit c = (digit_is _ _ c.requires.digits c.loop-digit-test.true).0

pub overflow_add-number : goal.overflow_add-number
overflow_add-number c =
    let found = digit_is _ _ c.requires.digits c.loop-digit-test.true in
    omega (arith, next_fits_short _ _ _ c.loop-digit.invariant c.requires.short c.requires.digits c.loop-digit-test.true, c.from.ensures, found.0, found.1)

pub loop-digit-preserved : goal.loop-digit-preserved
loop-digit-preserved c = ap (λ n. c.loop-digit.number * 10 + n) c.from.ensures ∙ next_value _ _ _ c.loop-digit.invariant c.requires.digits c.loop-digit-test.true

pub returns : goal.returns
returns c = all_of_it _ _ _ c.loop-digit.invariant c.loop-digit-test.false
