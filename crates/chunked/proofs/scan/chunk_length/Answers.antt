use Rattle.std.proofs.Common.{arith, ◌∙◌, ap, ◌+◌, ◌*◌}
use Rattle.chunked.proofs.Lengths.{digit_below, next_fits, next_value, all_of_it}
use Rattle.chunked.proofs.scan.chunk_length.Goals as goal

pub overflow_mul-number : goal.overflow_mul-number
overflow_mul-number c = omega (arith, next_fits _ _ _ c.loop-digit.invariant c.requires.short c.requires.hex c.loop-digit-test.true)

pub overflow_add-number : goal.overflow_add-number
overflow_add-number c =
    omega (
      arith,
      next_fits _ _ _ c.loop-digit.invariant c.requires.short c.requires.hex c.loop-digit-test.true,
      digit_below _ _ c.requires.hex c.loop-digit-test.true,
      c.chunk_digit_value.ensures,
    )

pub loop-digit-preserved : goal.loop-digit-preserved
loop-digit-preserved c = ap (λ n. c.loop-digit.number * 16 + n) c.chunk_digit_value.ensures ∙ next_value _ _ _ c.loop-digit.invariant c.loop-digit-test.true

pub returns : goal.returns
returns c = all_of_it _ _ _ c.loop-digit.invariant c.loop-digit-test.false
