use Rattle.std.proofs.Common.{arith}
use Rattle.s3_bodies.proofs.HexDigits.{all_of_it, next_fits, next_value, passes_at}
use Rattle.s3_bodies.proofs.key_text.delete_xml_hex_value.Goals as goal

pub overflow_mul-number : goal.overflow_mul-number
overflow_mul-number c = omega (arith, next_fits _ _ _ c.loop-digit.invariant c.requires.short c.requires.digits c.loop-digit-test.true)

pub delete_xml_hex_digit-requires : goal.delete_xml_hex_digit-requires
delete_xml_hex_digit-requires c = passes_at _ _ c.requires.digits c.loop-digit-test.true

pub overflow_add-number : goal.overflow_add-number
overflow_add-number c = omega (arith, next_fits _ _ _ c.loop-digit.invariant c.requires.short c.requires.digits c.loop-digit-test.true, c.delete_xml_hex_digit.ensures.below)

pub loop-digit-preserved : goal.loop-digit-preserved
loop-digit-preserved c = next_value _ _ _ _ c.loop-digit.invariant c.delete_xml_hex_digit.ensures.value c.loop-digit-test.true

pub returns : goal.returns
returns c = all_of_it _ _ _ c.loop-digit.invariant c.loop-digit-test.false
