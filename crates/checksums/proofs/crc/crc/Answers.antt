use Rattle.std.proofs.Common.{◌<◌, ◌^◌, ap, sym, subst}
use Rattle.std.specs.Int.Bits.{bit_xor, xor_lt}
use Rattle.checksums.specs.Crc.{message_bits, crc}
use Rattle.checksums.proofs.ShiftLemmas.{crc_within}
use Rattle.checksums.proofs.crc.crc.Goals as goal

pub returns-clause-value : goal.returns-clause-value
unfolding crc
returns-clause-value c = ap (λ register. bit_xor register c.args.ones) (c.crc_register.ensures c.args.polynomial c.fill_crc_rows.ensures)

pub returns-clause-within : goal.returns-clause-within
returns-clause-within c width f g =
    let register = crc_within c.args.polynomial c.args.ones width (message_bits c.args.message.now) f g in
    let shown : c.crc_register.result < 2 ^ width = subst (λ x. x < 2 ^ width) (sym (c.crc_register.ensures c.args.polynomial c.fill_crc_rows.ensures)) register in
    xor_lt width c.crc_register.result c.args.ones shown g
