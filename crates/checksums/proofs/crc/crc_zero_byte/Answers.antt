use Rattle.std.proofs.Common.{◌∙◌, ap, sym, refl}
use Rattle.checksums.specs.Rows.{behind_zeros}
use Rattle.checksums.proofs.ShiftLemmas.{zeros_add}
use Rattle.checksums.proofs.crc.crc_zero_byte.Goals as goal

pub loop-init : goal.loop-init
unfolding behind_zeros
loop-init c = refl

pub loop-preserved : goal.loop-preserved
loop-preserved c =
    c.crc_zero_bit-shifted.ensures ∙ ap (behind_zeros c.args.polynomial 1) c.loop.invariant
    ∙ sym (zeros_add c.args.polynomial c.loop.counter 1 c.args.register)
