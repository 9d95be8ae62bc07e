use Rattle.std.proofs.Common.{◌∙◌, ◌+◌, ◌<◌, ◌≤◌, ap, sym, arith, get_or, drop, length, drop_of_length-le}
use Rattle.checksums.specs.Crc.{message_bits, crc_bits}
use Rattle.checksums.proofs.ShiftLemmas.{byte_taken}
use Rattle.checksums.proofs.RowLemmas.{drop_next}
use Rattle.checksums.proofs.crc.crc_bytes.Goals as goal

pub loop-byte-preserved : goal.loop-byte-preserved
loop-byte-preserved c p rows =
    let message = c.args.message.now in
    let index = c.loop-byte.byte-index in
    let byte = get_or message index 0 in
    let within : index < length message = omega arith in
    let small : byte < 256 = omega (arith, c.type_inv.message index) in
    ap (λ register. crc_bits p register (message_bits (drop (index + 1) message))) (c.crc_byte-shifted.ensures p rows)
    ∙ sym (byte_taken p c.loop-byte.shifted byte (drop (index + 1) message) small)
    ∙ ap (λ rest. crc_bits p c.loop-byte.shifted (message_bits rest)) (sym (drop_next message index (index + 1) within (omega arith)))
    ∙ c.loop-byte.invariant p rows

pub returns : goal.returns
unfolding crc_bits message_bits
returns c p rows =
    let message = c.args.message.now in
    let end : length message ≤ c.loop-byte.byte-index = omega arith in
    ap (λ rest. crc_bits p c.loop-byte.shifted (message_bits rest)) (sym (drop_of_length-le message end)) ∙ c.loop-byte.invariant p rows
