use Rattle.std.proofs.Common.{◌≡◌, ◌∙◌, ◌+◌, ◌<◌, ℕ, get_or, ap, sym, arith, drop}
use Rattle.std.specs.Int.Bits.{bit_xor}
use Rattle.checksums.specs.Crc.{message_bits, crc_bits}
use Rattle.checksums.specs.Rows.{behind_zero_bytes}
use Rattle.checksums.proofs.ShiftLemmas.{Bytes, number, bytes_taken}
use Rattle.checksums.proofs.RowLemmas.{eight_at, drop_eight}
use Rattle.checksums.proofs.crc.crc_word.Goals as goal

pub returns : goal.returns
returns c p rows =
    let message = c.args.message.now in
    let place = c.args.place in
    let rest = drop (place + 8) message in
    let eight = eight_at message place in
    let small : (i : ℕ) → get_or message i 0 < 256 = λ i. omega (arith, c.type_inv.message i) in
    let are_bytes : Bytes eight = (small place, (small (place + 1), (small (place + 2), (small (place + 3), (small (place + 4), (small (place + 5), (small (place + 6), (small (place + 7), tt)))))))) in
    let word : c.from_le_bytes-word.result ≡ number eight = omega (arith, c.from_le_bytes-word.ensures) in
    ap (λ register. crc_bits p register (message_bits rest)) (c.crc_zero_word.ensures p rows ∙ ap (λ x. behind_zero_bytes p 8 (bit_xor c.args.register x)) word)
    ∙ sym (bytes_taken p c.args.register eight rest are_bytes)
    ∙ ap (λ xs. crc_bits p c.args.register (message_bits xs)) (sym (drop_eight message place c.requires.within))
