use Rattle.std.proofs.Common.{◌≡◌, ◌∙◌, ap, ap₂, arith, get_or}
use Rattle.std.specs.Int.Bits.{bit_xor}
use Rattle.std.specs.Int.{byte_at}
use Rattle.checksums.specs.Rows.{behind_zero_bytes}
use Rattle.checksums.proofs.RowLemmas.{word_split}
use Rattle.checksums.proofs.crc.crc_zero_word.Goals as goal

pub returns : goal.returns
returns c p rows =
    let register = c.args.register in
    let split = c.to_le_bytes.ensures in
    let byte_0 : c.crc_entry.result ≡ behind_zero_bytes p 8 (byte_at 0 register) = c.crc_entry.ensures p rows ∙ ap (λ bytes. behind_zero_bytes p 8 (get_or bytes 0 0)) split in
    let byte_1 : c.crc_entry-2.result ≡ behind_zero_bytes p 7 (byte_at 1 register) = c.crc_entry-2.ensures p rows ∙ ap (λ bytes. behind_zero_bytes p 7 (get_or bytes 1 0)) split in
    let byte_2 : c.crc_entry-3.result ≡ behind_zero_bytes p 6 (byte_at 2 register) = c.crc_entry-3.ensures p rows ∙ ap (λ bytes. behind_zero_bytes p 6 (get_or bytes 2 0)) split in
    let byte_3 : c.crc_entry-4.result ≡ behind_zero_bytes p 5 (byte_at 3 register) = c.crc_entry-4.ensures p rows ∙ ap (λ bytes. behind_zero_bytes p 5 (get_or bytes 3 0)) split in
    let byte_4 : c.crc_entry-5.result ≡ behind_zero_bytes p 4 (byte_at 4 register) = c.crc_entry-5.ensures p rows ∙ ap (λ bytes. behind_zero_bytes p 4 (get_or bytes 4 0)) split in
    let byte_5 : c.crc_entry-6.result ≡ behind_zero_bytes p 3 (byte_at 5 register) = c.crc_entry-6.ensures p rows ∙ ap (λ bytes. behind_zero_bytes p 3 (get_or bytes 5 0)) split in
    let byte_6 : c.crc_entry-7.result ≡ behind_zero_bytes p 2 (byte_at 6 register) = c.crc_entry-7.ensures p rows ∙ ap (λ bytes. behind_zero_bytes p 2 (get_or bytes 6 0)) split in
    let byte_7 : c.crc_entry-8.result ≡ behind_zero_bytes p 1 (byte_at 7 register) = c.crc_entry-8.ensures p rows ∙ ap (λ bytes. behind_zero_bytes p 1 (get_or bytes 7 0)) split in
    ap₂ bit_xor (ap₂ bit_xor (ap₂ bit_xor (ap₂ bit_xor (ap₂ bit_xor (ap₂ bit_xor (ap₂ bit_xor byte_0 byte_1) byte_2) byte_3) byte_4) byte_5) byte_6) byte_7
    ∙ word_split p register (omega arith)
