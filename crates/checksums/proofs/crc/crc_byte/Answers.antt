use Rattle.std.proofs.Common.{arith}
use Rattle.std.specs.Int.Bits.{bit_xor}
use Rattle.checksums.proofs.RowLemmas.{by_first_row}
use Rattle.checksums.proofs.crc.crc_byte.Goals as goal

pub returns : goal.returns
returns c p rows = by_first_row p 2048 (bit_xor c.args.register c.args.byte) c.args.table.now rows (omega arith)
