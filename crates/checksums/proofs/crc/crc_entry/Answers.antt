use Rattle.std.proofs.Common.{arith}
use Rattle.checksums.proofs.RowLemmas.{entry_is}
use Rattle.checksums.proofs.crc.crc_entry.Goals as goal

pub returns : goal.returns
returns c p rows = entry_is p c.args.row c.args.byte c.args.table.now rows c.requires.within (omega arith)
