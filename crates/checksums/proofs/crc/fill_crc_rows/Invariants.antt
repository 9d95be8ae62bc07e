use Rattle.checksums.specs.Rows.{IsFilledTo}
use Rattle.checksums.proofs.crc.fill_crc_rows.Given as goal

abbrev pub invariant-loop-place : goal.invariant-loop-place
invariant-loop-place l = IsFilledTo l.polynomial l.place l.table
