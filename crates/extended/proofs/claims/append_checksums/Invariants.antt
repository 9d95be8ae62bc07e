use Rattle.std.proofs.Common.{◌≡◌, ◌++◌, take}
use Rattle.std.specs.Prelude.{filter}
use Rattle.extended.specs.Checked.{is_checksum}
use Rattle.extended.proofs.claims.append_checksums.Given as goal

abbrev pub invariant-loop-header : goal.invariant-loop-header
invariant-loop-header l = l.checksums ≡ l.initial.checksums ++ filter is_checksum (take l.header-index l.headers)
