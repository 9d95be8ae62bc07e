use Rattle.std.proofs.Common.{◌<◌, ◌≤◌, ◌-◌, ◌/◌, ◌%◌, arith, length, get_or}
use Rattle.std.specs.Int.Bits.{bit_xor}
use Rattle.checksums.proofs.RowLemmas.{filled_more, next_entry}
use Rattle.checksums.proofs.crc.fill_crc_rows.Goals as goal

pub loop-place-preserved : goal.loop-place-preserved
loop-place-preserved c =
    let place = c.loop-place.place in
    let table = c.loop-place.table in
    let before = get_or table (place - 256) 0 in
    let above : 256 ≤ place = omega arith in
    let within : place < length table = omega arith in
    filled_more c.args.polynomial place (bit_xor (get_or table (before % 256) 0) (before / 256)) table within c.loop-place.invariant
    (next_entry c.args.polynomial place table c.loop-place.invariant above)
