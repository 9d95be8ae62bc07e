use Rattle.std.proofs.Common.{◌≡◌, ◌∙◌, ◌+◌, ◌<◌, ◌/◌, ◌%◌, ap₂, arith, length}
use Rattle.checksums.specs.Rows.{behind_zero_bytes}
use Rattle.checksums.proofs.RowLemmas.{filled_none, filled_more}
use Rattle.checksums.proofs.crc.fill_first_crc_row.Goals as goal

pub loop-place-init : goal.loop-place-init
loop-place-init c = filled_none c.args.polynomial c.args.table.now

pub loop-place-preserved : goal.loop-place-preserved
loop-place-preserved c =
    let place = c.loop-place.place in
    let upper : 1 ≡ place / 256 + 1 = omega arith in
    let lower : place ≡ place % 256 = omega arith in
    let within : place < length c.loop-place.table = omega arith in
    filled_more c.args.polynomial place c.crc_zero_byte.result c.loop-place.table within c.loop-place.invariant
    (c.crc_zero_byte.ensures ∙ ap₂ (behind_zero_bytes c.args.polynomial) upper lower)
