use Rattle.std.proofs.Common.{◌<◌, length, arith}
use Rattle.std.specs.Prelude.{bit_xor}
use Rattle.std.proofs.lemmas.List.{get_or_default}
use Rattle.std.proofs.lemmas.List.Edits.{map_over_more}
use Rattle.sigv4.proofs.hash.add_hmac_pad.Goals as goal

pub loop-byte-preserved : goal.loop-byte-preserved
loop-byte-preserved c =
    let within : c.loop-byte.byte-index < length c.loop-byte.block = omega arith in
    map_over_more (λ byte. bit_xor byte c.args.pad) _ _ _ _ (omega arith) c.loop-byte.invariant (get_or_default _ _ _ _ within)
