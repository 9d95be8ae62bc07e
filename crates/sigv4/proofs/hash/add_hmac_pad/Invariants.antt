use Rattle.std.proofs.Common.{◌≡◌, ◌++◌, map, take, drop}
use Rattle.std.specs.Prelude.{bit_xor}
use Rattle.sigv4.proofs.hash.add_hmac_pad.Given as goal

abbrev pub invariant-loop-byte : goal.invariant-loop-byte
invariant-loop-byte l = l.block ≡ map (λ byte. bit_xor byte l.pad) (take l.byte-index l.initial.block) ++ drop l.byte-index l.initial.block
