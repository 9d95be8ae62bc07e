use Rattle.std.proofs.Common.{◌≡◌, take}
use Rattle.extended.specs.Chunks.{decoded_headers}
use Rattle.extended.proofs.headers.decoded_headers.Given as goal

abbrev pub invariant-loop-header : goal.invariant-loop-header
invariant-loop-header l = l.decoded ≡ decoded_headers (take l.header-index l.headers)
