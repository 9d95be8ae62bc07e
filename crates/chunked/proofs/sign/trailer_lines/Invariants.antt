use Rattle.std.proofs.Common.{◌≡◌, take}
use Rattle.std.specs.Prelude.{flat_map}
use Rattle.chunked.specs.Signatures.{trailer_line}
use Rattle.chunked.proofs.sign.trailer_lines.Given as goal

abbrev pub invariant-loop-trailer : goal.invariant-loop-trailer
invariant-loop-trailer l = l.text ≡ flat_map trailer_line (take l.trailer-index l.trailers)
