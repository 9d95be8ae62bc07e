use Rattle.std.proofs.Common.{◌≡◌, ◌++◌, length}
use Rattle.std.specs.Prelude.{flat_map}
use Rattle.std.specs.List.{slice_split}
use Rattle.chunked.specs.Encoding.{is_comma, kept_piece}
use Rattle.chunked.proofs.encoding.kept_encodings.Given as goal

abbrev pub invariant-pieces : goal.invariant-pieces
invariant-pieces l = l.kept ++ flat_map kept_piece (slice_split is_comma l.rest) ≡ flat_map kept_piece (slice_split is_comma l.text)

abbrev pub decreases-pieces : goal.decreases-pieces
decreases-pieces l = length l.rest
