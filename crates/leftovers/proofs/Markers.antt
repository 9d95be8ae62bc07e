-- The empty marker.
use Rattle.std.specs.Prelude.{[]}
use Rattle.std.proofs.Common.{refl, arith}
use Rattle.swift_calls.specs.Limits.{IsMarker}
use Rattle.account_calls.proofs.lemmas.Markers.{text_is_marker}

pub empty_is_marker : IsMarker []
empty_is_marker = text_is_marker [] refl (omega arith)
