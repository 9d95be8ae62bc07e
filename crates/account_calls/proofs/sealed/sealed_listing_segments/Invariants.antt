use Rattle.std.proofs.Common.{◌≡◌, map, take}
use Rattle.s3_names.specs.Id.{id_digits}
use Rattle.upload_records.specs.Native.{filled_parts, part_segment}
use Rattle.account_calls.proofs.sealed.sealed_listing_segments.Given as goal

-- the segments of the parts so far
abbrev pub invariant-loop-part : goal.invariant-loop-part
invariant-loop-part l = l.segments ≡ map (part_segment l.folder (id_digits l.id)) (filled_parts (take l.part-index l.parts))
