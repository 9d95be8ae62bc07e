use Rattle.std.proofs.Common.{◌≡◌, map, take}
use Rattle.upload_records.specs.Native.{listed_of}
use Rattle.recovery.proofs.sealed.rolled_forward_record_parts.Given as goal

-- the parts so far
abbrev pub invariant-loop-part : goal.invariant-loop-part
invariant-loop-part l = l.list ≡ map listed_of (take l.part-index l.parts)
