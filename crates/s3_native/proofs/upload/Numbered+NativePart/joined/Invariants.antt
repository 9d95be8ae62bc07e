use Rattle.std.proofs.Common.{◌≡◌, take}
use Rattle.s3_native.specs.Native.{listed_bytes}
use Rattle.s3_native.proofs.upload.Numbered+NativePart.joined.Given as goal

-- the bytes of those so far
abbrev pub invariant-loop-listed : goal.invariant-loop-listed
invariant-loop-listed l = l.bytes ≡ listed_bytes l.self (take l.listed-index l.list)
