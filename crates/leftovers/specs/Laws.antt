-- What the laws of this crate say.
use Rattle.std.specs.Prelude.{◌≡◌, ℕ, List, true, false, None}
use Rattle.std.specs.FinMap.{get}
use Rattle.s3_names.specs.Bucket.{is_bucket}
use Rattle.swift_calls.specs.Account.{SwiftAccount}
use Rattle.swift_calls.specs.declared.calls.SwiftRequest.TheVariants.{DeleteContainer, DeleteObject}
use Rattle.upload_records.specs.Layout.{segments_name}
use Rattle.upload_records.specs.Native.{IsUnsealed}
use Rattle.upload_records.specs.Consistent.{IsBeside, IsConsistent, IsThere}
use Rattle.upload_records.specs.Laws.{IsQuiet}
use Rattle.leftovers.specs.Leftovers.{is_used}

-- the DELETE of a segment that isn't used leaves the state
abbrev pub UnusedGone : Type 0
UnusedGone = (tree : SwiftAccount) (bucket name : List ℕ) → is_bucket bucket ≡ true → IsThere tree bucket → is_used tree bucket name ≡ false → IsConsistent tree → IsUnsealed tree
    → IsQuiet tree (DeleteObject (segments_name bucket) name)

-- the DELETE of a container beside a bucket that is missing leaves the state, be a file in it or not
abbrev pub SideGone : Type 0
SideGone = (tree : SwiftAccount) (bucket name : List ℕ) → IsBeside name bucket → get tree bucket ≡ None → IsConsistent tree → IsUnsealed tree
    → IsQuiet tree (DeleteContainer name)
