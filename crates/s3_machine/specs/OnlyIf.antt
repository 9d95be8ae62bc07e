-- The condition of a write, by the ETag of the object that stands under its key, if one does. Source: RFC 9110, sections 13.1.1,
-- 13.1.2 and 13.2.2, and Amazon S3 API Reference, "PutObject" and "DeleteObject"; that a write under If-Match is NoSuchKey where
-- nothing stands there is Amazon's.
use Rattle.std.specs.Prelude.{ℕ, Bool, true, false, List, bytes_eq, if◌then◌else◌, Option, Some, None}
use Rattle.s3_machine.specs.declared.code.Code.{Code}
use Rattle.s3_machine.specs.declared.code.Code.TheVariants.{NoSuchKey, PreconditionFailed}
use Rattle.s3_machine.specs.declared.only_if.OnlyIf.{OnlyIf}
use Rattle.s3_machine.specs.declared.only_if.OnlyIf.TheVariants.{Always, Missing, Present, Holds}

-- why the write is refused, if it is
abbrev pub refusal : OnlyIf → Option (List ℕ) → Option Code
refusal Always etag = None
refusal Missing None = None
refusal Missing (Some etag) = Some PreconditionFailed
refusal Present None = Some NoSuchKey
refusal Present (Some etag) = None
refusal (Holds asked) None = Some NoSuchKey
refusal (Holds asked) (Some etag) = if bytes_eq asked etag then None else Some PreconditionFailed

-- nothing is asked
abbrev pub is_always : OnlyIf → Bool
is_always Always = true
is_always Missing = false
is_always Present = false
is_always (Holds asked) = false
