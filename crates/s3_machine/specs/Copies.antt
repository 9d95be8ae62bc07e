-- Copies: whether a source meets their conditions, what an object is put with that is copied of another, and which bytes of it a
-- part is copied of. Source: Amazon S3 API Reference, "CopyObject" and "UploadPartCopy"; that a copy keeps its source's ETag, and that
-- of conditions which contradict one another each counts as for a GET, is this profile's.
use Rattle.std.specs.Prelude.{◌+◌, ◌-◌, ℕ, Bool, true, false, ◌&&◌, nat_lt, bytes_eq, List, Option, Some, None}
use Rattle.s3_machine.specs.declared.operation.Described.{Described}
use Rattle.s3_machine.specs.declared.operation.ObjectHead.{ObjectHead}
use Rattle.s3_machine.specs.declared.reading.Conditions.{Conditions}
use Rattle.s3_machine.specs.declared.reading.Judged.{Judged}
use Rattle.s3_machine.specs.declared.reading.Judged.TheVariants.{PreconditionFailed, NotModified, InvalidRange, Bytes}
use Rattle.s3_machine.specs.declared.reading.Span.{Span}
use Rattle.s3_machine.specs.Reading.{all_of, judged}
use Rattle.s3_machine.specs.State.{Object}

-- a read comes to bytes of the object
abbrev pub gives_bytes : Judged → Bool
gives_bytes PreconditionFailed = false
gives_bytes NotModified = false
gives_bytes InvalidRange = false
gives_bytes (Bytes span partial) = true

-- an object may be copied under these conditions: where a GET under them gives its bytes
abbrev pub may_be_copied : Conditions → ObjectHead → Bool
may_be_copied conditions head = gives_bytes (judged None conditions head)

-- the copy of an object: with its bytes and its ETag, and with its content type and metadata or those in their place
abbrev pub copied : Option Described → ℕ → Object → Object
copied None moment o = record o { modified = moment }
copied (Some r) moment o = record o { content_type = r.content_type; meta = r.meta; modified = moment }

-- an object would be copied onto itself, and nothing of it replaced
abbrev pub is_onto_itself : List ℕ → List ℕ → List ℕ → List ℕ → Option Described → Bool
is_onto_itself bucket key from_bucket from_key None = bytes_eq bucket from_bucket && bytes_eq key from_key
is_onto_itself bucket key from_bucket from_key (Some r) = false

-- an object of this size has the last byte of the range; where none is given, all is meant
abbrev pub has_last : Option (ℕ × ℕ) → ℕ → Bool
has_last None size = true
has_last (Some range) size = nat_lt range.1 size

-- the bytes from the first to the last of the range
abbrev pub copied_span : Option (ℕ × ℕ) → ℕ → Span
copied_span None size = all_of size
copied_span (Some range) size = record { from = range.0; length = range.1 + 1 - range.0 }
