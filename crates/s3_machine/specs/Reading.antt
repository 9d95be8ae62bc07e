-- What a GET or a HEAD of an object comes to: the conditions first, then the range. Source: RFC 9110, section 13.2.2, and
-- Amazon S3 API Reference, "GetObject".
use Rattle.std.specs.Prelude.{ℕ, true, false, cond, List, take, drop, Option, Some, None}
use Rattle.s3_machine.specs.declared.operation.ObjectHead.{ObjectHead}
use Rattle.s3_machine.specs.declared.reading.Conditions.{Conditions}
use Rattle.s3_machine.specs.declared.reading.Judged.{Judged}
use Rattle.s3_machine.specs.declared.reading.Judged.TheVariants.{PreconditionFailed, NotModified, InvalidRange, Bytes}
use Rattle.s3_machine.specs.declared.reading.Range.{Range}
use Rattle.s3_machine.specs.declared.reading.Span.{Span}
use Rattle.s3_machine.specs.Conditions.{fails, is_known}
use Rattle.s3_machine.specs.Ranges.{span_of}

-- all of an object of this size
abbrev pub all_of : ℕ → Span
all_of size = record { from = 0; length = size }

abbrev pub ranged_by : Option Span → Judged
ranged_by None = InvalidRange
ranged_by (Some span) = Bytes span true

-- the bytes of an object of this size, by the range that is asked for
abbrev pub ranged : Option Range → ℕ → Judged
ranged None size = Bytes (all_of size) false
ranged (Some range) size = ranged_by (span_of range size)

-- what a read with conditions comes to, by the head of the object: a failed condition, not modified, or the range
abbrev pub judged : Option Range → Conditions → ObjectHead → Judged
judged range conditions head =
    cond (fails conditions head.etag head.modified) PreconditionFailed
    (cond (is_known conditions head.etag head.modified) NotModified
    (ranged range head.size))

-- the bytes of a span
abbrev pub taken : Span → List ℕ → List ℕ
taken span bytes = take span.length (drop span.from bytes)
