-- The bytes of an object that a range asks for. Source: RFC 9110, sections 14.1.2 and 15.5.17.
use Rattle.std.specs.Prelude.{ℕ, ◌+◌, ◌-◌, nat_lt, min, cond, Option, Some, None}
use Rattle.s3_machine.specs.declared.reading.Range.{Range}
use Rattle.s3_machine.specs.declared.reading.Range.TheVariants.{FromTo, From, Last}
use Rattle.s3_machine.specs.declared.reading.Span.{Span}

-- the bytes from one on and before another, if there is one of them
abbrev pub between : ℕ → ℕ → Option Span
between from end = cond (nat_lt from end) (Some (record { from = from; length = end - from })) None

-- the bytes of an object of this size that a range asks for, if there is one of them: a last byte past the end is cut to the
-- end, and where more bytes at the end are asked for than the object has, all of it is
abbrev pub span_of : Range → ℕ → Option Span
span_of (FromTo first last) size = between first (min (last + 1) size)
span_of (From first) size = between first size
span_of (Last count) size = between (size - count) size
