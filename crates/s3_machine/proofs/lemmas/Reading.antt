-- The bytes that are asked for are bytes of the object: all of them, or those of a range, of which there is one.
use Rattle.std.proofs.Common.{◌≡◌, ◌≤◌, ◌<◌, ◌+◌, ◌-◌, ℕ, Bool, true, false, cond, Option, Some, None, refl, arith, min, nat_lt}
use Rattle.std.specs.Prelude.{nat_eq}
use Rattle.s3_machine.specs.declared.operation.ObjectHead.{ObjectHead}
use Rattle.s3_machine.specs.declared.reading.Conditions.{Conditions}
use Rattle.s3_machine.specs.declared.reading.Judged.{Judged}
use Rattle.s3_machine.specs.declared.reading.Judged.TheVariants.{PreconditionFailed, NotModified, InvalidRange, Bytes}
use Rattle.s3_machine.specs.declared.reading.Range.{Range}
use Rattle.s3_machine.specs.declared.reading.Range.TheVariants.{FromTo, From, Last}
use Rattle.s3_machine.specs.declared.reading.Span.{Span}
use Rattle.s3_machine.specs.Conditions.{fails, is_known}
use Rattle.s3_machine.specs.Parts.{judged_by}
use Rattle.s3_machine.specs.Ranges.{span_of}
use Rattle.s3_machine.specs.Reading.{all_of, judged, ranged, ranged_by}

-- bytes of an object of this size: all of them, or those of a range, of which there is one
pub record IsWithin (size : ℕ) (partial : Bool) (span : Span) : Type 0 where
  pub ends : span.from + span.length ≤ size
  pub filled : partial ≡ true → 0 < span.length
  pub whole : partial ≡ false → span ≡ all_of size

abbrev pub Fits : ℕ → Judged → Type 0
Fits size PreconditionFailed = Unit {0}
Fits size NotModified = Unit {0}
Fits size InvalidRange = Unit {0}
Fits size (Bytes span partial) = IsWithin size partial span

between_fits : (from end size : ℕ) → end ≤ size → (t : Bool) → t ≡ nat_lt from end → Fits size (ranged_by (cond t (Some (record { from = from; length = end - from })) None))
between_fits from end size le false e = tt
between_fits from end size le true e =
    let l : from < end = grind (arith, e) in
    record { ends = omega (arith, l, le); filled = λ _. omega (arith, l); whole = λ e. cc }

span_fits : (range : Range) (size : ℕ) → Fits size (ranged_by (span_of range size))
span_fits (FromTo first last) size = between_fits first (min (last + 1) size) size (omega arith) _ refl
span_fits (From first) size = between_fits first size size (omega arith) _ refl
span_fits (Last count) size = between_fits (size - count) size size (omega arith) _ refl

ranged_fits : (range : Option Range) (size : ℕ) → Fits size (ranged range size)
ranged_fits None size = record { ends = omega arith; filled = λ e. cc; whole = λ _. refl }
ranged_fits (Some range) size = span_fits range size

cond_fits : (b : Bool) (size : ℕ) (j k : Judged) → Fits size j → Fits size k → Fits size (cond b j k)
cond_fits true size j k f g = f
cond_fits false size j k f g = g

pub judged_fits : (range : Option Range) (conditions : Conditions) (head : ObjectHead) → Fits head.size (judged range conditions head)
judged_fits range conditions head =
    cond_fits (fails conditions head.etag head.modified) head.size PreconditionFailed _ tt
    (cond_fits (is_known conditions head.etag head.modified) head.size NotModified _ tt (ranged_fits range head.size))

-- of a part too, whatever bytes are said to be its own
pub judged_by_fits : (part : Option ℕ) (span : Option Span) (range : Option Range) (conditions : Conditions) (head : ObjectHead) → Fits head.size (judged_by part span range conditions head)
judged_by_fits None span range conditions head = judged_fits range conditions head
judged_by_fits (Some n) None range conditions head = judged_fits (Some (From head.size)) conditions head
judged_by_fits (Some n) (Some s) range conditions head =
    cond_fits (nat_eq s.length 0) head.size (judged None conditions head) (judged (Some (FromTo s.from (s.from + s.length - 1))) conditions head)
    (judged_fits None conditions head) (judged_fits (Some (FromTo s.from (s.from + s.length - 1))) conditions head)
