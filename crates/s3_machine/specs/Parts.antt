-- A read of one part of an object. Source: Amazon S3 API Reference, "GetObject" (partNumber). A state has no parts of an object, so which
-- bytes a part has is free within bounds, as the id of a new upload is; what the account says of it is said beside the step.
use Rattle.std.specs.Prelude.{◌≡◌, ◌<◌, ◌≤◌, ℕ, ◌+◌, ◌-◌, nat_eq, nat_lt, Bool, true, false, cond, List, length, drop, Option, Some, None, IfSome}
use Rattle.text_forms.specs.Numbers.{number_of}
use Rattle.s3_machine.specs.declared.code.Code.{Code}
use Rattle.s3_machine.specs.declared.code.Code.TheVariants as code
use Rattle.s3_machine.specs.declared.operation.ObjectHead.{ObjectHead}
use Rattle.s3_machine.specs.declared.operation.Op.{Op}
use Rattle.s3_machine.specs.declared.operation.Op.TheVariants.{GetObject, OnObjects, OnUploads, OnCopies}
use Rattle.s3_machine.specs.declared.operation.ObjectsOp.{ObjectsOp}
use Rattle.s3_machine.specs.declared.operation.ObjectsOp.TheVariants.{HeadObject}
use Rattle.s3_machine.specs.declared.reading.Conditions.{Conditions}
use Rattle.s3_machine.specs.declared.reading.Judged.{Judged}
use Rattle.s3_machine.specs.declared.reading.Range.{Range}
use Rattle.s3_machine.specs.declared.reading.Range.TheVariants.{FromTo, From}
use Rattle.s3_machine.specs.declared.reading.Span.{Span}
use Rattle.s3_machine.specs.Reading.{all_of, judged}
use Rattle.s3_machine.specs.State.{Object}

-- what the service is free to choose in a step: the id of a new upload, and which bytes a part has
pub record Choice : Type 0 where
  pub id : ℕ
  pub part : Option Span

-- an id alone, and the bytes of a part alone
abbrev pub choice_of_id : ℕ → Choice
choice_of_id id = record { id = id; part = None }

abbrev pub choice_of_part : Option Span → Choice
choice_of_part part = record { id = 0; part = part }

-- an object was put together of parts: its ETag has more than the 32 digits of a digest
abbrev pub is_of_parts : List ℕ → Bool
is_of_parts etag = nat_lt 32 (length etag)

-- how many it has: what stands behind the 32 digits and the `-`
abbrev pub parts_in : List ℕ → Option ℕ
parts_in etag = number_of 5 (drop 33 etag)

-- the bytes of part n of an object, where it has that part: an object that was put whole has one part, all of it; one of parts has
-- some of its bytes, and none of its parts is empty
pub record IsPartOf (o : Object) (n : ℕ) (span : Option Span) : Type 0 where
  pub whole : is_of_parts o.etag ≡ false → span ≡ cond (nat_eq n 1) (Some (all_of (length o.bytes))) None
  pub within : is_of_parts o.etag ≡ true → IfSome span (λ s. (0 < s.length) × (s.from + s.length ≤ length o.bytes))

-- what a read comes to by these bytes of the part that it asks for, and without a part by its range. A part that the object doesn't
-- have is a range behind its end, so that it is found behind the conditions; all of an object without bytes is no range
abbrev pub judged_by : Option ℕ → Option Span → Option Range → Conditions → ObjectHead → Judged
judged_by None span range conditions head = judged range conditions head
judged_by (Some n) None range conditions head = judged (Some (From head.size)) conditions head
judged_by (Some n) (Some s) range conditions head =
    cond (nat_eq s.length 0) (judged None conditions head) (judged (Some (FromTo s.from (s.from + s.length - 1))) conditions head)

-- the code of a read that finds none of the bytes that it asks for, in an object of this size
abbrev pub range_code : Option ℕ → ℕ → Code
range_code None size = code.InvalidRange (Some size)
range_code (Some n) size = code.InvalidPartNumber

-- no part is asked for
abbrev pub AsksNoPartOfObjects : ObjectsOp → Type 0
AsksNoPartOfObjects (HeadObject read) = read.part ≡ None
AsksNoPartOfObjects _ = Unit {0}

abbrev pub AsksNoPart : Op → Type 0
AsksNoPart (GetObject read) = read.part ≡ None
AsksNoPart (OnObjects op) = AsksNoPartOfObjects op
AsksNoPart (OnUploads op) = Unit {0}
AsksNoPart (OnCopies op) = Unit {0}
