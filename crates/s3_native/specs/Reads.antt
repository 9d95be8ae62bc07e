-- Which bytes the running form gives of a part that is read. Source: this profile.
use Rattle.std.specs.Prelude.{ℕ, nat_eq, cond, length, Option, Some, None}
use Rattle.s3_machine.specs.declared.reading.Span.{Span}
use Rattle.s3_machine.specs.Parts.{is_of_parts}
use Rattle.s3_machine.specs.Reading.{all_of}
use Rattle.s3_machine.specs.State.{Object}

-- the bytes of the part that is asked for: an object that was put whole has all of them in its first part, and of one of parts, whose
-- parts the state doesn't have, none is found
abbrev pub chosen_part : Option ℕ → Object → Option Span
chosen_part None o = None
chosen_part (Some n) o = cond (is_of_parts o.etag) None (cond (nat_eq n 1) (Some (all_of (length o.bytes))) None)
