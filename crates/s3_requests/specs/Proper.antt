-- What a request may mean: an operation, whose types keep its limits, or a code by which a request is refused. Source: this profile.
use Rattle.s3_machine.specs.Parts.{AsksNoPart}
use Rattle.s3_machine.specs.Proper.{IsProperCode}
use Rattle.s3_requests.specs.declared.meant.Meant.{Meant}
use Rattle.s3_requests.specs.declared.meant.Meant.TheVariants.{Op, Refused, Memory}

-- an operation that is meant asks for no part of an object, and a code that is meant is none for a store that failed
abbrev pub IsProperMeant : Meant → Type 0
IsProperMeant (Op op) = AsksNoPart op
IsProperMeant (Refused code) = IsProperCode code
IsProperMeant Memory = Unit {0}
