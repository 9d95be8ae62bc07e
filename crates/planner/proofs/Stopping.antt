-- A read stops at the call that shows why it is refused.
use Rattle.std.specs.Prelude.{◌≤◌, ◌+◌, ℕ, List, [], Option, None, Result, Ok, Err}
use Rattle.std.proofs.Common.{arith}
use Rattle.gate_base.specs.declared.page.Pair.{Pair}
use Rattle.s3_machine.specs.declared.operation.ObjectHead.{ObjectHead}
use Rattle.s3_machine.specs.declared.reading.Conditions.{Conditions}
use Rattle.s3_machine.specs.declared.reading.Judged.{Judged}
use Rattle.s3_machine.specs.declared.reading.Judged.TheVariants.{PreconditionFailed, NotModified, InvalidRange, Bytes}
use Rattle.s3_machine.specs.declared.reading.Range.{Range}
use Rattle.s3_machine.specs.Reading.{judged}
use Rattle.swift_calls.specs.Account.{SwiftAccount}
use Rattle.swift_calls.specs.History.{History}
use Rattle.account_calls.specs.declared.fault.PlanFault.{PlanFault}
use Rattle.account_calls.specs.Calls.{Asks, always}
use Rattle.account_calls.specs.Refusals.{Stops}
use Rattle.account_calls.specs.Shows.{alone}
use Rattle.account_calls.proofs.lemmas.Refusals.{stops_behind}
use Rattle.s3_machine.specs.Step.{read_by}
use Rattle.planner.specs.Objects.{headed_reply}
use Rattle.planner.specs.declared.reading.Reading.{Reading}
use Rattle.planner.specs.declared.reading.Reading.TheVariants.{Whole, Pieces}
use Rattle.planner.specs.Reading.{StopsOrFinds, reading_of}

module _ {T : Type 0} {given : SwiftAccount → Type 0} {P : SwiftAccount → SwiftAccount → T → Type 0} {value : Result T PlanFault} {a b : History} (asks : Asks (always 1) a b given P value) where
  near : b.called ≤ a.called + 1
  near = asks.grows.calls

  -- by the head of the object
  pub found_stops : (bucket key : List ℕ) (shown : List Pair) (head : ObjectHead) (j : Judged) → StopsOrFinds 1 a b (Ok (reading_of bucket key shown head j))
  found_stops bucket key shown head PreconditionFailed = record { so = omega (arith, near) }
  found_stops bucket key shown head NotModified = record { so = omega (arith, near) }
  found_stops bucket key shown head InvalidRange = record { so = omega (arith, near) }
  found_stops bucket key shown head (Bytes span partial) = tt

  headed_by : (shown : List Pair) (head : ObjectHead) (j : Judged) → Stops alone 1 a b (Ok (read_by None shown head (λ span. []) j))
  headed_by shown head PreconditionFailed = record { so = omega (arith, near) }
  headed_by shown head NotModified = record { so = omega (arith, near) }
  headed_by shown head InvalidRange = record { so = omega (arith, near) }
  headed_by shown head (Bytes span partial) = record { so = tt }

  pub headed_stops : (range : Option Range) (conditions : Conditions) (shown : List Pair) (head : ObjectHead) → Stops alone 1 a b (Ok (headed_reply range conditions shown head))
  headed_stops range conditions shown head = headed_by shown head (judged range conditions head)

-- a call was made, and then the rest of it stops
pub finds_behind : {T : Type 0} {asked : SwiftAccount → Type 0} {P : SwiftAccount → SwiftAccount → T → Type 0} {value : Result T PlanFault} {a b : History} (c : History) → Asks (always 1) a b asked P value
    → (end : Result Reading PlanFault) → StopsOrFinds 1 b c end → StopsOrFinds 0 a c end
finds_behind c asks (Ok (Whole reply)) stops = stops_behind asks (Ok reply) stops
finds_behind c asks (Ok (Pieces found)) stops = tt
finds_behind c asks (Err fault) stops = tt
