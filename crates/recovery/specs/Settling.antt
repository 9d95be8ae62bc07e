-- How a store is settled, and what its fault names. Source: this profile.
use Rattle.std.specs.Prelude.{◌≡◌, ◌≤◌, ◌⊎◌, ◌+◌, IsTrue, Result, Ok, Err}
use Rattle.swift_calls.specs.Account.{SwiftAccount}
use Rattle.swift_calls.specs.History.{History, present}
use Rattle.upload_records.specs.Layout.{gateway_name, sealed_name}
use Rattle.upload_records.specs.Native.{IsSettled}
use Rattle.account_calls.specs.declared.fault.PlanFault.{PlanFault}
use Rattle.account_calls.specs.declared.fault.PlanFault.TheVariants as plan
use Rattle.account_calls.specs.Answers.{most_settling}
use Rattle.account_calls.specs.Calls.{Any, Asks}
use Rattle.recovery.specs.Rolls.{FinishesSealed}
use Rattle.recovery.specs.declared.state.SettleFault.{SettleFault}
use Rattle.recovery.specs.declared.state.SettleFault.TheVariants.{Failed, Memory, Inconsistent}

-- the fault of a plan whose store could not be settled; what it names is dropped
abbrev pub settle_fault : SettleFault → PlanFault
settle_fault Failed = plan.Failed
settle_fault Memory = plan.Memory
settle_fault (Inconsistent container name) = plan.Inconsistent

abbrev pub as_plan : Result (Unit {0}) SettleFault → Result (Unit {0}) PlanFault
as_plan (Ok done) = Ok done
as_plan (Err fault) = Err (settle_fault fault)

-- what settling tells: the account after it is settled
abbrev pub SettlesIt : SwiftAccount → SwiftAccount → Unit {0} → Type 0
SettlesIt old new done = IsSettled new

-- the fault of settling by that of its calls: it names what is sealed; or there was no memory to name it
abbrev pub IsNamedFault : PlanFault → SettleFault → Type 0
IsNamedFault plan.Failed fault = fault ≡ Failed
IsNamedFault plan.Memory fault = fault ≡ Memory
IsNamedFault plan.Inconsistent fault = (fault ≡ Memory) ⊎ (fault ≡ Inconsistent gateway_name sealed_name)

-- what settling names where the store was found inconsistent: the file of what is sealed
abbrev pub NamesSealed : Result (Unit {0}) SettleFault → Type 0
NamesSealed (Err (Inconsistent container name)) = (container ≡ gateway_name) × (name ≡ sealed_name)
NamesSealed _ = Unit {0}

-- a store was settled by at most fifteen calls, and over a consistent account by no more than it has sub-manifests to put: the state stays, and after Ok no completion is sealed and the gateway's own container is there, also where
-- the account is not consistent; there too a completion that was sealed stands as it did, or the files of its object and of its record do
pub record Settles (old new : History) (result : Result (Unit {0}) SettleFault) : Type 0 where
  pub within : new.called ≤ old.called + 15
  pub asks : Asks (most_settling (present old)) old new Any SettlesIt (as_plan result)
  pub done : IsTrue old.observable → result ≡ Ok tt → IsSettled (present new)
  pub named : NamesSealed result
  pub finishes : FinishesSealed old new (as_plan result)
