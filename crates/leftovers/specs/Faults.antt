-- The faults of a sweep or a survey, as those of a plan, and what they name. Source: this profile.
use Rattle.std.specs.Prelude.{◌≡◌, ◌⊎◌, ℕ, List, Result, Ok, Err}
use Rattle.account_calls.specs.declared.fault.PlanFault.{PlanFault}
use Rattle.account_calls.specs.declared.fault.PlanFault.TheVariants as plan
use Rattle.leftovers.specs.declared.fault.SweepFault.{SweepFault}
use Rattle.leftovers.specs.declared.fault.SweepFault.TheVariants as why

-- the fault of a plan that it is; what it names is dropped
abbrev pub plan_of : SweepFault → PlanFault
plan_of why.Failed = plan.Failed
plan_of why.Memory = plan.Memory
plan_of (why.Inconsistent container name) = plan.Inconsistent

abbrev pub as_plan : {T : Type 0} → Result T SweepFault → Result T PlanFault
as_plan (Ok told) = Ok told
as_plan (Err f) = Err (plan_of f)

-- the fault of a plan at a file of a container: it names the file where the store was inconsistent, unless memory ran out there
abbrev pub IsFaultAt : List ℕ → List ℕ → PlanFault → SweepFault → Type 0
IsFaultAt container name plan.Failed fault = fault ≡ why.Failed
IsFaultAt container name plan.Memory fault = fault ≡ why.Memory
IsFaultAt container name plan.Inconsistent fault = (fault ≡ why.Memory) ⊎ (fault ≡ why.Inconsistent container name)

-- a fault that names the file of a container, if any
abbrev pub NamesFile : List ℕ → List ℕ → SweepFault → Type 0
NamesFile container name why.Failed = Unit {0}
NamesFile container name why.Memory = Unit {0}
NamesFile container name (why.Inconsistent folder object) = (folder ≡ container) × (object ≡ name)
