-- The faults of a plan, and their causes over every store. Source: this profile.
use Rattle.std.specs.Prelude.{◌≡◌, ℕ, Result, Ok, Err}
use Rattle.gate_base.specs.Causes.{Rose}
use Rattle.swift_calls.specs.declared.calls.SwiftFault.{SwiftFault}
use Rattle.swift_calls.specs.declared.calls.SwiftFault.TheVariants as swift
use Rattle.swift_marks.specs.declared.fault.MarkFault.{MarkFault}
use Rattle.swift_marks.specs.declared.fault.MarkFault.TheVariants as mark
use Rattle.list_pages.specs.declared.fault.PageFault.{PageFault}
use Rattle.list_pages.specs.declared.fault.PageFault.TheVariants as page
use Rattle.list_pages.specs.declared.fault.RollFault.{RollFault}
use Rattle.list_pages.specs.declared.fault.RollFault.TheVariants as roll
use Rattle.account_calls.specs.declared.fault.PlanFault.{PlanFault}
use Rattle.account_calls.specs.declared.fault.PlanFault.TheVariants.{Failed, Memory, Inconsistent}

abbrev pub plan_fault : SwiftFault → PlanFault
plan_fault swift.Failed = Failed
plan_fault swift.Memory = Memory

-- a mark that can't be read
abbrev pub mark_fault : MarkFault → PlanFault
mark_fault mark.NoTag = Inconsistent
mark_fault mark.BadPack = Inconsistent
mark_fault mark.Memory = Memory

-- a page of names that wasn't had; what it names is dropped
abbrev pub of_page : PageFault → PlanFault
of_page page.Failed = Failed
of_page page.Memory = Memory
of_page (page.Inconsistent container name) = Inconsistent

-- an object without a tag
abbrev pub of_roll : RollFault → PlanFault
of_roll roll.NoTag = Inconsistent
of_roll roll.Memory = Memory

-- the store's count of faults rose where the fault is Failed, and else stayed
abbrev pub CausesFault : {T : Type 0} → ℕ → ℕ → Result T PlanFault → Type 0
CausesFault before now (Ok x) = now ≡ before
CausesFault before now (Err Failed) = Rose before now
CausesFault before now (Err Memory) = now ≡ before
CausesFault before now (Err Inconsistent) = now ≡ before
