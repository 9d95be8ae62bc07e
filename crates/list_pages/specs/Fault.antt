-- The faults of pages and of what is made of them. Source: this profile.
use Rattle.swift_calls.specs.declared.calls.SwiftFault.{SwiftFault}
use Rattle.swift_calls.specs.declared.calls.SwiftFault.TheVariants as swift
use Rattle.swift_marks.specs.declared.fault.MarkFault.{MarkFault}
use Rattle.swift_marks.specs.declared.fault.MarkFault.TheVariants as mark
use Rattle.list_pages.specs.declared.fault.PageFault.{PageFault}
use Rattle.list_pages.specs.declared.fault.PageFault.TheVariants.{Failed, Memory}
use Rattle.list_pages.specs.declared.fault.RollFault.{RollFault}
use Rattle.list_pages.specs.declared.fault.RollFault.TheVariants as roll

abbrev pub page_fault : SwiftFault → PageFault
page_fault swift.Failed = Failed
page_fault swift.Memory = Memory

abbrev pub roll_fault : MarkFault → RollFault
roll_fault mark.NoTag = roll.NoTag
roll_fault mark.BadPack = roll.NoTag
roll_fault mark.Memory = roll.Memory
