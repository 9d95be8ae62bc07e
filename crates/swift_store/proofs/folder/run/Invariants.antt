use Rattle.std.specs.Prelude.{nat_eq}
use Rattle.std.specs.List.{starts_with}
use Rattle.swift_calls.specs.Bodies.{item_of}
use Rattle.swift_store.proofs.Listing.{Led}
use Rattle.swift_store.proofs.folder.run.Given as goal

abbrev pub invariant-loop-name : goal.invariant-loop-name
invariant-loop-name l = Led (λ e. item_of e.0.items e.1) (λ e. starts_with nat_eq e.0.items l.prefix) l.limit l.initial.name-iterator l.name-iterator l.items
