use Rattle.std.specs.Prelude.{nat_eq}
use Rattle.std.specs.List.{starts_with}
use Rattle.std.proofs.Common.{[]}
use Rattle.swift_store.proofs.Listing.{Led}
use Rattle.swift_store.proofs.folder.map_shelf_names_behind.Given as goal

abbrev pub invariant-loop-name : goal.invariant-loop-name
invariant-loop-name l = Led (λ e. e.0.items) (λ e. starts_with nat_eq e.0.items []) l.limit l.initial.name-iterator l.name-iterator l.names
