use Rattle.std.proofs.Common.{[]}
use Rattle.swift_calls.specs.Step.{is_listed}
use Rattle.planned_swift.specs.Lists.{name_of}
use Rattle.planned_swift.proofs.Paging.{Paged}
use Rattle.planned_swift.proofs.listing.list_containers_in_account.Given as goal

abbrev pub invariant-loop-container : goal.invariant-loop-container
invariant-loop-container l = Paged name_of (λ c. is_listed [] l.marker c.name) l.limit l.containers l.container-index l.names
