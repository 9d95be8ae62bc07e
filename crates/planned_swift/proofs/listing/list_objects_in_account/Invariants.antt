use Rattle.swift_calls.specs.Step.{is_listed}
use Rattle.planned_swift.specs.Lists.{stored_item}
use Rattle.planned_swift.proofs.Paging.{Paged}
use Rattle.planned_swift.proofs.listing.list_objects_in_account.Given as goal

abbrev pub invariant-loop-object : goal.invariant-loop-object
invariant-loop-object l = Paged stored_item (λ s. is_listed l.prefix l.marker s.name) l.limit l.objects l.object-index l.items
