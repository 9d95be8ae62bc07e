use Rattle.std.proofs.Common.{◌≡◌, ◌++◌, take}
use Rattle.std.specs.List.{filter_map}
use Rattle.upload_calls.specs.Listing.{id_due}
use Rattle.upload_calls.proofs.listed_ids.add_ids.Given as goal

abbrev pub invariant-loop-item : goal.invariant-loop-item
invariant-loop-item l = l.ids ≡ l.initial.ids ++ filter_map id_due (take l.item-index l.page)
