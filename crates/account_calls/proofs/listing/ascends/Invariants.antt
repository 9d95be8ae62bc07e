use Rattle.std.proofs.Common.{◌≡◌, drop}
use Rattle.account_calls.specs.Listing.{ascends}
use Rattle.account_calls.proofs.listing.ascends.Given as goal

abbrev pub invariant-loop-name : goal.invariant-loop-name
invariant-loop-name l = ascends l.marker l.names ≡ ascends l.last (drop l.name-index l.names)
