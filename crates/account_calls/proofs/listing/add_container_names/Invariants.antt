use Rattle.std.proofs.Common.{◌≡◌, ◌++◌, take}
use Rattle.account_calls.proofs.listing.add_container_names.Given as goal

abbrev pub invariant-loop-name : goal.invariant-loop-name
invariant-loop-name l = l.names ≡ l.initial.names ++ take l.name-index l.page
