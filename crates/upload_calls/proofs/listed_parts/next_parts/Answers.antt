use Rattle.std.proofs.Common.{sym, subst}
use Rattle.swift_calls.specs.Limits.{IsMarker}
use Rattle.account_calls.proofs.lemmas.One.{not_asked}
use Rattle.account_calls.proofs.lemmas.SideNames.{prefix_is_marker}
use Rattle.upload_calls.proofs.listed_parts.next_parts.Goals as goal

pub returns-in_err-prefix-clause-asks : goal.returns-in_err-prefix-clause-asks
returns-in_err-prefix-clause-asks g c = not_asked _ _ _ c.from_residual.ensures.1

pub next_parts_under_prefix-requires-clause-prefix : goal.next_parts_under_prefix-requires-clause-prefix
next_parts_under_prefix-requires-clause-prefix g c = subst IsMarker (sym c.in_ok-prefix.ensures) (prefix_is_marker c.args.id)

pub returns-clause-asks : goal.returns-clause-asks
returns-clause-asks g c = c.next_parts_under_prefix.ensures.asks c.args.id c.in_ok-prefix.ensures
