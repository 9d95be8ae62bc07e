use Rattle.std.specs.List.{All}
use Rattle.kept_store.specs.Kept.{HasPrefix}
use Rattle.kept_store.proofs.rows.items_in.Given as goal

abbrev pub invariant-loop-row : goal.invariant-loop-row
invariant-loop-row l = All (HasPrefix l.prefix) l.items
