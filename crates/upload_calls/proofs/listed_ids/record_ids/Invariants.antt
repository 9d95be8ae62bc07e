use Rattle.std.proofs.Common.{◌-◌}
use Rattle.swift_calls.specs.History.{budget}
use Rattle.swift_calls.specs.Limits.{IsMarker}
use Rattle.account_calls.specs.Lent.{Stays}
use Rattle.upload_calls.proofs.lemmas.RecordIds.{Counting}
use Rattle.upload_calls.proofs.listed_ids.record_ids.Given as goal

abbrev pub invariant-pages : goal.invariant-pages
invariant-pages g l = record {
  stays : Stays l.initial.state l.state;
  is_marker : IsMarker l.behind;
  walked : Counting (g.W.Swift.history l.initial.state.store.now) (g.W.Swift.history l.state.store.now) l.bucket l.behind l.ids;
}

abbrev pub decreases-pages : goal.decreases-pages
decreases-pages g l = budget - (g.W.Swift.history l.state.store.now).called
