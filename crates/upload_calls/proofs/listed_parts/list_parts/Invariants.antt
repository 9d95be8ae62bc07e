use Rattle.std.proofs.Common.{◌-◌}
use Rattle.std.specs.List.{All}
use Rattle.s3_machine.specs.Shown.{IsShownPart}
use Rattle.swift_calls.specs.History.{budget}
use Rattle.swift_calls.specs.Limits.{IsMarker}
use Rattle.account_calls.specs.Lent.{Stays}
use Rattle.upload_calls.proofs.lemmas.PartWalk.{Parting}
use Rattle.upload_calls.proofs.listed_parts.list_parts.Given as goal

abbrev pub invariant-pages : goal.invariant-pages
invariant-pages g l = record {
  stays : Stays l.initial.state l.state;
  dated : All IsShownPart l.parts;
  is_marker : IsMarker l.behind;
  walked : Parting (g.W.Swift.history l.initial.state.store.now) (g.W.Swift.history l.state.store.now) l.bucket l.id l.marker l.behind l.parts;
}

abbrev pub decreases-pages : goal.decreases-pages
decreases-pages g l = budget - (g.W.Swift.history l.state.store.now).called
