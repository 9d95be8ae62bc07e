use Rattle.account_calls.specs.Lent.{Stays}
use Rattle.plan_uploads.specs.Listing.{AllShown}
use Rattle.plan_uploads.proofs.UploadRows.{Gathered}
use Rattle.plan_uploads.proofs.listed_uploads.open_uploads_of_ids.Given as goal

abbrev pub invariant-loop-id : goal.invariant-loop-id
invariant-loop-id g l = record {
  stays : Stays l.initial.state l.state;
  dated : AllShown l.rows;
  so : Gathered (g.W.Swift.history l.initial.state.store.now) (g.W.Swift.history l.state.store.now) l.asked l.bucket l.ids l.id-index l.rows;
}
