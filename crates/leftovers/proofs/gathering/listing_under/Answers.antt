use Rattle.std.proofs.Common.{arith}
use Rattle.account_calls.proofs.lemmas.Left.{throughout_none}
use Rattle.leftovers.proofs.Held.{says_nothing}
use Rattle.leftovers.proofs.Listings.{nothing_asks}
use Rattle.leftovers.proofs.gathering.listing_under.Goals as goal

pub returns-then-item-eq0 : goal.returns-then-item-eq0
returns-then-item-eq0 g c = record {
  asks = nothing_asks c.args.bucket.now c.args.item.now c.requires.bucket _ _ (omega (arith, c.if-item-eq0.true)) c.nothing_listed.ensures;
  says = λ observable. says_nothing c.args.bucket.now c.args.id c.args.item.now _ _ (omega (arith, c.if-item-eq0.true)) c.nothing_listed.ensures;
  leaves = throughout_none (g.W.Swift.history c.args.store.now);
}
