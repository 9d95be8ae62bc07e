use Rattle.std.specs.Prelude.{Ok}
use Rattle.std.proofs.Common.{sym, subst}
use Rattle.account_calls.proofs.lemmas.Left.{throughout_none, throughout_then}
use Rattle.account_calls.proofs.lemmas.Pages.{none_told, there_after, there_before}
use Rattle.account_calls.proofs.lemmas.Walk.{walked_none, walked_more, walked_end, walked_fault}
use Rattle.account_calls.specs.Listing.{NamesContainers}
use Rattle.account_calls.proofs.listing.container_names.Goals as goal

pub pages-init : goal.pages-init
pages-init g c = (
  rw (c.new-marker.ensures, c.new-names.ensures) (walked_none (g.W.Swift.history c.args.store.now)),
  throughout_none (g.W.Swift.history c.args.store.now),
  subst (λ names. NamesContainers (g.W.Swift.history c.args.store.now) (Ok names)) (sym c.new-names.ensures) (λ observable. tt),
)

pub returns-in_err-next : goal.returns-in_err-next
returns-in_err-next g c =
    let on = c.pages.invariant.0.on in
    let leaves = c.pages.invariant.1 in
    record {
      asks = walked_fault c.pages.invariant.0 c.in_err-next.ensures.asks _ c.from_residual.ensures.1;
      leaves = throughout_then on c.in_err-next.ensures.asks.grows.on leaves c.in_err-next.ensures.leaves;
      there = none_told (g.W.Swift.history c.args.store.now) _ _ c.from_residual.ensures.1;
    }

pub pages-preserved : goal.pages-preserved
pages-preserved g c =
    let on = c.pages.invariant.0.on in
    let leaves = c.pages.invariant.1 in
    let so_far = there_after on leaves _ c.pages.invariant.2 in (
      walked_more c.pages.invariant.0 c.in_ok-next.ensures.asks c.in-Some.next c.in-Some.is,
      throughout_then on c.in_ok-next.ensures.asks.grows.on leaves c.in_ok-next.ensures.leaves,
      there_before on leaves _ (c.in_ok-next.ensures.there so_far),
    )

pub returns-in-None : goal.returns-in-None
returns-in-None g c =
    let on = c.pages.invariant.0.on in
    let leaves = c.pages.invariant.1 in
    let so_far = there_after on leaves _ c.pages.invariant.2 in
    record {
      asks = walked_end c.pages.invariant.0 c.in_ok-next.ensures.asks c.in-None.is;
      leaves = throughout_then on c.in_ok-next.ensures.asks.grows.on leaves c.in_ok-next.ensures.leaves;
      there = there_before on leaves _ (c.in_ok-next.ensures.there so_far);
    }
