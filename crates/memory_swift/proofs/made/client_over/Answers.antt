use Rattle.memory_swift.proofs.Fresh.{fresh_over}
use Rattle.memory_swift.proofs.made.client_over.Goals as goal

pub returns-clause-fresh : goal.returns-clause-fresh
returns-clause-fresh g c =
    fresh_over (λ s. (g.S.Shelf.model s).observable) (λ s. (g.S.Shelf.model s).sure) (λ s. (g.S.Shelf.model s).account) c.args.before c.args.after c.args.shelf c.new-store.result.shelf _ _ c.new-store.ensures.shelf c.new.ensures.history c.new-link.ensures.fresh
