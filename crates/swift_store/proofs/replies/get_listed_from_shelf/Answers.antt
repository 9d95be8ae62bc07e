use Rattle.std.proofs.Common.{Some, sym, ap, ◌∙◌}
use Rattle.swift_store.proofs.Calls.{reads_ok}
use Rattle.swift_store.proofs.Replying.{list_beyond, list_some}
use Rattle.swift_store.proofs.replies.get_listed_from_shelf.Goals as goal

pub returns-in-Some-Some : goal.returns-in-Some-Some
returns-in-Some-Some g c = record {
  reads = reads_ok c.in_ok-body.ensures.reads
      (λ account is e lists. list_some c.args.container.now c.args.name.now account c.args.range c.args.head c.in-Some-Some.body (sym (c.in-Some-Some.is ∙ ap Some c.in-Some-Some.field-0-is) ∙ is) e lists);
}

pub returns-in-Some-None : goal.returns-in-Some-None
returns-in-Some-None g c = record {
  reads = reads_ok c.in_ok-body.ensures.reads
      (λ account is e lists. list_beyond c.args.container.now c.args.name.now account c.args.range c.args.head (sym (c.in-Some-None.is ∙ ap Some c.in-Some-None.field-0-is) ∙ is) e lists);
}
