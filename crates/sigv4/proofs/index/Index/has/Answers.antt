use Rattle.sigv4.specs.Keys.{has_id}
use Rattle.sigv4.proofs.IndexLemmas.{there_where}
use Rattle.sigv4.proofs.index.Index.has.Goals as goal

pub returns : goal.returns
returns c = there_where c.args.keys.now (has_id c.args.id.now) c.find.result c.is_some.result c.find.ensures c.is_some.ensures
