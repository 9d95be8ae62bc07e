use Rattle.sigv4.proofs.IndexLemmas.{finds_nothing}
use Rattle.sigv4.proofs.index.Index.new.Goals as goal

pub returns : goal.returns
returns c = finds_nothing c.new.result c.new.ensures.empty
