use Rattle.sigv4.specs.Keys.{has_id}
use Rattle.sigv4.proofs.KeysLemmas.{found_by}
use Rattle.sigv4.proofs.keys.Keys.secret.Goals as goal

pub returns-in-Some-clause-found : goal.returns-in-Some-clause-found
returns-in-Some-clause-found c = found_by (has_id c.args.id.now) c.args.self.now _ (rw (c.as_slice.ensures, c.self.view_is) at c.in-Some.ensures)

pub returns-in-None-clause-found : goal.returns-in-None-clause-found
returns-in-None-clause-found c = found_by (has_id c.args.id.now) c.args.self.now _ (rw (c.as_slice.ensures, c.self.view_is) at c.in-None.ensures)
