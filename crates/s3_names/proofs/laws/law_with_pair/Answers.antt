use Rattle.s3_names.proofs.lemmas.MetaLemmas.{with_pair_is}
use Rattle.s3_names.proofs.laws.law_with_pair.Goals as goal

pub returns : goal.returns
returns c = λ name value pairs ascends new. with_pair_is name value pairs ascends new
