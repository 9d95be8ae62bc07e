use Rattle.checksums.proofs.ValueLemmas.{taken, is_taken}
use Rattle.checksums.proofs.laws.law_value_taken.Goals as goal

pub returns : goal.returns
returns c = λ kind value message bytes. (taken kind value message bytes, is_taken kind value message bytes)
