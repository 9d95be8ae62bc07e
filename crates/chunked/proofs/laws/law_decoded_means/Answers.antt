use Rattle.chunked.proofs.Law.{decoded_means}
use Rattle.chunked.proofs.laws.law_decoded_means.Goals as goal

pub returns : goal.returns
returns c = decoded_means
