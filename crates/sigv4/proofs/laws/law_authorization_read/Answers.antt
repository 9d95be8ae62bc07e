use Rattle.sigv4.proofs.FormLemmas.{reads, is_read}
use Rattle.sigv4.proofs.laws.law_authorization_read.Goals as goal

pub returns : goal.returns
returns c = λ text parts. (reads text parts, is_read text parts)
