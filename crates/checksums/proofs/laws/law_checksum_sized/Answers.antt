use Rattle.checksums.proofs.SizeLemmas.{checksum_sized}
use Rattle.checksums.proofs.laws.law_checksum_sized.Goals as goal

pub returns : goal.returns
returns c = λ kind message. checksum_sized kind message
