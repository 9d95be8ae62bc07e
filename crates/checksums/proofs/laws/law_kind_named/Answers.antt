use Rattle.std.proofs.Common.{◌∙◌, ap}
use Rattle.checksums.specs.Kinds.{checksum_kind}
use Rattle.checksums.proofs.ValueLemmas.{named, names}
use Rattle.checksums.proofs.laws.law_kind_named.Goals as goal

pub returns : goal.returns
returns c = λ kind name. (named kind name, λ same. ap checksum_kind same ∙ names kind)
