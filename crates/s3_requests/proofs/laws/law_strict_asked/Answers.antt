use Rattle.s3_requests.proofs.Strict.{strict_asked}
use Rattle.s3_requests.proofs.laws.law_strict_asked.Goals as goal

pub returns : goal.returns
returns c = strict_asked
