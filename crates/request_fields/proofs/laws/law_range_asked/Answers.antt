use Rattle.request_fields.proofs.Ranging.{range_of_asked}
use Rattle.request_fields.proofs.laws.law_range_asked.Goals as goal

pub returns : goal.returns
returns c = range_of_asked
