use Rattle.upload_records.proofs.Bounded.{written_by_less, written_by_most}
use Rattle.upload_records.proofs.laws.law_smaller_bodies.Goals as goal

pub returns : goal.returns
returns c = record { less = written_by_less; most = written_by_most }
