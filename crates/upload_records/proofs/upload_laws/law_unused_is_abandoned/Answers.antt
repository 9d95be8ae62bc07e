use Rattle.upload_records.proofs.OrphanPut.{unused_abandoned}
use Rattle.upload_records.proofs.upload_laws.law_unused_is_abandoned.Goals as goal

pub returns : goal.returns
returns c = unused_abandoned
