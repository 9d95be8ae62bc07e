use Rattle.list_pages.proofs.lemmas.Jumps.{jumps_exactly}
use Rattle.list_pages.proofs.laws.law_jumps_exactly.Goals as goal

pub returns : goal.returns
returns c = jumps_exactly
