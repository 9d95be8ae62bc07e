use Rattle.std.specs.FinMap.{empty}
use Rattle.std.proofs.Common.{◌∙◌}
use Rattle.upload_records.proofs.Carried.{sound_empty}
use Rattle.upload_records.proofs.lemmas.Plain.{plain_empty}
use Rattle.upload_records.proofs.lemmas.Settled.{unsealed_empty, s3_state_unsealed}
use Rattle.upload_records.proofs.laws.law_empty_consistent.Goals as goal

pub returns : goal.returns
returns c = (sound_empty, unsealed_empty, s3_state_unsealed empty unsealed_empty ∙ plain_empty)
