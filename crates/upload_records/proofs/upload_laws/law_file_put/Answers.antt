use Rattle.upload_records.proofs.lemmas.Objects.{file_puts}
use Rattle.upload_records.proofs.upload_laws.law_file_put.Goals as goal

pub returns : goal.returns
returns c = file_puts
