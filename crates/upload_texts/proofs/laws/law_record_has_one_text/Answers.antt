use Rattle.upload_texts.proofs.lemmas.Back.{record_has_one}
use Rattle.upload_texts.proofs.laws.law_record_has_one_text.Goals as goal

pub returns : goal.returns
returns c = record_has_one
