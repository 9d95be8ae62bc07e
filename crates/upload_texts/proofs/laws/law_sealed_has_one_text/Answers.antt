use Rattle.upload_texts.proofs.lemmas.Back.{sealed_has_one}
use Rattle.upload_texts.proofs.laws.law_sealed_has_one_text.Goals as goal

pub returns : goal.returns
returns c = sealed_has_one
