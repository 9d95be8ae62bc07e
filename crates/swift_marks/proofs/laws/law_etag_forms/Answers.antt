use Rattle.swift_marks.proofs.lemmas.FieldLaws.{etag_of_one, etag_of_parts}
use Rattle.swift_marks.proofs.laws.law_etag_forms.Goals as goal

pub returns : goal.returns
returns c = λ digits size hex. (etag_of_one digits size hex, etag_of_parts digits size hex)
