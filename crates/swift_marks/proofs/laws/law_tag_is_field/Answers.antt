use Rattle.swift_marks.proofs.lemmas.FieldLaws.{tag_is_field}
use Rattle.swift_marks.proofs.laws.law_tag_is_field.Goals as goal

pub returns : goal.returns
returns c = λ tag h. tag_is_field tag h
