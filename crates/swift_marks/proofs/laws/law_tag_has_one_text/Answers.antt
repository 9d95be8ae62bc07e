use Rattle.swift_marks.proofs.lemmas.TagLaws.{tag_has_one_text}
use Rattle.swift_marks.proofs.laws.law_tag_has_one_text.Goals as goal

pub returns : goal.returns
returns c = λ text tag h. tag_has_one_text text tag h
