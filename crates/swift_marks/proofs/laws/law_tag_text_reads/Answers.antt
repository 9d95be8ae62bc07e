use Rattle.swift_marks.proofs.lemmas.TagLaws.{tag_text_reads}
use Rattle.swift_marks.proofs.laws.law_tag_text_reads.Goals as goal

pub returns : goal.returns
returns c = λ tag h. tag_text_reads tag h
