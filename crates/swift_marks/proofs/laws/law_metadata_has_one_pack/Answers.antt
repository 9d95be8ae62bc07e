use Rattle.swift_marks.proofs.lemmas.PackLaws.{metadata_has_one_pack}
use Rattle.swift_marks.proofs.laws.law_metadata_has_one_pack.Goals as goal

pub returns : goal.returns
returns c = λ pieces entries h. metadata_has_one_pack pieces entries h
