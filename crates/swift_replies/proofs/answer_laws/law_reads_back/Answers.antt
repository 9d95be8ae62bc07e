use Rattle.swift_replies.proofs.answer_laws.law_reads_back.Goals as goal
use Rattle.swift_replies.proofs.lemmas.ReadsBack.{reads_back}

pub returns : goal.returns
returns c = reads_back c.law_text_reads_back.ensures
