use Rattle.slo_manifest.specs.Manifest.{entries_of}
use Rattle.slo_manifest.proofs.AnswerLemmas.{due_of, due_reads, due_not_memory, answer_due}
use Rattle.slo_manifest.proofs.laws.law_one_answer.Goals as goal

pub returns : goal.returns
returns c = λ form text. (due_of (entries_of form text), due_not_memory (entries_of form text), due_reads form text, answer_due form text)
