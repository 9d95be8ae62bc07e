use Rattle.http_answers.proofs.lemmas.HeadLemmas.{dead_crowded}
use Rattle.http_answers.proofs.head.find_answer_head_within.Goals as goal

pub returns-in-Crowded : goal.returns-in-Crowded
returns-in-Crowded c = dead_crowded _ c.args.bytes.now c.requires c.in-Crowded.ensures.0 c.in-Crowded.ensures.1
