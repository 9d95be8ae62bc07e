use Rattle.store_cmd.proofs.WordsLemmas.{met_where, met_unless}
use Rattle.store_cmd.proofs.words.match_store_words.Goals as goal

pub returns-in-Ok : goal.returns-in-Ok
returns-in-Ok c = met_where _ _ c.in-Ok.matches c.in_ok-command.ensures c.in-Ok.ensures.kinds c.in-Ok.ensures.matches

pub returns-in-Err : goal.returns-in-Err
returns-in-Err c = met_unless _ _ c.in-Err.error c.fault_of_store_words.result c.in_ok-command.ensures c.in-Err.ensures.kinds c.fault_of_store_words.ensures
