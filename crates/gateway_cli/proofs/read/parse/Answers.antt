use Rattle.gateway_cli.proofs.WordsLemmas.{met_where, met_unless}
use Rattle.gateway_cli.proofs.read.parse.Goals as goal

pub returns-in-Ok : goal.returns-in-Ok
returns-in-Ok c = met_where _ _ c.in-Ok.matches c.in_ok-gate.ensures c.in-Ok.ensures.kinds c.in-Ok.ensures.matches

pub returns-in-Err : goal.returns-in-Err
returns-in-Err c = met_unless _ _ c.in-Err.error c.fault_of_command_words.result c.in_ok-gate.ensures c.in-Err.ensures.kinds c.fault_of_command_words.ensures
