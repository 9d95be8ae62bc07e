use Rattle.gateway_cmd.proofs.RunTraces.{run_trace_counted}
use Rattle.gateway_cmd.proofs.laws.law_sent_are_counted.Goals as goal

pub returns : goal.returns
returns c = λ service h old spans new trace. run_trace_counted service h trace
