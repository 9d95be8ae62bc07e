use Rattle.gateway_cmd.proofs.RunTraces.{run_trace_pass, run_trace_stands}
use Rattle.gateway_cmd.proofs.laws.law_trace_stands.Goals as goal

pub returns : goal.returns
returns c = λ service h old spans new trace sound. (run_trace_pass trace, run_trace_stands sound trace)
