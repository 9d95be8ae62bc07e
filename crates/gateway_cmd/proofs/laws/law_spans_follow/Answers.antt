use Rattle.gateway_cmd.proofs.RunTraces.{run_trace_follow}
use Rattle.gateway_cmd.proofs.laws.law_spans_follow.Goals as goal

pub returns : goal.returns
returns c = λ all service h old spans new trace. run_trace_follow trace
