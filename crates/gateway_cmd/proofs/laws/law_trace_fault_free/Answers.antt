use Rattle.gateway_cmd.proofs.RunTraces.{run_trace_fault_free}
use Rattle.gateway_cmd.proofs.laws.law_trace_fault_free.Goals as goal

pub returns : goal.returns
returns c = λ all service h old spans new trace still. run_trace_fault_free all service h still trace
