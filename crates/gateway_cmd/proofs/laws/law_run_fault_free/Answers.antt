use Rattle.std.proofs.Common.{true, arith}
use Rattle.gateway_cmd.proofs.RunTraces.{run_trace_order, run_trace_follow, run_trace_pass, run_trace_fault_free, run_trace_unbroken}
use Rattle.gateway_cmd.proofs.laws.law_run_fault_free.Goals as goal

pub returns : goal.returns
returns c = λ service h old spans new trace sound still placed same.
    let rises = run_trace_order trace in (
      run_trace_unbroken (run_trace_fault_free true service h still trace) placed same,
      c.law_one_run.ensures service.settings h spans old.progress.store.number new.progress.store.number new.progress.store.number (run_trace_follow trace) (run_trace_pass trace) rises (omega arith),
    )
