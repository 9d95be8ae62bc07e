-- What was put of the report.
use Rattle.std.proofs.Common.{append-nil, sym, inl}
use Rattle.gate_base.specs.Told.{SinkModel}
use Rattle.gateway_cmd.specs.declared.status.Status.TheVariants.{Done}
use Rattle.gateway_cmd.specs.Report.{Reports, line_of}

-- where all was done there is nothing to put
pub nothing_reports : (sink : SinkModel) → Reports (line_of Done) sink sink
unfolding line_of
nothing_reports sink = record { observable = λ observable. observable; effect = λ observable. inl (sym (append-nil sink.bytes)) }
