use Rattle.std.proofs.Common.{sym, subst}
use Rattle.store_cmd.specs.Report.{Reports, line_of}
use Rattle.store_cmd.proofs.Running.{nothing_reports}
use Rattle.store_cmd.proofs.command.report_store_run.Goals as goal

pub returns-in-Done-clause-reports : goal.returns-in-Done-clause-reports
returns-in-Done-clause-reports g c =
    let sink = g.R.Sink.model c.args.report.now in
    subst (λ status. Reports (line_of status) sink sink) (sym c.in-Done.is) (nothing_reports sink)
