use Rattle.std.proofs.Common.{ap, ◌∙◌}
use Rattle.account_calls.proofs.lemmas.Ask.{asks_fault, asks_told}
use Rattle.leftovers.specs.Leftovers.{is_open}
use Rattle.leftovers.proofs.gathering.is_open_upload.Goals as goal

pub returns-in_err-record-clause-asks : goal.returns-in_err-record-clause-asks
returns-in_err-record-clause-asks g c =
    λ bucket is of. asks_fault (λ tree has. has) (c.in_err-record.ensures.asks bucket is of) _ c.from_residual.ensures.1

pub returns-in_err-record-clause-leaves : goal.returns-in_err-record-clause-leaves
returns-in_err-record-clause-leaves g c =
    c.in_err-record.ensures.leaves

pub returns : goal.returns
returns g c = record {
  asks = λ bucket is of. asks_told (λ tree has. has) _ (λ tree sound has told. c.is_open_record-opened.ensures ∙ ap is_open told) (c.in_ok-record.ensures.asks bucket is of);
  says = λ observable. (c.in_ok-record.record, c.in_ok-record.ensures.says observable, c.is_open_record-opened.ensures);
  leaves = c.in_ok-record.ensures.leaves;
}
