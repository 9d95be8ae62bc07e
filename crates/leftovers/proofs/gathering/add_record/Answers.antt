use Rattle.account_calls.proofs.lemmas.Ask.{asks_fault, asks_out_of_memory, asks_told}
use Rattle.leftovers.proofs.Held.{record_opened, record_unopened, stays_none, stays_put}
use Rattle.leftovers.proofs.Gathers.{record_added, record_passed}
use Rattle.leftovers.proofs.gathering.add_record.Goals as goal

pub returns-in_err-is_open_upload-clause-asks : goal.returns-in_err-is_open_upload-clause-asks
returns-in_err-is_open_upload-clause-asks g c =
    λ bucket is of. asks_fault (λ tree has. has) (c.in_err-is_open_upload.ensures.asks bucket is of) _ c.from_residual.ensures.1

pub returns-in_err-is_open_upload-clause-leaves : goal.returns-in_err-is_open_upload-clause-leaves
returns-in_err-is_open_upload-clause-leaves g c =
    c.in_err-is_open_upload.ensures.leaves

pub returns-then-not-branch : goal.returns-then-not-branch
returns-then-not-branch g c = record {
  asks = λ bucket is of.
      asks_told (λ tree has. has) _ (λ tree sound has told. record_passed tree bucket c.args.name.now c.args.table.now c.in_ok-is_open_upload.field-0 c.if-not-branch.true told) (c.in_ok-is_open_upload.ensures.asks bucket is of);
  holds = λ observable. record_unopened (c.in_ok-is_open_upload.ensures.says observable) c.if-not-branch.true;
  stays = stays_none c.args.table.now;
  leaves = c.in_ok-is_open_upload.ensures.leaves;
}

pub returns-in_err-put-clause-asks : goal.returns-in_err-put-clause-asks
returns-in_err-put-clause-asks g c =
    λ bucket is of. asks_out_of_memory (λ tree has. has) (c.in_ok-is_open_upload.ensures.asks bucket is of) _ c.from_residual-in_err-put.ensures.1

pub returns-in_err-put-clause-leaves : goal.returns-in_err-put-clause-leaves
returns-in_err-put-clause-leaves g c =
    c.in_ok-is_open_upload.ensures.leaves

pub returns : goal.returns
returns g c = record {
  asks = λ bucket is of.
      asks_told (λ tree has. has) _ (λ tree sound has told. record_added tree bucket c.args.name.now _ c.args.table.now c.put.new.self c.in_ok-is_open_upload.field-0 c.if-not-branch.false told c.as_slice.ensures c.in_ok-put.ensures.ok)
      (c.in_ok-is_open_upload.ensures.asks bucket is of);
  holds = λ observable. record_opened _ c.as_slice.result.now c.as_slice.ensures c.in_ok-put.ensures.ok (c.in_ok-is_open_upload.ensures.says observable);
  stays = stays_put _ c.as_slice.result.now c.in_ok-put.ensures.ok;
  leaves = c.in_ok-is_open_upload.ensures.leaves;
}
