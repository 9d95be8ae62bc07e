use Rattle.std.specs.Prelude.{◌≡◌, Some, OnOk, true}
use Rattle.std.proofs.Common.{sym, ap, subst}
use Rattle.swift_calls.specs.History.{present}
use Rattle.upload_texts.specs.Records.{has_record_text}
use Rattle.upload_texts.specs.declared.record.Record.{Record}
use Rattle.account_calls.proofs.lemmas.Left.{throughout_none}
use Rattle.leftovers.specs.Asking.{IsRecordClear}
use Rattle.leftovers.specs.Kept.{goes}
use Rattle.leftovers.specs.Leftovers.{is_open}
use Rattle.leftovers.proofs.AskedAgain.{done_key, open_refused}
use Rattle.leftovers.proofs.lemmas.Readings.{asks_given}
use Rattle.leftovers.proofs.asking.ask_record.Goals as goal

pub returns-in-Open : goal.returns-in-Open
returns-in-Open g c = record {
  asks = λ id. open_refused c.args.bucket.now id (goes c.args.kept.now) _ c.args.told.now (ap (λ (r : Record). is_open (Some r)) c.in-Open.is);
  clear = λ observable. tt;
  leaves = throughout_none (g.W.Swift.history c.args.store.now);
}

pub ask_list-requires-clause-key : goal.ask_list-requires-clause-key
ask_list-requires-clause-key g c = done_key _ _ _ _ _ (subst (λ (r : Record). has_record_text r ≡ true) c.in-Done.is c.requires.has)

pub returns-in-Done : goal.returns-in-Done
returns-in-Done g c = record {
  asks = λ id. asks_given (λ tree sound has. has.has.has) c.ask_list.ensures.asks;
  clear = λ observable. subst (λ (r : Record). OnOk c.ask_list.result (IsRecordClear c.args.bucket.now (goes c.args.kept.now) (present (g.W.Swift.history c.args.store.now)) (Some r))) (sym c.in-Done.is) (c.ask_list.ensures.clear observable);
  leaves = c.ask_list.ensures.leaves;
}
