use Rattle.std.specs.Prelude.{◌≡◌, true, Option, IfSome}
use Rattle.upload_texts.specs.Records.{has_record_text}
use Rattle.upload_texts.specs.declared.record.Record.{Record}
use Rattle.std.proofs.Common.{sym, subst, ◌∙◌, arith}
use Rattle.account_calls.proofs.lemmas.Left.{throughout_none, throughout_then}
use Rattle.account_calls.proofs.lemmas.Quiet.{asks_failed}
use Rattle.leftovers.specs.Kept.{goes}
use Rattle.leftovers.proofs.AskWalk.{clear_none, clear_some, found_none}
use Rattle.leftovers.proofs.AskedAgain.{orphan_unkeyed}
use Rattle.leftovers.proofs.Gathers.{reads_then}
use Rattle.leftovers.proofs.Namings.{asks_room}
use Rattle.leftovers.proofs.lemmas.Readings.{asks_given}
use Rattle.leftovers.proofs.asking.ask_id.Goals as goal

pub returns-then-not-is_key : goal.returns-then-not-is_key
returns-then-not-is_key g c = record {
  asks = asks_room (omega arith) (orphan_unkeyed c.args.bucket.now c.args.id.now (goes c.args.kept.now) c.requires.bucket _ (sym c.is_key.ensures ∙ c.if-not-is_key.true));
  clear = λ observable. tt;
  leaves = throughout_none (g.W.Swift.history c.args.store.now);
}

pub returns-in_err-found-clause-asks : goal.returns-in_err-found-clause-asks
returns-in_err-found-clause-asks g c =
    asks_failed (omega arith) (asks_given (λ tree sound has. has.has) (c.in_err-found.ensures.asks (goes c.args.kept.now))) _ c.from_residual.ensures.1

pub returns-in_err-found-clause-leaves : goal.returns-in_err-found-clause-leaves
returns-in_err-found-clause-leaves g c =
    c.in_err-found.ensures.leaves

pub returns-in-None : goal.returns-in-None
returns-in-None g c = record {
  asks = found_none c.args.bucket.now c.args.id.now (goes c.args.kept.now) (c.in_ok-found.ensures.asks (goes c.args.kept.now));
  clear = λ observable. clear_none c.in_ok-found.found (c.in_ok-found.ensures.says observable) c.in-None.is;
  leaves = c.in_ok-found.ensures.leaves;
}

pub ask_record-requires-clause-has : goal.ask_record-requires-clause-has
ask_record-requires-clause-has g c = subst (λ (o : Option Record). IfSome o (λ r. has_record_text r ≡ true)) c.in-Some.is c.in_ok-found.ensures.has

pub returns : goal.returns
returns g c = record {
  asks = reads_then {n = 1} {m = 1} (omega arith) (asks_given (λ tree sound has. has.has) (c.in_ok-found.ensures.asks (goes c.args.kept.now))) (c.ask_record.ensures.asks c.args.id.now)
      (λ tree sound has told. record { has = has; is = sym c.in-Some.is ∙ told }) (λ tree done sound has first then. tt);
  clear = λ observable. clear_some _ _ _ _ c.in_ok-found.found _ (c.in_ok-found.ensures.says observable) c.in-Some.is (c.in_ok-found.ensures.asks (goes c.args.kept.now)).grows.on c.in_ok-found.ensures.leaves observable _ c.ask_record.ensures.clear;
  leaves = throughout_then (c.in_ok-found.ensures.asks (goes c.args.kept.now)).grows.on (c.ask_record.ensures.asks c.args.id.now).grows.on c.in_ok-found.ensures.leaves c.ask_record.ensures.leaves;
}
