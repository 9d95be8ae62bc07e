use Rattle.std.proofs.Common.{sym, ap, ◌∙◌, arith, true≢false}
use Rattle.std.specs.Prelude.{is_some}
use Rattle.std.specs.FinMap.{get}
use Rattle.account_calls.proofs.lemmas.Left.{throughout_none}
use Rattle.account_calls.proofs.lemmas.Quiet.{asks_failed, asks_no_memory}
use Rattle.leftovers.specs.Kept.{goes}
use Rattle.leftovers.specs.Leftovers.{id_in}
use Rattle.leftovers.proofs.AskWalk.{clears_put, segment_asked, segment_passed}
use Rattle.leftovers.proofs.Held.{put_there, stays_none, stays_put}
use Rattle.leftovers.specs.Faults.{as_plan}
use Rattle.leftovers.proofs.lemmas.Faults.{plan_gives}
use Rattle.leftovers.proofs.asking.ask_item.Goals as goal

pub returns-then-not-goes : goal.returns-then-not-goes
returns-then-not-goes g c =
    let not = ap (goes c.args.kept.now) (sym c.as_slice.ensures) ∙ sym c.goes.ensures ∙ c.if-not-goes.true in
    record {
      asks = segment_passed _ c.args.bucket.now (goes c.args.kept.now) c.args.item.now;
      clear = λ observable clear. clear;
      asked = λ passes. absurd (true≢false (sym passes ∙ not));
      stays = stays_none c.args.asked.now;
      leaves = throughout_none (g.W.Swift.history c.args.store.now);
    }

pub returns-then-has_name : goal.returns-then-has_name
returns-then-has_name g c = record {
  asks = segment_passed _ c.args.bucket.now (goes c.args.kept.now) c.args.item.now;
  clear = λ observable clear. clear;
  asked = λ passes. ap (λ n. is_some (get c.args.asked.now n)) (sym (c.id_in-id.ensures ∙ ap id_in c.as_slice-2.ensures)) ∙ sym c.has_name.ensures ∙ c.if-has_name.true;
  stays = stays_none c.args.asked.now;
  leaves = throughout_none (g.W.Swift.history c.args.store.now);
}

pub returns-in_err-ask_named_id-clause-asks : goal.returns-in_err-ask_named_id-clause-asks
returns-in_err-ask_named_id-clause-asks g c =
    let passes = ap (goes c.args.kept.now) (sym c.as_slice.ensures) ∙ sym c.goes.ensures ∙ c.if-not-goes.false in
    asks_failed (omega arith) (segment_asked c.args.bucket.now _ (goes c.args.kept.now) c.args.item.now (c.id_in-id.ensures ∙ ap id_in c.as_slice-2.ensures) passes c.in_err-ask_named_id.ensures.asks) (as_plan c.from_residual.result) (plan_gives _ _ c.from_residual.ensures.1)

pub returns-in_err-ask_named_id-clause-leaves : goal.returns-in_err-ask_named_id-clause-leaves
returns-in_err-ask_named_id-clause-leaves g c =
    let passes = ap (goes c.args.kept.now) (sym c.as_slice.ensures) ∙ sym c.goes.ensures ∙ c.if-not-goes.false in
    c.in_err-ask_named_id.ensures.leaves

pub returns-in_err-put-clause-asks : goal.returns-in_err-put-clause-asks
returns-in_err-put-clause-asks g c =
    let passes = ap (goes c.args.kept.now) (sym c.as_slice.ensures) ∙ sym c.goes.ensures ∙ c.if-not-goes.false in
    asks_no_memory (omega arith) (segment_asked c.args.bucket.now _ (goes c.args.kept.now) c.args.item.now (c.id_in-id.ensures ∙ ap id_in c.as_slice-2.ensures) passes c.in_ok-ask_named_id.ensures.asks) (as_plan c.from_residual-in_err-put.result) (plan_gives _ _ c.from_residual-in_err-put.ensures.1)

pub returns-in_err-put-clause-leaves : goal.returns-in_err-put-clause-leaves
returns-in_err-put-clause-leaves g c =
    let passes = ap (goes c.args.kept.now) (sym c.as_slice.ensures) ∙ sym c.goes.ensures ∙ c.if-not-goes.false in
    c.in_ok-ask_named_id.ensures.leaves

pub returns : goal.returns
returns g c =
    let passes = ap (goes c.args.kept.now) (sym c.as_slice.ensures) ∙ sym c.goes.ensures ∙ c.if-not-goes.false in
    let of = c.id_in-id.ensures ∙ ap id_in c.as_slice-2.ensures in
    record {
      asks = segment_asked c.args.bucket.now _ (goes c.args.kept.now) c.args.item.now of passes c.in_ok-ask_named_id.ensures.asks;
      clear = λ observable clear. clears_put _ c.in_ok-put.ensures.ok (c.in_ok-ask_named_id.ensures.clear observable) clear;
      asked = λ passes. ap (λ n. is_some (get c.put.new.self n)) (sym of) ∙ put_there _ _ c.in_ok-put.ensures.ok;
      stays = stays_put _ _ c.in_ok-put.ensures.ok;
      leaves = c.in_ok-ask_named_id.ensures.leaves;
    }
