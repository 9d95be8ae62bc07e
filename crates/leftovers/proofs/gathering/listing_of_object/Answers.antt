use Rattle.std.specs.Prelude.{is_none, Option, IfOk}
use Rattle.std.specs.Option.{option_and_then}
use Rattle.std.proofs.Common.{sym, ap, subst, ◌∙◌}
use Rattle.swift_calls.specs.History.{present}
use Rattle.swift_marks.specs.Tag.{read_stamp}
use Rattle.swift_marks.specs.declared.tag.Stamp.{Stamp}
use Rattle.account_calls.specs.Calls.{always}
use Rattle.account_calls.proofs.lemmas.Left.{throughout_none}
use Rattle.leftovers.specs.Lists.{id_in_stamp, IsListByStamp, IsListOfId}
use Rattle.leftovers.proofs.Listings.{stamp_fault, whole_lists_none}
use Rattle.leftovers.proofs.lemmas.Readings.{asks_idle}
use Rattle.leftovers.proofs.gathering.listing_of_object.Goals as goal

pub returns-in_err-stamp-clause-asks : goal.returns-in_err-stamp-clause-asks
returns-in_err-stamp-clause-asks g c =
    stamp_fault c.args.bucket.now c.args.item.now c.requires.bucket _ _ c.as_slice.ensures _ c.in_err-stamp.ensures _ c.from_residual.ensures.1

pub returns-in_err-stamp-clause-leaves : goal.returns-in_err-stamp-clause-leaves
returns-in_err-stamp-clause-leaves g c =
    throughout_none (g.W.Swift.history c.args.store.now)

pub returns-in-None : goal.returns-in-None
returns-in-None g c =
    let reads = ap read_stamp (sym c.as_slice.ensures) ∙ c.in_ok-stamp.ensures in
    record {
      asks = asks_idle (always 1) _ _ (λ tree sound has.
          c.new.ensures ∙ sym (whole_lists_none tree c.args.bucket.now c.args.item.now c.requires.bucket sound has c.in_ok-stamp.stamp reads (ap is_none c.in-None.is)));
      says = λ observable.
          subst (λ (o : Option Stamp). IsListByStamp o c.args.bucket.now c.args.item.now (present (g.W.Swift.history c.args.store.now)) c.new.result) (sym reads)
          (subst (λ i. IsListOfId i c.args.bucket.now c.args.item.now (present (g.W.Swift.history c.args.store.now)) c.new.result) (sym c.in-None.is) tt);
      leaves = throughout_none (g.W.Swift.history c.args.store.now);
    }

pub listing_under-requires-clause-id : goal.listing_under-requires-clause-id
listing_under-requires-clause-id g c = ap (option_and_then id_in_stamp) (ap read_stamp (sym c.as_slice.ensures) ∙ c.in_ok-stamp.ensures) ∙ c.in-Some.is

pub returns : goal.returns
returns g c =
    let reads = ap read_stamp (sym c.as_slice.ensures) ∙ c.in_ok-stamp.ensures in
    record {
      asks = c.listing_under.ensures.asks;
      says = λ observable.
          subst (λ (o : Option Stamp). IfOk c.listing_under.result (IsListByStamp o c.args.bucket.now c.args.item.now (present (g.W.Swift.history c.args.store.now)))) (sym reads)
          (subst (λ i. IfOk c.listing_under.result (IsListOfId i c.args.bucket.now c.args.item.now (present (g.W.Swift.history c.args.store.now)))) (sym c.in-Some.is) (c.listing_under.ensures.says observable));
      leaves = c.listing_under.ensures.leaves;
    }
